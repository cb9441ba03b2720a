-- `processes::are_below` meets its contract.
-- What is tested of all places is tested of all bytes there.
use Prim.Native.Nat.{ℕ, ◌+◌}
use native.Mathlib.Omega.{arith}
use mathlib.Core.Path.{◌≡◌, refl, ap₂, ◌∙◌}
use lib.ListN.{get_or}
use lib.Dec.{ltb}
use borrow.Author.Rules.{rules}
use Rattle.std.proofs.Common.{tests}
use Rattle.std.proofs.lemmas.Iterator.{YieldsList-from_range}
use Rattle.std.proofs.lemmas.Iterator.Search.{all_from_yields_List}
use Rattle.meaning.specs.Ranges.{within}
use Rattle.formulas.specs.Contract.{part}
use Rattle.inputs.specs.Inputs.{count_of}
use Rattle.processes.proofs.CountedBytes.{below_told}
use Rattle.processes.proofs.summands.are_below.Goals as goal

pub returns : goal.returns
returns c =
    let f = c.args.frame.now in
    let count = c.from-count.result in
    let number : count ≡ count_of f = c.from-count.ensures ∙ c.element.ensures in
    let behind : 2 + count + 0 ≡ 2 + count_of f = omega (arith, number) in
    all_from_yields_List (λ i. ltb (get_or f (2 + count + i) 0) (get_or f (2 + i) 0)) _ _ _ c.all.ensures.ran
    (YieldsList-from_range 0 count count refl (omega arith)) (λ x b q k. search (rules, tests))
    ∙ below_told f count 0 count ∙ ap₂ (λ (j n : ℕ). within (part f j n) (part f 2 n)) behind number
