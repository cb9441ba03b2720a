-- `processes::are_ranges` meets its contract.
-- What is tested of all places is tested of all bytes there.
use Prim.Native.Nat.{ℕ, ◌+◌}
use native.Mathlib.Omega.{arith}
use mathlib.Core.Path.{◌≡◌, refl, ap, ◌∙◌}
use lib.ListN.{get_or}
use borrow.Author.Rules.{rules}
use Rattle.std.proofs.Common.{tests}
use Rattle.std.proofs.lemmas.Iterator.{YieldsList-from_range}
use Rattle.std.proofs.lemmas.Iterator.Search.{all_from_yields_List}
use Rattle.meaning.specs.Ranges.{is_range, all_ranges}
use Rattle.formulas.specs.Contract.{part}
use Rattle.inputs.specs.Inputs.{count_of}
use Rattle.processes.proofs.CountedBytes.{ranges_told}
use Rattle.processes.proofs.summands.are_ranges.Goals as goal

pub returns : goal.returns
returns c =
    let f = c.args.frame.now in
    let count = c.from-count.result in
    let number : count ≡ count_of f = c.from-count.ensures ∙ c.element.ensures in
    all_from_yields_List (λ i. is_range (get_or f (2 + i) 0)) _ _ _ c.all.ensures.ran
    (YieldsList-from_range 0 count count refl (omega arith)) (λ x b q k. search (rules, tests))
    ∙ ranges_told f 0 count ∙ ap (λ (n : ℕ). all_ranges (part f 2 n)) number
