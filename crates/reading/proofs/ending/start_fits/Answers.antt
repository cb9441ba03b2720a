-- `reading::start_fits` meets its contract.
-- As many arguments as parameters, each below its range.
use mathlib.Core.Path.{refl, ap, ◌∙◌}
use Prim.Native.Nat.{ℕ, min}
use native.Mathlib.Omega.{arith}
use Rattle.std.proofs.Common.{rules, tests}
use Rattle.std.proofs.lemmas.Iterator.{YieldsList-from_range}
use Rattle.std.proofs.lemmas.Iterator.Search.{all_from_yields_List}
use Rattle.reading.proofs.Starts.{wrong_number, below_at, all_below}
use Rattle.reading.proofs.ending.start_fits.Goals as goal

pub returns-then-s-k : goal.returns-then-s-k
returns-then-s-k c =
    let least = c.smaller-k.ensures ∙ ap (λ (x : ℕ). min x 4) c.wide.ensures.0 in
    wrong_number _ _ _ _ _ (search rules) (search rules) least c.if-s-k.true

pub returns : goal.returns
returns c =
    let k = c.smaller-k.result in
    let least = c.smaller-k.ensures ∙ ap (λ (x : ℕ). min x 4) c.wide.ensures.0 in
    all_from_yields_List (below_at c.args.s.arguments c.args.e.ranges) _ _ _ c.all.ensures.ran
    (YieldsList-from_range 0 k k refl (omega arith)) (λ x b q l. search (rules, tests))
    ∙ all_below _ _ _ _ _ (search rules) (search rules) least c.if-s-k.false
