-- `lending::fill` meets its contract.
-- A turn writes one record more, over as many as there are.
use native.Mathlib.Omega.{arith}
use Prim.Native.Nat.{ℕ, ◌<◌, ◌+◌}
use mathlib.Core.Path.{◌≡◌}
use mathlib.Core.List.{List, map}
use lib.ListN.{length, get_or, set, length-map, get_or-map}
use borrow.Author.Rules.{rules}
use Rattle.formulas.specs.declared.Equation.{Equation}
use Rattle.formulas.specs.Bodies.{blank}
use Rattle.lending.specs.declared.Record.{Record}
use Rattle.lending.specs.Records.{record_of}
use Rattle.lending.specs.Prepared.{overwritten}
use Rattle.lending.proofs.Lists.{overwritten_more}
use Rattle.lending.proofs.fill.Goals as goal

one_more : (i : ℕ) (es : List Equation) (rs ys : List Record) → i < length es → i < length ys
    → rs ≡ overwritten i (map record_of es) ys
    → set rs i (record_of (get_or es i blank)) ≡ overwritten (i + 1) (map record_of es) ys
one_more i es rs ys less within e =
    rw (e, ← get_or-map record_of es i blank)
    (overwritten_more i (map record_of es) ys (record_of blank) (rw length-map less) within)

pub loop-i-preserved : goal.loop-i-preserved
loop-i-preserved c =
    let room = rw c.in-Some.is at c.requires in
    let equations = c.in-Some.model.equations in
    let eight : length equations ≡ 8 = search rules in
    rw c.from.ensures
    (one_more c.loop-i.i equations _ _ (omega (arith, room)) (omega (arith, room)) c.loop-i.invariant)
