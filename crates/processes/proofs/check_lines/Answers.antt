-- `processes::check_lines` meets its contract.
-- Before each turn number and line of the text are those of what is left of it.
use native.Mathlib.Omega.{arith}
use mathlib.Core.Path.{refl}
use Rattle.reading.proofs.Turns.{end_near}
use Rattle.processes.proofs.Turns.{first_same, one_refused, next_same, none_refused}
use Rattle.processes.proofs.check_lines.Goals as goal

pub loop-at-init : goal.loop-at-init
loop-at-init c =
    record
    { short = c.requires; near = omega arith; early = omega arith; same = first_same _ c.requires }

pub returns-in-Err : goal.returns-in-Err
returns-in-Err c =
    one_refused c.loop-at.invariant.same c.loop-at-test.true (rw c.in-Err.is at c.frame_at-f.ensures) _ refl

pub loop-at-preserved : goal.loop-at-preserved
loop-at-preserved c =
    let e = rw c.in_default.is at c.frame_at-f.ensures in
    let k = c.loop-at.invariant in
    let end = end_near _ _ e c.loop-at-test.true in
    record {
      short = k.short;
      near = omega (arith, end);
      early = omega (arith, k.early, end);
      same = next_same k.same c.loop-at-test.true e refl;
    }

pub overflow_add-at : goal.overflow_add-at
overflow_add-at c =
    omega (arith, end_near _ _ c.frame_at-f.ensures c.loop-at-test.true, c.loop-at.invariant.short)

pub loop-at-smaller : goal.loop-at-smaller
loop-at-smaller c = omega (arith, end_near _ _ c.frame_at-f.ensures c.loop-at-test.true)

pub returns : goal.returns
returns c = none_refused c.loop-at.invariant.same c.loop-at-test.false
