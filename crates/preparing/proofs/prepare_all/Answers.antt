-- `preparing::prepare_all` meets its contract.
-- The invariant: the bodies before the e-th are prepared, and from its place on all is 0.
use native.Mathlib.Omega.{arith}
use mathlib.Core.Path.{◌≡◌}
use Rattle.preparing.proofs.Parts.{next_clear, one_prepared}
use Rattle.preparing.proofs.prepare_all.Goals as goal

pub loop-e-init : goal.loop-e-init
loop-e-init c =
    let clear = c.requires in
    record { few = omega arith; size = clear.size; left = λ i l. clear.zeros i; done = λ j l. absurd (omega arith) }

pub prepare_body-requires : goal.prepare_body-requires
prepare_body-requires c = (c.body_of-body.ensures.short, next_clear c.loop-e.invariant (omega arith))

pub loop-e-preserved : goal.loop-e-preserved
loop-e-preserved c =
    one_prepared c.loop-e.invariant (omega arith) c.body_of-body.ensures c.prepare_body.ensures

pub returns : goal.returns
returns c =
    let all : c.loop-e.e ≡ 8 = omega arith in
    rw all at c.loop-e.invariant.done
