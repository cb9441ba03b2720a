-- `rounds::last_dirty` meets its contract.
-- Equation by equation from the last: those that were passed have no dirty instance.
use native.Mathlib.Omega.{arith}
use Rattle.solving.proofs.RoundsLaws.{calm_none, calm_but, calm_more, calm_all}
use Rattle.solving.proofs.rounds.last_dirty.Goals as goal

pub loop-e-init : goal.loop-e-init
loop-e-init c = calm_none

pub returns-in-Some : goal.returns-in-Some
returns-in-Some c = calm_but c.loop-e.invariant (omega arith) c.in-Some.ensures

pub loop-e-preserved : goal.loop-e-preserved
loop-e-preserved c = calm_more c.loop-e.invariant (omega arith) c.in_default.ensures

pub returns : goal.returns
returns c = calm_all c.loop-e.invariant (omega arith)
