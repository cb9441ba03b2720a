-- `Progress::set_back` meets its contract: each turn the last instance of the equation that is not at w goes back.
-- The next one is before it, and at the end there is none.
use Rattle.solving.proofs.StepLaws.{going_none, going_more, going_done, going_less}
use Rattle.solving.proofs.steps.Progress.set_back.Goals as goal

pub loop-j-smaller : goal.loop-j-smaller
loop-j-smaller c = going_less c.loop-j.invariant c.in-Some.ensures c.put_back-s.ensures

pub loop-j-preserved : goal.loop-j-preserved
loop-j-preserved c = going_more c.loop-j.invariant c.in-Some.ensures c.put_back-s.ensures c.requires

pub loop-j-init : goal.loop-j-init
loop-j-init c = going_none

pub returns : goal.returns
returns c = going_done c.loop-j.invariant c.in_default.ensures
