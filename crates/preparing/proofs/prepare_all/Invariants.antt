-- `preparing::prepare_all` meets its contract.
-- The invariant: the bodies before the e-th are prepared, and from its place on all is 0.
use Rattle.preparing.proofs.Parts.{Preparing}
use Rattle.preparing.proofs.prepare_all.Given as goal

abbrev pub invariant-loop-e : goal.invariant-loop-e
invariant-loop-e l = Preparing l.bodies l.equations l.all l.e
