-- `scans::next_matching` meets its contract.
-- The places that were passed do not match.
use Rattle.scans.proofs.Matching.{Unmatched}
use Rattle.scans.proofs.summands.next_matching.Given as goal

abbrev pub invariant-loop-slot : goal.invariant-loop-slot
invariant-loop-slot l = Unmatched l.sheet l.places l.at l.from l.slot
