-- `scans::skip` meets its contract.
-- Each turn goes on by one code; where nothing is left to come, the formula has ended.
use Prim.Native.Nat.{◌-◌}
use Rattle.scans.proofs.Skipping.{Skipping}
use Rattle.scans.proofs.modals.skip.Given as goal

abbrev pub invariant-loop-pending : goal.invariant-loop-pending
invariant-loop-pending l = Skipping l.sheet l.at l.next l.count l.pending

abbrev pub decreases-loop-pending : goal.decreases-loop-pending
decreases-loop-pending l = 258 - l.next
