-- `scans::part_end` meets its contract.
-- Each turn goes on by one code; where nothing is left to come, the item has ended.
use Prim.Native.Nat.{◌-◌}
use Rattle.scans.proofs.PartEnds.{Ending}
use Rattle.scans.proofs.summands.part_end.Given as goal

abbrev pub invariant-loop-pending : goal.invariant-loop-pending
invariant-loop-pending l = Ending l.sheet l.slot l.at l.next l.pending

abbrev pub decreases-loop-pending : goal.decreases-loop-pending
decreases-loop-pending l = 512 - l.next
