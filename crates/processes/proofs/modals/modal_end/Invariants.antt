-- `processes::modal_end` meets its contract.
-- `left` formulas are still to come; a code takes one of them and brings those inside it.
use Prim.Native.Nat.{◌-◌}
use lib.ListN.{length}
use Rattle.processes.proofs.Rows.{Ending}
use Rattle.processes.proofs.modals.modal_end.Given as goal

abbrev pub invariant-loop-left : goal.invariant-loop-left
invariant-loop-left l = Ending l.frame l.start l.at l.left

abbrev pub decreases-loop-left : goal.decreases-loop-left
decreases-loop-left l = length l.frame - l.at
