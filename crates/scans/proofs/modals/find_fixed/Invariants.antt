-- `scans::find_fixed` meets its contract.
-- Each turn passes a code; the fixed point that is sought is one of those still to come.
use Prim.Native.Nat.{◌-◌}
use Rattle.scans.proofs.Sought.{Seeking}
use Rattle.scans.proofs.modals.find_fixed.Given as goal

abbrev pub invariant-loop-at : goal.invariant-loop-at
invariant-loop-at l = Seeking l.sheet l.number l.left l.at

abbrev pub decreases-loop-at : goal.decreases-loop-at
decreases-loop-at l = 258 - l.at
