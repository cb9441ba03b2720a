-- `processes::is_well_formed` meets its contract.
-- Each turn takes one code: a fixed point is kept with its end, a variable or an action is tested.
use Prim.Native.Nat.{◌-◌}
use lib.ListN.{length}
use Rattle.processes.proofs.Walking.{Walking}
use Rattle.processes.proofs.scopes.is_well_formed.Given as goal

abbrev pub invariant-loop-at : goal.invariant-loop-at
invariant-loop-at l = Walking l.frame l.ends l.count l.at

abbrev pub decreases-loop-at : goal.decreases-loop-at
decreases-loop-at l = length l.frame - l.at
