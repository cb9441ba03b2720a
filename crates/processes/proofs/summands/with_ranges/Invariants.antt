-- `processes::with_ranges` meets its contract.
-- What was put and what is left make the whole; four behind four find place.
use Rattle.processes.proofs.CountedBytes.{Putting}
use Rattle.processes.proofs.summands.with_ranges.Given as goal

abbrev pub invariant-loop-i : goal.invariant-loop-i
invariant-loop-i l = Putting l.frame l.count l.initial.all l.all l.i
