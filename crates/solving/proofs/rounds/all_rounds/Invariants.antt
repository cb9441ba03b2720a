-- `rounds::all_rounds` meets its contract.
-- Each round keeps what is kept, with fewer looks left; where nothing is dirty the set is the solution.
use Rattle.solving.proofs.RoundsLaws.{Carried}
use Rattle.solving.proofs.rounds.all_rounds.Given as goal

abbrev pub invariant-loop-j : goal.invariant-loop-j
invariant-loop-j l = Carried l.bodies l.equations l.count l.table l.graph l.s

abbrev pub decreases-loop-j : goal.decreases-loop-j
decreases-loop-j l = l.s.left
