-- `rounds::round` meets its contract.
-- Each further instance stands in the row of the first one's equation; so all looks are at this equation.
use Rattle.solving.proofs.RoundsLaws.{Looking}
use Rattle.solving.proofs.rounds.round.Given as goal

abbrev pub invariant-loop-j : goal.invariant-loop-j
invariant-loop-j l = Looking l.bodies l.equations l.table l.graph l.e l.initial.s l.s

abbrev pub decreases-loop-j : goal.decreases-loop-j
decreases-loop-j l = l.s.left
