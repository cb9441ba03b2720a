-- `scans::places_of` meets its contract.
-- Each turn fills one entry of the table.
use Rattle.scans.proofs.Placing.{Placing}
use Rattle.scans.proofs.summands.places_of.Given as goal

abbrev pub invariant-loop-j : goal.invariant-loop-j
invariant-loop-j l = Placing l.sheet l.places l.j
