-- `rounds::settle` meets its contract.
-- Where something has changed the later equations are gone through one by one; those of the other sign go back.
use Rattle.solving.proofs.RoundsLaws.{Settling}
use Rattle.solving.proofs.rounds.settle.Given as goal

abbrev pub invariant-loop-m : goal.invariant-loop-m
invariant-loop-m l = Settling l.equations l.count l.graph l.e l.m l.initial.s l.s
