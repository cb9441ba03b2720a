-- `rounds::last_dirty` meets its contract.
-- Equation by equation from the last: those that were passed have no dirty instance.
use Rattle.truth.specs.Bits.{bit_of}
use Rattle.solving.proofs.RoundsLaws.{CalmFrom}
use Rattle.solving.proofs.rounds.last_dirty.Given as goal

abbrev pub invariant-loop-e : goal.invariant-loop-e
invariant-loop-e l = CalmFrom l.graph l.count l.e (bit_of l.dirty)
