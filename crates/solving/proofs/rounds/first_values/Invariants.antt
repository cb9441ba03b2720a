-- `rounds::first_values` meets its contract.
-- Equation by equation: those below e are begun.
use Rattle.truth.specs.Bits.{bit_of}
use Rattle.solving.proofs.RoundsLaws.{Beginning}
use Rattle.solving.proofs.rounds.first_values.Given as goal

abbrev pub invariant-loop-e : goal.invariant-loop-e
invariant-loop-e l =
    Beginning l.equations l.count l.graph l.e (bit_of l.truth) (bit_of l.dirty)
