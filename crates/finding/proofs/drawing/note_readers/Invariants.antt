-- An instance is noted in the rows of all that it reads.
-- The invariant: it is noted for those that are done; the measure is how far the last that is not is from none.
use Rattle.truth.specs.Bits.{bit_of}
use Rattle.finding.proofs.DrawingLaws.{Noting, undone}
use Rattle.finding.proofs.drawing.note_readers.Given as goal

abbrev pub invariant-loop-k : goal.invariant-loop-k
invariant-loop-k l = Noting l.initial.graph l.graph l.j (bit_of l.done)

abbrev pub decreases-loop-k : goal.decreases-loop-k
decreases-loop-k l = undone l.initial.graph l.j (bit_of l.done)
