-- `frames::put_line` meets its contract.
-- The line is left out, or before turn i the line from byte i on is still to be written.
use Rattle.frames.proofs.Stores.{Writing}
use Rattle.frames.proofs.put_line.Given as goal

abbrev pub invariant-loop-b : goal.invariant-loop-b
invariant-loop-b l = Writing l.initial.out l.at l.bytes l.out l.place l.b-index
