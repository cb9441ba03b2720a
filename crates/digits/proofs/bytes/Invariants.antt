-- `digits::bytes` meets its contract.
-- The places below i are filled.
use Rattle.digits.specs.Digits.{bytes_of}
use Rattle.digits.proofs.Filled.{Filling}
use Rattle.digits.proofs.bytes.Given as goal

abbrev pub invariant-loop-i : goal.invariant-loop-i
invariant-loop-i l = Filling (bytes_of l.characters) l.list l.i
