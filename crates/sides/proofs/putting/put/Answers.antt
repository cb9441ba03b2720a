-- `sides::putting::put` meets its contract.
-- The byte is stored behind those that are there, or there is no room for it.
use native.Mathlib.Omega.{arith}
use Rattle.sides.proofs.EmittedLaws.{puts_byte, puts_full}
use Rattle.sides.proofs.putting.put.Goals as goal

pub returns-then-count-ge256 : goal.returns-then-count-ge256
returns-then-count-ge256 c = record { few = tt; told = puts_full c.if-count-ge256.true (omega arith) }

pub returns : goal.returns
returns c = record { few = omega arith; told = puts_byte _ _ _ c.if-count-ge256.false }
