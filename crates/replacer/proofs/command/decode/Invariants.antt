-- `replacer::command::decode` meets its contract.
-- The bytes before the present one are there.
use mathlib.Core.Path.{◌≡◌}
use lib.ListN.{take}
use Rattle.digits.specs.Digits.{bytes_of}
use Rattle.replacer.proofs.command.decode.Given as goal

abbrev pub invariant-loop-i : goal.invariant-loop-i
invariant-loop-i l = take l.i l.list ≡ take l.i (bytes_of l.word)
