-- Definitions that the theorems of `proofs/Letters` speak of.
-- Each stands alone; what follows from them is there.
use Rattle.digits.specs.Digits.{in_small_letters}
use Rattle.frames.specs.Lines.{Line}

-- a line with its capital digits made small
abbrev pub line_in_small : Line → Line
line_in_small l = record { characters = in_small_letters l.characters; ended = l.ended }
