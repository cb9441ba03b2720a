-- Definitions that the theorems of `proofs/Written` speak of.
-- Each stands alone; what follows from them is there.
use Rattle.std.specs.Prelude.{ℕ, ◌+◌, ◌*◌, true, List, [], ◌∷◌, length}
use Rattle.digits.specs.Digits.{characters}
use Rattle.frames.specs.Lines.{Line}

-- two characters a byte and the end, for each line
unfoldable pub text_size : List (List ℕ) → ℕ
text_size [] = 0
text_size (f ∷ fs) = (2 * length f + 1) + text_size fs

-- ---- which lines a text has

-- the line of some bytes
abbrev pub written_line : List ℕ → Line
written_line bytes = record { characters = characters bytes; ended = true }
