-- Definitions that the theorems of `proofs/Whole` speak of.
-- Each stands alone; what follows from them is there.
use Rattle.std.specs.Prelude.{ℕ, ◌+◌, ◌≤◌, ◌%◌, ◌≡◌, true, List, [], ◌∷◌, ◌++◌, length}
use Rattle.digits.specs.Digits.{bytes_of}
use Rattle.frames.specs.Lines.{Line, all_digits}
use Rattle.frames.specs.Frames.{Frame, Frames}

-- each of some lines is so
pub data Each (P : Line → Type 0) : List Line → Type 0 where
  none : Each P []
  and : {l : Line} {ls : List Line} → P l → Each P ls → Each P (l ∷ ls)

-- digits, and 0a at the end
pub record Whole (l : Line) : Type 0 where
  pub digits : all_digits l.characters ≡ true
  pub ended : l.ended ≡ true

-- what neither 2 nor 3 refuses
pub record Right (l : Line) : Type 0 where
  pub digits : all_digits l.characters ≡ true
  pub ended : l.ended ≡ true
  pub some : 1 ≤ length l.characters
  pub most : length l.characters ≤ 512
  pub even : length l.characters % 2 ≡ 0

-- the frames of some lines that count from i
unfoldable pub framed : ℕ → List Line → List Frame
framed i [] = []
framed i (l ∷ ls) = record { line = i; bytes = bytes_of l.characters } ∷ framed (i + 1) ls

-- some frames, and those of others behind them
abbrev pub behind : List Frame → Frames → Frames
behind fs others = record { all = fs ++ others.all; number = others.number; line = others.line }
