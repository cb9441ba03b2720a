-- Definitions that the theorems of `proofs/Standing` speak of.
-- Each stands alone; what follows from them is there.
use Rattle.std.specs.Prelude.{ℕ, ◌+◌, ◌≤◌, ◌≡◌, true, List, ◌∷◌, ◌++◌, length, get_or}
use Rattle.digits.specs.Digits.{bytes_of}
use Rattle.frames.specs.Lines.{Line, lines_of}
use Rattle.frames.specs.Frames.{frames}
use Rattle.frames.specs.Whole.{Each, Right, framed}
use Rattle.reading.specs.Equations.{is_valid_head}
use Rattle.reading.specs.Models.{equations_in}
use Rattle.reading.proofs.Drafts.{frame_of}
use Rattle.replacer.specs.Replaced.{equation_frame}

-- ---- equation e in a text that is not refused
pub record Standing (t : List ℕ) (e : ℕ) : Type 0 where
  pub before : List Line
  pub line : Line
  pub after : List Line
  pub is : lines_of t ≡ before ++ (line ∷ after)
  pub number : length (equations_in (framed 1 before)) ≡ e
  pub code : get_or (bytes_of line.characters) 0 0 ≡ 1
  pub valid : is_valid_head (bytes_of line.characters) ≡ true
  pub rights_before : Each Right before
  pub right : Right line
  pub rights_after : Each Right after
  pub short : length t ≤ 32768
  pub frame_is : equation_frame t e ≡ frame_of (1 + length before) (bytes_of line.characters)
  pub frames_are : (frames t).all ≡ framed 1 (before ++ (line ∷ after))
  pub end_is : (frames t).line ≡ 1 + length (before ++ (line ∷ after))
