-- DEFINITIONS: the frames of a text, with refusals 1, 2 and 3. Document 01, "Text of a model".
-- "Lines of hexadecimal, one frame a line": a frame is its line's number and its bytes.
use Rattle.std.specs.Prelude.{ℕ, ◌+◌, cond, List, [], ◌∷◌, ◌++◌, eqb, leb, length}
use Rattle.digits.specs.Digits.{bytes_of, characters}
use Rattle.frames.specs.Lines.{Line, lines_of, line_refusal}

pub record Frame : Type 0 where
  pub line : ℕ
  pub bytes : List ℕ

-- the frames up to the first line that is refused, and that refusal; where none is, number 0 and "one more
-- than the lines there are"
pub record Frames : Type 0 where
  pub all : List Frame
  pub number : ℕ
  pub line : ℕ

abbrev pub stopped : ℕ → ℕ → Frames
stopped number line = record { all = []; number = number; line = line }

abbrev pub with_frame : ℕ → List ℕ → Frames → Frames
with_frame i bytes fs =
    record { all = record { line = i; bytes = bytes } ∷ fs.all; number = fs.number; line = fs.line }

-- the lines from number i on: "lines from the top, in each line 2, 3"
unfoldable pub frames_from : ℕ → List Line → Frames
frames_from i [] = stopped 0 i
frames_from i (l ∷ ls) =
    cond (eqb (line_refusal l) 0)
    (with_frame i (bytes_of l.characters) (frames_from (i + 1) ls))
    (stopped (line_refusal l) i)

-- 1: "text over 32,768 characters (line 0)"; "Lines count from 1, notes included"
unfoldable pub frames : List ℕ → Frames
frames t = cond (leb (length t) 32768) (frames_from 1 (lines_of t)) (stopped 1 0)

-- ---- written

-- a frame as a line: "every line ends with byte 0a"
unfoldable pub line_of : List ℕ → List ℕ
line_of bytes = characters bytes ++ (0x0a ∷ [])

-- the text of some frames, each given by its bytes
unfoldable pub text_of : List (List ℕ) → List ℕ
text_of [] = []
text_of (f ∷ fs) = line_of f ++ text_of fs
