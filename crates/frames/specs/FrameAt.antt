-- What `frame_at` replies: the frame of the line that begins at a place of a text, for all places.
-- Past the end of the text stands an empty line, which nothing ends.
use Rattle.std.specs.Prelude.{ℕ, suc, ◌+◌, ◌/◌, min, cond, List, [], ◌∷◌, eqb, ltb, length, take, drop}
use Rattle.std.specs.Prelude.{Result, Ok, Err, Bool, replicate}
use Rattle.refusals.specs.declared.Reason.{Reason}
use Rattle.refusals.specs.Numbers.{number_of}
use Rattle.digits.specs.Digits.{bytes_of, padded}
use Rattle.frames.specs.declared.Frame.{Frame}
use Rattle.frames.specs.declared.FrameAt.{FrameAt}
use Rattle.frames.specs.Lines.{Line, line_refusal}

-- how many characters stand before the first 0a
unfoldable pub first_length : List ℕ → ℕ
first_length [] = 0
first_length (c ∷ s) = cond (eqb c 0x0a) 0 (suc (first_length s))

-- the first line of what stands from a place on
abbrev pub first_line : List ℕ → Line
first_line s = record { characters = take (first_length s) s; ended = ltb (first_length s) (length s) }

abbrev pub line_at : List ℕ → ℕ → Line
line_at t at = first_line (drop at t)

-- where it ends
abbrev pub end_at : List ℕ → ℕ → ℕ
end_at t at = min at (length t) + first_length (drop at t)

-- a frame as the rules number it: the number of its refusal, 2 or 3, or 0; where its line ends; how many
-- bytes it has, and the bytes
pub record FrameRecord : Type 0 where
  pub number : ℕ
  pub end : ℕ
  pub size : ℕ
  pub bytes : List ℕ

abbrev pub refused_at : ℕ → ℕ → FrameRecord
refused_at number end = record { number = number; end = end; size = 0; bytes = replicate 256 0 }

-- what the code gives, a frame or why there is none, told as such a record: its number and its frame
abbrev pub number_in : Result Frame Reason → ℕ
number_in (Ok frame) = 0
number_in (Err reason) = number_of reason

abbrev pub kept_in : Result Frame Reason → Frame
kept_in (Ok frame) = frame
kept_in (Err reason) = record { bytes = replicate 256 0; size = 0 }

-- with the place where the line ends
abbrev pub told_at : ℕ → Result Frame Reason → FrameRecord
told_at end r =
    record { number = number_in r; end = end; size = (kept_in r).size; bytes = (kept_in r).bytes }

abbrev pub told : FrameAt → FrameRecord
told f = told_at f.end f.frame

-- the frame of a line, and what comes of one with these characters that ends there
abbrev pub frame_in : Line → ℕ → FrameRecord
frame_in line end =
    cond (eqb (line_refusal line) 0)
    (record {
      number = 0;
      end = end;
      size = length line.characters / 2;
      bytes = padded (bytes_of line.characters);
    })
    (refused_at (line_refusal line) end)

abbrev pub frame_of : List ℕ → Bool → ℕ → FrameRecord
frame_of characters ended = frame_in (record { characters = characters; ended = ended })

unfoldable pub frame_at : List ℕ → ℕ → FrameRecord
frame_at t at = frame_in (line_at t at) (end_at t at)
