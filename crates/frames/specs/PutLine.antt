-- What `put_line` does: it writes the line of some bytes into a buffer from a place on, for all places.
-- "every line ends with byte 0a"; a line that does not fit is not written, and the place stays.
use Rattle.std.specs.Prelude.{ℕ, ◌+◌, ◌≡◌, Bool, cond, List, leb, length}
use Rattle.std.proofs.lemmas.List.Edits.{sets}
use Rattle.frames.specs.Frames.{line_of}

-- whether the line of some bytes fits into a buffer of `room` bytes from a place on
abbrev pub fits : ℕ → ℕ → List ℕ → Bool
fits room at bytes = leb (at + length (line_of bytes)) room

-- the place after it
unfoldable pub place_after : ℕ → ℕ → List ℕ → ℕ
place_after room at bytes = cond (fits room at bytes) (at + length (line_of bytes)) at

-- the buffer with it
unfoldable pub line_put : List ℕ → ℕ → List ℕ → List ℕ
line_put out at bytes = cond (fits (length out) at bytes) (sets out at (line_of bytes)) out

-- for the buffer `out`, a place and some bytes: r is the place then, and `out_left` the buffer
pub record LinePut (out : List ℕ) (at : ℕ) (bytes : List ℕ) (r : ℕ) (out_left : List ℕ) : Type 0 where
  pub place : r ≡ place_after (length out) at bytes
  pub written : out_left ≡ line_put out at bytes

-- ---- in a buffer where there is room: w stands from place `at` on, and r is the place after it
abbrev pub Puts : List ℕ → ℕ → List ℕ → ℕ → List ℕ → Type 0
Puts out at w r out_left = (r ≡ at + length w) × (out_left ≡ sets out at w)
