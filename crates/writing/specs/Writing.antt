-- DEFINITIONS: what an operation answers that writes a text into a lent buffer, and what it leaves there.
-- Document 01: "a buffer's bytes past the text written into it stay"; requests: "nothing is written on any".
use Rattle.std.specs.Prelude.{ℕ, ◌+◌, ◌≡◌, Bool, cond, List, Result, Ok, Err, eqb, leb, length}
use Rattle.std.proofs.lemmas.List.Edits.{sets}
use Rattle.refusals.specs.declared.Refusal.{Refusal as WhyNot}
use Rattle.refusals.specs.Numbers.{number_of}
use Rattle.reading.specs.Reading.{Refusal}
use Rattle.writing.specs.declared.Writing.{Writing}

abbrev pub refusal_reply : ℕ → ℕ → Writing
refusal_reply number line = record { number = number; line = line; length = 0 }

-- what an operation replies that says how many bytes it wrote, or why it wrote none
abbrev pub refusal_written : WhyNot → Writing
refusal_written r = refusal_reply (number_of r.reason) r.line

abbrev pub reply_to : Result ℕ WhyNot → Writing
reply_to (Ok length) = record { number = 0; line = 0; length = length }
reply_to (Err r) = refusal_written r

-- ---- an operation that refuses by r, number and line 0 where it does not, and then writes `text`

-- number and line of the refusal, and how long the text is that was written
unfoldable pub reply_of : Refusal → List ℕ → Writing
reply_of r text = record {
  number = r.number;
  line = r.line;
  length = cond (eqb r.number 0) (length text) 0;
}

-- the text from the first byte on, and the bytes past it as they were; on a refusal all are
unfoldable pub buffer_after : Refusal → List ℕ → List ℕ → List ℕ
buffer_after r text out = cond (eqb r.number 0) (sets out 0 text) out

-- what it promises of its reply w, and of the buffer: `out` before, `left` after
pub record Writes (r : Refusal) (text out : List ℕ) (w : Writing) (left : List ℕ) : Type 0 where
  pub answered : w ≡ reply_of r text
  pub written : left ≡ buffer_after r text out

-- ---- what `put` does: it puts some bytes into a buffer from a place on, for all places

-- whether they fit into a buffer of `room` bytes
abbrev pub fits : ℕ → ℕ → List ℕ → Bool
fits room at bytes = leb (at + length bytes) room

-- the place after them; where they do not fit, the place stays
unfoldable pub place_after : ℕ → ℕ → List ℕ → ℕ
place_after room at bytes = cond (fits room at bytes) (at + length bytes) at

-- the buffer with them; where they do not fit, it stays
unfoldable pub bytes_put : List ℕ → ℕ → List ℕ → List ℕ
bytes_put out at bytes = cond (fits (length out) at bytes) (sets out at bytes) out

-- for the buffer `out`, a place and some bytes: r is the place then, and `out_left` the buffer
pub record BytesPut (out : List ℕ) (at : ℕ) (bytes : List ℕ) (r : ℕ) (out_left : List ℕ) : Type 0 where
  pub place : r ≡ place_after (length out) at bytes
  pub written : out_left ≡ bytes_put out at bytes
