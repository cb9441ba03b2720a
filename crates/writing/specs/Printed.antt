-- DEFINITIONS: what a command prints that writes a text: the text, or the line of the refusal.
-- "On refusal only `06`, number, line", as the checking program prints it.
use Rattle.std.specs.Prelude.{ℕ, ◌≡◌, cond, List, eqb, leb, length}
use Rattle.std.proofs.lemmas.List.Edits.{sets}
use Rattle.frames.specs.Frames.{line_of}
use Rattle.frames.specs.PutLine.{place_after, line_put}
use Rattle.reading.specs.Reading.{Refusal, refused}
use Rattle.answers.specs.Answers.{refusal}
use Rattle.answers.specs.Printed.{refusal_frame}
use Rattle.writing.specs.declared.Writing.{Writing}

-- the frame of a refusal, as the checking program has it
abbrev pub refusal_shown : Refusal → List ℕ
refusal_shown r = refusal_frame (refusal r.number r.line)

-- where r refuses, and `text` is what is written else
unfoldable pub printed : Refusal → List ℕ → List ℕ
printed r text = cond (eqb r.number 0) text (line_of (refusal_shown r))

-- a command that prints `shown` into a buffer that has room for `longest`: n bytes. A smaller buffer gives 0
-- and stays; the bytes after what is written stay
pub record Prints (longest : ℕ) (shown out : List ℕ) (n : ℕ) (left : List ℕ) : Type 0 where
  pub counted : n ≡ cond (leb longest (length out)) (length shown) 0
  pub printed : left ≡ cond (leb longest (length out)) (sets out 0 shown) out

-- ---- what `show` does, for every reply and every buffer

-- the refusal that a reply tells
abbrev pub refusal_told : Writing → Refusal
refusal_told w = refused w.number w.line

-- where there is none, the text stands in the buffer already; else its line is put, if it fits
pub record Shows (w : Writing) (out : List ℕ) (n : ℕ) (left : List ℕ) : Type 0 where
  pub counted : n ≡ cond (eqb w.number 0) w.length
      (place_after (length out) 0 (refusal_shown (refusal_told w)))
  pub shown : left ≡ cond (eqb w.number 0) out (line_put out 0 (refusal_shown (refusal_told w)))
