-- DEFINITIONS: what the checking program prints for a text. Document 01, "The checking program".
-- Frames in hexadecimal lines, in small letters: one for each reached instance, then the verdict; on refusal
-- only the refusal.
use Rattle.std.specs.Prelude.{ℕ, ◌/◌, ◌%◌, cond, List, [], ◌∷◌, ◌++◌, eqb, leb, length, take, drop}
use Rattle.frames.specs.Frames.{line_of}
use Rattle.meaning.specs.Models.{Model}
use Rattle.meaning.specs.Reach.{Instance}
use Rattle.answers.specs.declared.Answer.{Answer}
use Rattle.truth.specs.Bits.{bit}
use Rattle.answers.specs.Answers.{answer, list_answer, list, truth_in, the_model}

-- "two bytes each, high byte first"
abbrev pub two_bytes : ℕ → List ℕ
two_bytes n = n / 256 % 256 ∷ n % 256 ∷ []

-- "Per reached instance: `04`, equation, its k arguments, value (00 or 01)"; an instance is its equation's
-- number, then its arguments
abbrev pub instance_frame : Model → Instance → List ℕ
instance_frame model i = (0x04 ∷ i) ++ (bit (truth_in model i) ∷ [])

unfoldable pub instance_lines : Model → List Instance → List ℕ
instance_lines model [] = []
instance_lines model (i ∷ is) = line_of (instance_frame model i) ++ instance_lines model is

-- "Then `05`, verdict (01 holds, 00 fails), reached count, true count"
abbrev pub verdict_frame : Answer → List ℕ
verdict_frame a = 0x05 ∷ a.verdict ∷ two_bytes a.reached ++ two_bytes a.trues

-- "On refusal only `06`, number, line"
abbrev pub refusal_frame : Answer → List ℕ
refusal_frame a = 0x06 ∷ a.number ∷ two_bytes a.line

-- the lines of an answer to a text
unfoldable pub answer_lines : List ℕ → Answer → List ℕ
answer_lines t a =
    cond (eqb a.number 0)
    (instance_lines (the_model t) (list t) ++ line_of (verdict_frame a))
    (line_of (refusal_frame a))

-- "with room 512"
unfoldable pub printed : List ℕ → List ℕ
printed t = answer_lines t (answer t 512)

-- the same of a list that is solved (request 2026-05)
unfoldable pub printed_solved : List ℕ → List ℕ → List ℕ
printed_solved t lent = answer_lines t (list_answer t lent)

-- the C entries: "A buffer under 7,693 bytes gives 0 and stays untouched"; "the bytes after them stay as they
-- were"
abbrev pub smallest_buffer : ℕ
smallest_buffer = 7693

unfoldable pub bytes_written : List ℕ → ℕ → ℕ
bytes_written lines buffer_length = cond (leb smallest_buffer buffer_length) (length lines) 0

unfoldable pub buffer_after : List ℕ → List ℕ → List ℕ
buffer_after lines buffer = take (bytes_written lines (length buffer)) lines ++ drop
    (bytes_written lines (length buffer)) buffer
