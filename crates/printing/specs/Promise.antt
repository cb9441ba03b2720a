-- DEFINITIONS: the promises of the printed lines. Document 01, "What is lent": "They are what the checking
-- program below prints for that text, a refusal's line included;
-- the bytes after them stay as they were. A buffer under 7,693 bytes gives 0 and stays untouched."
-- The same of a list that is solved (request 2026-05).
use Rattle.std.specs.Prelude.{◌≡◌, ℕ, List, length}
use Rattle.meaning.specs.OneReply.{one_reply}
use Rattle.answers.specs.Printed.{printed, printed_solved, bytes_written, buffer_after}

-- for some lines, lent the buffer `out`: r bytes are written and `out_left` is left
pub record WritesLines (lines out : List ℕ) (r : ℕ) (out_left : List ℕ) : Type 0 where
  pub counted : r ≡ bytes_written lines (length out)
  pub printed : out_left ≡ buffer_after lines out

-- THEOREM: one reply for each input
pub one_writing : (lines out : List ℕ) {r s : ℕ} {xs ys : List ℕ}
    → WritesLines lines out r xs → WritesLines lines out s ys → (r ≡ s) × (xs ≡ ys)
one_writing lines out p q =
    (one_reply p.counted q.counted, one_reply p.printed q.printed)

-- the lines of a check of the text t
abbrev pub Written : List ℕ → List ℕ → ℕ → List ℕ → Type 0
Written t out r out_left = WritesLines (printed t) out r out_left

-- those of solving the list `lent` of the text t
abbrev pub SolvedWritten : List ℕ → List ℕ → List ℕ → ℕ → List ℕ → Type 0
SolvedWritten t lent out r out_left = WritesLines (printed_solved t lent) out r out_left
