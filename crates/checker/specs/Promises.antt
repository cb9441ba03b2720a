-- DEFINITIONS: the promises of the operations for C, for all inputs: one equation for what comes back and one
-- for each lent place. (`devashtor_check` promises `Written`, `devashtor_solve` `SolvedWritten`, both of
-- printing/specs/Promise.)
-- THEOREMS: one reply for each input. Two replies that a promise allows are equal.
use Rattle.std.specs.Prelude.{◌≡◌, ℕ, ◌+◌, ◌*◌, cond, List, eqb, length}
use Rattle.meaning.specs.OneReply.{one_reply}
use Rattle.reading.specs.Reading.{Refusal}
use Rattle.answers.specs.declared.Answer.{Answer}
use Rattle.answers.specs.Answers.{answer, table_after}
use Rattle.writing.specs.declared.Writing.{Writing}
use Rattle.writing.specs.Writing.{reply_of, buffer_after}
use Rattle.translator.specs.Answers.{translated_text, translation_refusal}
use Rattle.replacer.specs.Replaced.{replaced_text, replacement_refusal}

-- what C gets for a reply: how much was written, or found; on a refusal 2^63 + number * 2^32 + line
unfoldable pub reply_word : Writing → ℕ
reply_word w =
    cond (eqb w.number 0) w.length (0x8000000000000000 + w.number * 0x100000000 + w.line)

-- an operation that refuses by r and else writes `text` into the buffer `out`, for C: it gives w and leaves
-- `left`
pub record WritesForC (r : Refusal) (text out : List ℕ) (w : ℕ) (left : List ℕ) : Type 0 where
  pub answered : w ≡ reply_word (reply_of r text)
  pub written : left ≡ buffer_after r text out

pub one_writing_for_c : {r : Refusal} {text out : List ℕ} {v w : ℕ} {xs ys : List ℕ}
    → WritesForC r text out v xs → WritesForC r text out w ys → (v ≡ w) × (xs ≡ ys)
one_writing_for_c p q = (one_reply p.answered q.answered, one_reply p.written q.written)

-- finding in the text t, for C: the reached count stands where a length does
abbrev pub count_reply : Answer → Writing
count_reply a = record { number = a.number; line = a.line; length = a.reached }

pub record FindsForC (t table : List ℕ) (w : ℕ) (left : List ℕ) : Type 0 where
  pub answered : w ≡ reply_word (count_reply (answer t (length table)))
  pub listed : left ≡ table_after t table

pub one_find_for_c : (t table : List ℕ) {v w : ℕ} {xs ys : List ℕ}
    → FindsForC t table v xs → FindsForC t table w ys → (v ≡ w) × (xs ≡ ys)
one_find_for_c t table p q = (one_reply p.answered q.answered, one_reply p.listed q.listed)

-- translating the text t
abbrev pub TranslatesForC : List ℕ → List ℕ → ℕ → List ℕ → Type 0
TranslatesForC t out w left = WritesForC (translation_refusal t (length out)) (translated_text t) out w left

pub one_translation_for_c : (t out : List ℕ) {v w : ℕ} {xs ys : List ℕ}
    → TranslatesForC t out v xs → TranslatesForC t out w ys → (v ≡ w) × (xs ≡ ys)
one_translation_for_c t out = one_writing_for_c

-- replacing the right side of equation e of the text t
abbrev pub ReplacesForC : List ℕ → ℕ → List ℕ → List ℕ → ℕ → List ℕ → Type 0
ReplacesForC t e side out w left =
    WritesForC (replacement_refusal t e side (length out)) (replaced_text t e side) out w left

pub one_replacement_for_c : (t : List ℕ) (e : ℕ) (side out : List ℕ) {v w : ℕ} {xs ys : List ℕ}
    → ReplacesForC t e side out v xs → ReplacesForC t e side out w ys → (v ≡ w) × (xs ≡ ys)
one_replacement_for_c t e side out = one_writing_for_c
