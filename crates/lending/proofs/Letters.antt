-- THEOREMS: the case of its letters changes nothing of what an operation replies to a text and leaves in what
-- is lent: for a text and for the same in small letters two replies that the promises allow are equal.
-- Each promise is an equation, whose right side is the same for both texts.
use Rattle.std.specs.Prelude.{ℕ, ◌≡◌, List, length}
use Rattle.std.proofs.Math.Path.{refl}
use Rattle.std.proofs.Common.{◌∙◌}
use Rattle.meaning.specs.OneReply.{one_reply}
use Rattle.digits.specs.Digits.{in_small_letters}
use Rattle.reading.specs.Letters.{reading_in_small}
use Rattle.answers.specs.declared.Answer.{Answer}
use Rattle.answers.specs.Answers.{checked, solved, table_after_check}
use Rattle.answers.proofs.Letters.{answer_in_small, table_in_small, solved_in_small}
use Rattle.lending.specs.declared.Record.{Record}
use Rattle.lending.specs.declared.ReadAnswer.{ReadAnswer}
use Rattle.lending.specs.declared.FindAnswer.{FindAnswer}
use Rattle.lending.specs.Records.{read_answer, find_answer, records_after_read, records_after_check}
use Rattle.lending.specs.Records.{records_after_solve}
use Rattle.lending.specs.Promises.{Read, Checked, Found, Solved}

module _ (t : List ℕ) where
  -- ---- reading
  read_in_small : (lent : ℕ) → read_answer (in_small_letters t) lent ≡ read_answer t lent
  unfolding read_answer
  read_in_small lent = rw (reading_in_small t) refl

  filled_in_small : (records : List Record)
      → records_after_read (in_small_letters t) records ≡ records_after_read t records
  unfolding records_after_read
  filled_in_small records = rw (read_in_small (length records), reading_in_small t) refl

  pub read_alike : {records xs ys : List Record} {a b : ReadAnswer}
      → Read t records a xs → Read (in_small_letters t) records b ys → (a ≡ b) × (xs ≡ ys)
  read_alike {records} p q = (
    one_reply p.answered (q.answered ∙ read_in_small (length records)),
    one_reply p.filled (q.filled ∙ filled_in_small records),
  )

  -- ---- checking
  checked_in_small : (records words : ℕ)
      → checked (in_small_letters t) records words ≡ checked t records words
  unfolding checked
  checked_in_small records words = rw (answer_in_small t words) refl

  records_in_small : (words : ℕ) (records : List Record)
      → records_after_check (in_small_letters t) words records ≡ records_after_check t words records
  unfolding records_after_check
  records_in_small words records = rw (checked_in_small (length records) words, reading_in_small t) refl

  listed_in_small : (records : ℕ) (table : List ℕ)
      → table_after_check (in_small_letters t) records table ≡ table_after_check t records table
  unfolding table_after_check
  listed_in_small records table = rw (table_in_small t table) refl

  pub check_alike : {records xs ys : List Record} {table ws vs : List ℕ} {a b : Answer}
      → Checked t records table a xs ws → Checked (in_small_letters t) records table b ys vs
      → (a ≡ b) × ((xs ≡ ys) × (ws ≡ vs))
  check_alike {records} {table = table} p q = (
    one_reply p.answered (q.answered ∙ checked_in_small (length records) (length table)),
    (
      one_reply p.filled (q.filled ∙ records_in_small (length table) records),
      one_reply p.listed (q.listed ∙ listed_in_small (length records) table),
    ),
  )

  -- ---- finding
  counts_in_small : (records words : ℕ)
      → find_answer (in_small_letters t) records words ≡ find_answer t records words
  counts_in_small records words = rw (checked_in_small records words) refl

  pub find_alike : {records xs ys : List Record} {table ws vs : List ℕ} {a b : FindAnswer}
      → Found t records table a xs ws → Found (in_small_letters t) records table b ys vs
      → (a ≡ b) × ((xs ≡ ys) × (ws ≡ vs))
  find_alike {records} {table = table} p q = (
    one_reply p.answered (q.answered ∙ counts_in_small (length records) (length table)),
    (
      one_reply p.filled (q.filled ∙ records_in_small (length table) records),
      one_reply p.listed (q.listed ∙ listed_in_small (length records) table),
    ),
  )

  -- ---- solving
  list_in_small : (records : ℕ) (lent : List ℕ)
      → solved (in_small_letters t) records lent ≡ solved t records lent
  unfolding solved
  list_in_small records lent = rw (solved_in_small t lent) refl

  pub solve_alike : (lent : List ℕ) {records xs ys : List Record} {a b : Answer}
      → Solved t records lent a xs → Solved (in_small_letters t) records lent b ys → (a ≡ b) × (xs ≡ ys)
  unfolding records_after_solve
  solve_alike lent {records} p q = (
    one_reply p.answered (q.answered ∙ list_in_small (length records) lent),
    one_reply p.filled (rw (list_in_small (length records) lent, reading_in_small t) at q.filled),
  )
