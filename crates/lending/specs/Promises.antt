-- DEFINITIONS: the promises of the operations that are lent records, for all inputs: one equation for what
-- comes back and one for each lent place.
-- THEOREMS: one reply for each input. Two replies that a promise allows are equal.
use Rattle.std.specs.Prelude.{◌≡◌, ℕ, List, length}
use Rattle.meaning.specs.OneReply.{one_reply}
use Rattle.answers.specs.declared.Answer.{Answer}
use Rattle.answers.specs.Answers.{checked, solved, table_after_check}
use Rattle.lending.specs.declared.Record.{Record}
use Rattle.lending.specs.declared.ReadAnswer.{ReadAnswer}
use Rattle.lending.specs.declared.FindAnswer.{FindAnswer}
use Rattle.lending.specs.Records.{read_answer, find_answer, records_after_read, records_after_check}
use Rattle.lending.specs.Records.{records_after_solve}

-- reading the text t, lent `records`: it answers a and leaves `records_left`
pub record Read (t : List ℕ) (records : List Record) (a : ReadAnswer) (records_left : List Record) : Type 0
  where
    pub answered : a ≡ read_answer t (length records)
    pub filled : records_left ≡ records_after_read t records

-- checking the text t, lent `records` and `table`: it answers a and leaves `records_left` and `table_left`
pub record Checked (t : List ℕ) (records : List Record) (table : List ℕ) (a : Answer)
    (records_left : List Record) (table_left : List ℕ) : Type 0 where
  pub answered : a ≡ checked t (length records) (length table)
  pub filled : records_left ≡ records_after_check t (length table) records
  pub listed : table_left ≡ table_after_check t (length records) table

-- finding in the text t, lent `records` and `table`: it answers a and leaves `records_left` and `table_left`
pub record Found (t : List ℕ) (records : List Record) (table : List ℕ) (a : FindAnswer)
    (records_left : List Record) (table_left : List ℕ) : Type 0 where
  pub answered : a ≡ find_answer t (length records) (length table)
  pub filled : records_left ≡ records_after_check t (length table) records
  pub listed : table_left ≡ table_after_check t (length records) table

-- solving the list `lent` of the text t, lent `records`: it answers a and leaves `records_left`
pub record Solved (t : List ℕ) (records : List Record) (lent : List ℕ) (a : Answer)
    (records_left : List Record) : Type 0 where
  pub answered : a ≡ solved t (length records) lent
  pub filled : records_left ≡ records_after_solve t lent records

pub one_reading : (t : List ℕ) (records : List Record) {a b : ReadAnswer} {xs ys : List Record}
    → Read t records a xs → Read t records b ys → (a ≡ b) × (xs ≡ ys)
one_reading t records p q = (one_reply p.answered q.answered, one_reply p.filled q.filled)

pub one_check : (t : List ℕ) (records : List Record) (table : List ℕ)
    {a b : Answer} {xs ys : List Record} {ws vs : List ℕ}
    → Checked t records table a xs ws → Checked t records table b ys vs → (a ≡ b) × ((xs ≡ ys) × (ws ≡ vs))
one_check t records table p q = (
  one_reply p.answered q.answered,
  (one_reply p.filled q.filled, one_reply p.listed q.listed),
)

pub one_find : (t : List ℕ) (records : List Record) (table : List ℕ)
    {a b : FindAnswer} {xs ys : List Record} {ws vs : List ℕ}
    → Found t records table a xs ws → Found t records table b ys vs → (a ≡ b) × ((xs ≡ ys) × (ws ≡ vs))
one_find t records table p q = (
  one_reply p.answered q.answered,
  (one_reply p.filled q.filled, one_reply p.listed q.listed),
)

pub one_solve : (t : List ℕ) (records : List Record) (lent : List ℕ)
    {a b : Answer} {xs ys : List Record}
    → Solved t records lent a xs → Solved t records lent b ys → (a ≡ b) × (xs ≡ ys)
one_solve t records lent p q =
    (one_reply p.answered q.answered, one_reply p.filled q.filled)
