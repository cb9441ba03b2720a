-- REQUEST 2026-05: `check` is `find` and then `solve`, in what comes back and in every lent place, for all
-- replies that their promises allow.
-- Where `find` is not refused, what it leaves is the list, and solving that answers as `check`; where it is,
-- `check` gives the same refusal.
use Rattle.std.specs.Prelude.{ℕ, ◌≡◌, List, ◌++◌, length, take, drop}
use Rattle.std.proofs.Common.{sym, ◌∙◌, drop_at}
use Rattle.std.proofs.Math.Path.{ap}
use Rattle.reading.specs.Records.{reading}
use Rattle.answers.specs.declared.Answer.{Answer}
use Rattle.answers.specs.Answers.{refusal, checked}
use Rattle.answers.proofs.Demand1.{refusal_clear}
use Rattle.answers.proofs.Apart.{find_then_solve}
use Rattle.lending.specs.declared.Record.{Record}
use Rattle.lending.specs.declared.FindAnswer.{FindAnswer}
use Rattle.lending.specs.Records.{records_after, records_of}
use Rattle.lending.specs.Records.{records_after_check, records_after_solve}
use Rattle.lending.specs.Promises.{Found, Solved, Checked}
use Rattle.lending.proofs.Lent.{lent_after_find, records_counted}

-- records that are filled, filled once more
filled_again : (t : List ℕ) (records : List Record)
    → records_after 0 (reading t).model (records_after 0 (reading t).model records)
    ≡ records_after 0 (reading t).model records
unfolding records_after
filled_again t records = ap (λ (l : List Record). records_of (reading t).model ++ l)
    (drop_at (records_of (reading t).model) (drop (reading t).model.count records) _ (records_counted t))

module _ (t : List ℕ) (records : List Record) (table : List ℕ) {a : FindAnswer} {records_left : List Record}
    {table_left : List ℕ} (f : Found t records table a records_left table_left) where
  -- `find` refuses: so does `check`, and leaves what `find` leaves
  pub find_refused : (a.number ≡ 0 → ⊥)
      → Checked t records table (refusal a.number a.line) records_left table_left
  find_refused n = record {
    answered =
        let refused = rw f.answered at n in
        rw f.answered (sym (refusal_clear t (length records) (length table) refused));
    filled = f.filled;
    listed = f.listed;
  }

  -- it does not: then solving what it leaves, as many words as it says, does not either, and both together do
  -- what `check` does
  pub find_and_solve : a.number ≡ 0 → {b : Answer} {records_last : List Record}
      → Solved t records_left (take a.reached table_left) b records_last
      → (b.number ≡ 0) × Checked t records table b records_last table_left
  unfolding records_after_check records_after_solve
  find_and_solve zero {b} {records_last} s =
      (number answers ∙ given, record { answered = answers; filled = fills; listed = f.listed })
    where
      number : {x y : Answer} → x ≡ y → x.number ≡ y.number
      number e = ap (λ (x : Answer). x.number) e

      after : {n m : ℕ} (rs : List Record) → n ≡ m
          → records_after n (reading t).model rs ≡ records_after m (reading t).model rs
      after rs e = ap (λ (k : ℕ). records_after k (reading t).model rs) e

      given : (checked t (length records) (length table)).number ≡ 0
      given = rw f.answered at zero

      long : length records_left ≡ length records
      long = rw f.filled (lent_after_find t records (length table)).records_length

      answers : b ≡ checked t (length records) (length table)
      answers = rw (long, f.answered, f.listed) at s.answered
          ∙ find_then_solve t (length records) table given

      fills : records_last
          ≡ records_after (checked t (length records) (length table)).number (reading t).model records
      fills = s.filled ∙ after records_left (number (sym s.answered ∙ answers) ∙ given)
          ∙ ap (records_after 0 (reading t).model) (f.filled ∙ after records given)
          ∙ filled_again t records ∙ sym (after records given)
