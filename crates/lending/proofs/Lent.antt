-- THEOREMS: demand 1 for the lent records, after reading, checking, finding and solving: kept on a refusal,
-- else filled.
-- One law over the number answered, by the test in `records_after`; 0 is answered only where eight are lent.
use Rattle.std.specs.Prelude.{ℕ, ◌≤◌, ◌≡◌, Bool, cond, List, ◌++◌, take}
use native.Mathlib.Omega.{arith}
use Rattle.std.proofs.Math.Path.{refl}
use Rattle.std.proofs.Common.{◌∙◌, length-take-le}
use Rattle.std.proofs.Math.Bool.{true, false}
use Rattle.std.proofs.Math.Dec.{eqb, ltb}
use Rattle.std.proofs.Math.ListN.{length, drop, length-append, length-drop}
use Rattle.std.proofs.lemmas.List.{length-map}
use borrow.Author.Tests.{eqb-true, eqb-false, ltb-false}
use Rattle.reading.specs.Records.{reading}
use Rattle.reading.proofs.Finishing.{few, eight_equations}
use Rattle.reading.proofs.WellFormed.{reading_drafted}
use Rattle.answers.specs.Answers.{checked, solved}
use Rattle.answers.proofs.Demand1.{verdict_given}
use Rattle.answers.proofs.Apart.{solving_given}
use Rattle.lending.specs.declared.Record.{Record}
use Rattle.lending.specs.declared.ReadAnswer.{ReadAnswer}
use Rattle.lending.specs.Records.{record_of, records_of, read_answer, find_answer, records_after}
use Rattle.lending.specs.Records.{records_after_read, records_after_check, records_after_solve}
use Rattle.lending.specs.Lent.{Lent}

-- a record for each equation
pub records_counted : (t : List ℕ) → length (records_of (reading t).model) ≡ (reading t).model.count
unfolding records_of
records_counted t =
    length-map (take (reading t).model.count (reading t).model.equations) record_of
    ∙ length-take-le (reading t).model.count (reading t).model.equations
    (omega (arith, few (reading_drafted t), eight_equations (reading_drafted t)))

module _ (t : List ℕ) (records : List Record) where
  lent_after : (number : ℕ) → (number ≡ 0 → 8 ≤ length records) →
      Lent t records number (records_after number (reading t).model records)
  unfolding records_after
  lent_after number enough = by_number (eqb number 0) refl
    where
      by_number : (b : Bool) → eqb number 0 ≡ b →
          Lent t records number
          (cond b (records_of (reading t).model ++ drop (reading t).model.count records) records)
      by_number true e =
          let zero = eqb-true number 0 e in
          record {
            records_stay = λ n. absurd (n zero);
            records_filled = λ _. refl;
            records_length =
                length-append (records_of (reading t).model) (drop (reading t).model.count records)
                ∙ omega (
                  arith,
                  records_counted t,
                  length-drop (reading t).model.count records,
                  few (reading_drafted t),
                  enough zero,
                );
          }
      by_number false e =
          let refused = eqb-false number 0 e in
          record { records_stay = λ _. refl; records_filled = λ z. absurd (refused z); records_length = refl }

  pub lent_after_read : Lent t records (read_answer t (length records)).number (records_after_read t records)
  unfolding records_after_read read_answer
  lent_after_read = lent_after _ (enough (ltb (length records) 8) refl _)
    where
      enough : (b : Bool) → ltb (length records) 8 ≡ b → (a : ReadAnswer) →
          (cond {A = ReadAnswer} b (record { number = 5; line = 0 }) a).number ≡ 0 → 8 ≤ length records
      enough true e a z = absurd (omega arith)
      enough false e a z = ltb-false (length records) 8 e

  pub lent_after_check : (words_lent : ℕ) →
      Lent t records (checked t (length records) words_lent).number
      (records_after_check t words_lent records)
  unfolding records_after_check
  lent_after_check words_lent = lent_after _ (λ z. ((verdict_given t (length records) words_lent).0 z).0)

  pub lent_after_find : (words_lent : ℕ) →
      Lent t records (find_answer t (length records) words_lent).number
      (records_after_check t words_lent records)
  lent_after_find = lent_after_check

  pub lent_after_solve : (lent : List ℕ) →
      Lent t records (solved t (length records) lent).number (records_after_solve t lent records)
  unfolding records_after_solve
  lent_after_solve lent = lent_after _ (λ z. ((solving_given t (length records) lent).0 z).0)
