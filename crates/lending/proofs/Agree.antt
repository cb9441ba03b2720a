-- What the private functions prepare is what the promises say of the lent records: by cases on whether there is a model.
-- `number_of_lem` gives the answer's number from the length of the lent list; all operations are instances of it.
use mathlib.Core.Path.{◌≡◌, refl, sym, ap, ◌∙◌}
use Prim.Native.Nat.{ℕ, ◌≤◌, ◌<◌}
use native.Mathlib.Omega.{arith}
use mathlib.Core.Bool.{Bool, true, false, cond}
use mathlib.Core.List.{List}
use lib.Dec.{ltb}
use lib.ListN.{length}
use borrow.Author.Tests.{le-ltb, lt-ltb, ltb-true, ltb-false, ne_eqb}
use Rattle.std.specs.Prelude.{Result, Ok, Err, Some, None, IfOk, IsErrAnd}
use Rattle.refusals.specs.declared.Refusal.{Refusal}
use Rattle.refusals.specs.OneReply.{some_number}
use Rattle.reading.specs.declared.Model.{Model}
use Rattle.reading.specs.declared.Reading.{Reading}
use Rattle.reading.specs.Records.{ModelRecord, ReadingRecord, model_told, reading}
use Rattle.reading.specs.Records as records
use Rattle.reading.proofs.Finishing.{few}
use Rattle.reading.proofs.WellFormed.{reading_drafted}
use Rattle.answers.specs.declared.Answer.{Answer}
use Rattle.answers.specs.Answers.{answer, checked, solved, table_after_check}
use Rattle.engine.specs.declared.Examined.{Examined}
use Rattle.engine.specs.declared.Refused.{Refused}
use Rattle.engine.specs.Examined.{Examines, Solves}
use Rattle.engine.specs.Told as engine
use Rattle.lending.specs.declared.Record.{Record}
use Rattle.lending.specs.Records.{records_of, records_after, read_answer}
use Rattle.lending.specs.Records.{records_after_read, records_after_check, records_after_solve}
use Rattle.lending.specs.Prepared.{short_list, room_judged, Fills, ReadPrepared, TablePrepared, SolvePrepared}
use Rattle.meaning.specs.Mapped.{map_take}

-- ---- a refusal that is handed on; and a room that is too short
pub handed_on : {A : Type 0} (r : Result A Refusal) (refused : Refusal) → IsErrAnd r (λ e. e ≡ refused) → r ≡ Err refused
handed_on (Ok a) refused h = absurd h
handed_on (Err e) refused h = ap Err h

-- before anything was read
abbrev pub short_examined : Result Examined Refused
short_examined = Err (record { refusal = short_list; model = None })

pub handed_so : (r : Result Examined Refused) (refused : Refusal)
    → IsErrAnd r (λ e. e ≡ record { refusal = refused; model = None })
    → r ≡ Err (record { refusal = refused; model = None })
handed_so (Ok a) refused h = absurd h
handed_so (Err e) refused h = ap Err h

module _ (room : ℕ) where
  short_of : (refused : Refusal) → Err refused ≡ room_judged room → (room < 8) × (refused ≡ short_list)
  short_of refused is = of (ltb room 8) refl is
    where
      of : (b : Bool) → ltb room 8 ≡ b → Err refused ≡ cond {A = Result Unit Refusal} b (Err short_list) (Ok tt)
          → (room < 8) × (refused ≡ short_list)
      of true short is = (ltb-true room 8 short, cc)
      of false wide is = absurd cc

  pub short_room : {A : Type 0} (r : Result A Refusal) (refused : Refusal) → Err refused ≡ room_judged room
      → IsErrAnd r (λ e. e ≡ refused) → (room < 8) × (r ≡ Err short_list)
  short_room r refused is h =
      let short = short_of refused is in (short.0, handed_on r refused h ∙ ap Err short.1)

  pub short_refused : (r : Result Examined Refused) (refused : Refusal) → Err refused ≡ room_judged room
      → IsErrAnd r (λ e. e ≡ record { refusal = refused; model = None }) → (room < 8) × (r ≡ short_examined)
  short_refused r refused is h =
      let short = short_of refused is in (short.0, handed_so r refused h ∙ rw short.1 refl)

  pub long_room : {u : Unit} → Ok u ≡ room_judged room → 8 ≤ room
  long_room {u} is = of (ltb room 8) refl is
    where
      of : (b : Bool) → ltb room 8 ≡ b → Ok u ≡ cond {A = Result Unit Refusal} b (Err short_list) (Ok tt) → 8 ≤ room
      of true short is = absurd cc
      of false wide is = ltb-false room 8 wide

module _ (t : List ℕ) (room : ℕ) (number_of_lem : ℕ → ℕ) where
  abbrev after : List Record → List Record
  after records = records_after (number_of_lem (length records)) (reading t).model records

  fills : 8 ≤ room → (m : Model) → number_of_lem room ≡ 0 → model_told m ≡ (reading t).model → Fills room after (Some m)
  unfolding records_after records_of
  fills wide m zero is =
      let small : m.count ≤ 8 = rw (← is) at (few (reading_drafted t)) in
      record {
        few = (small, omega arith);
        leaves = λ records same. rw (same, zero, ← is, map_take) refl;
      }

  fills_nothing : (number_of_lem room ≡ 0 → ⊥) → Fills room after None
  unfolding records_after
  fills_nothing refused = record { few = tt; leaves = λ records same. rw (same, ne_eqb _ 0 refused) refl }

module _ (t : List ℕ) (room : ℕ) where
  -- reading: the list is too short, or the text was read
  pub short_read : room < 8 → ReadPrepared t room (Err short_list)
  unfolding read_answer records_after_read
  short_read short = record {
    answers = rw (lt-ltb room 8 short) refl;
    fills = fills_nothing t room (λ n. (read_answer t n).number) (rw (lt-ltb room 8 short) (λ z. omega (arith, z)));
  }

  pub text_refused : 8 ≤ room → (r : Refusal) → records.told (Err r) ≡ reading t → ReadPrepared t room (Err r)
  unfolding read_answer records_after_read
  text_refused wide r is = record {
    answers = rw (← is, le-ltb room 8 wide) refl;
    fills = fills_nothing t room (λ n. (read_answer t n).number) (rw (← is, le-ltb room 8 wide) (some_number r.reason));
  }

  pub text_read : 8 ≤ room → (r : Reading) → records.told (Ok r) ≡ reading t → ReadPrepared t room (Ok r.model)
  unfolding read_answer records_after_read
  text_read wide r is = record {
    answers = rw (← is, le-ltb room 8 wide) refl;
    fills = fills t room (λ n. (read_answer t n).number) wide r.model (rw (← is, le-ltb room 8 wide) refl)
        (ap (λ (s : ReadingRecord). s.model) is);
  }

  -- checking and finding: the list is too short
  pub short_table : {A : Type 0} (told : Answer → A) {table : List ℕ} → room < 8
      → TablePrepared told t room table short_examined table
  unfolding checked records_after_check table_after_check
  short_table told {table} short = record {
    answers = rw (lt-ltb room 8 short) refl;
    fills = fills_nothing t room (λ n. (checked t n (length table)).number)
        (rw (lt-ltb room 8 short) (λ z. omega (arith, z)));
    listed = rw (lt-ltb room 8 short) refl;
  }

  -- or the text was examined, of whose answer enough is shown
  pub long_table : {A : Type 0} (told : Answer → A) (shown : Answer → Answer)
      → ((a : Answer) → (told (shown a) ≡ told a) × ((shown a).number ≡ a.number)) → 8 ≤ room
      → {table left : List ℕ} (r : Result Examined Refused) → IfOk r (λ e. e.answer.number ≡ 0)
      → Examines shown t table (engine.told r) left → TablePrepared told t room table r left
  unfolding checked records_after_check table_after_check
  long_table told shown enough wide {table} (Ok e) zero is = record {
    answers = rw (is.answered, le-ltb room 8 wide) (enough (answer t (length table))).0;
    fills = fills t room (λ n. (checked t n (length table)).number) wide e.model
        (rw (le-ltb room 8 wide) (sym (enough (answer t (length table))).1
        ∙ sym (ap (λ (a : Answer). a.number) is.answered) ∙ zero)) is.read;
    listed = rw (le-ltb room 8 wide) is.listed;
  }
  long_table told shown enough wide {table} (Err r) zero is = record {
    answers = rw (is.answered, le-ltb room 8 wide) (enough (answer t (length table))).0;
    fills = fills_nothing t room (λ n. (checked t n (length table)).number)
        (rw (le-ltb room 8 wide) (λ z. some_number r.refusal.reason (ap (λ (a : Answer). a.number) is.answered
        ∙ (enough (answer t (length table))).1 ∙ z)));
    listed = rw (le-ltb room 8 wide) is.listed;
  }

  -- solving a list
  pub short_solve : {lent : List ℕ} → room < 8 → SolvePrepared t room lent short_examined
  unfolding solved records_after_solve
  short_solve {lent} short = record {
    answers = rw (lt-ltb room 8 short) refl;
    fills = fills_nothing t room (λ n. (solved t n lent).number) (rw (lt-ltb room 8 short) (λ z. omega (arith, z)));
  }

  pub long_solve : 8 ≤ room → {lent : List ℕ} (r : Result Examined Refused) → IfOk r (λ e. e.answer.number ≡ 0)
      → Solves t lent (engine.told r) → SolvePrepared t room lent r
  unfolding solved records_after_solve
  long_solve wide {lent} (Ok e) zero is = record {
    answers = rw (is.answered, le-ltb room 8 wide) refl;
    fills = fills t room (λ n. (solved t n lent).number) wide e.model
        (rw (le-ltb room 8 wide) (sym (ap (λ (a : Answer). a.number) is.answered) ∙ zero)) is.read;
  }
  long_solve wide {lent} (Err r) zero is = record {
    answers = rw (is.answered, le-ltb room 8 wide) refl;
    fills = fills_nothing t room (λ n. (solved t n lent).number)
        (rw (le-ltb room 8 wide) (λ z. some_number r.refusal.reason (ap (λ (a : Answer). a.number) is.answered ∙ z)));
  }
