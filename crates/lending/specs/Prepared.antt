-- What the private functions prepare: a model that was read, and its answer, or a refusal. A public operation
-- then writes the model's records and answers this, with no test of its own.
use Rattle.std.specs.Prelude.{◌≡◌, ℕ, ◌≤◌, cond, List, ◌++◌, map, ltb, length, take, drop}
use Rattle.std.specs.Prelude.{Option, Some, None, IfSome, Result, Ok, Err}
use Rattle.refusals.specs.declared.Reason.TheVariants.{WrongHead}
use Rattle.refusals.specs.declared.Refusal.{Refusal}
use Rattle.refusals.specs.Numbers.{number_of}
use Rattle.reading.specs.declared.Model.{Model}
use Rattle.answers.specs.declared.Answer.{Answer}
use Rattle.answers.specs.Answers.{refusal, checked, solved, table_after_check}
use Rattle.engine.specs.declared.Examined.{Examined}
use Rattle.engine.specs.declared.Refused.{Refused}
use Rattle.lending.specs.declared.Record.{Record}
use Rattle.lending.specs.declared.ReadAnswer.{ReadAnswer}
use Rattle.lending.specs.Records.{record_of, read_answer}
use Rattle.lending.specs.Records.{records_after_read, records_after_check, records_after_solve}

-- the first n of `new`, and behind them what `records` has there
abbrev pub overwritten : ℕ → List Record → List Record → List Record
overwritten n new records = take n new ++ drop n records

-- with the records of a model, where there is one
abbrev pub filled : Option Model → List Record → List Record
filled None records = records
filled (Some m) records = overwritten m.count (map record_of m.equations) records

abbrev pub model_in : Result Examined Refused → Option Model
model_in (Ok e) = Some e.model
model_in (Err r) = None

abbrev pub model_read : Result Model Refusal → Option Model
model_read (Ok m) = Some m
model_read (Err r) = None

abbrev pub answer_in : Result Examined Refused → Answer
answer_in (Ok e) = e.answer
answer_in (Err r) = refusal (number_of r.refusal.reason) r.refusal.line

abbrev pub read_told : Result Model Refusal → ReadAnswer
read_told (Ok m) = record { number = 0; line = 0 }
read_told (Err r) = record { number = number_of r.reason; line = r.line }

-- "Where the list has fewer than eight records the answer is 5, line 0"
abbrev pub short_list : Refusal
short_list = record { reason = WrongHead; line = 0 }

abbrev pub room_judged : ℕ → Result Unit Refusal
room_judged room = cond (ltb room 8) (Err short_list) (Ok tt)

-- the model has as many records as the lent list of `room` can take, and with them the list is what `after`
-- says
pub record Fills (room : ℕ) (after : List Record → List Record) (model : Option Model) : Type 0 where
  pub few : IfSome model (λ m. (m.count ≤ 8) × (m.count ≤ room))
  pub leaves : (records : List Record) → length records ≡ room → filled model records ≡ after records

pub record ReadPrepared (t : List ℕ) (room : ℕ) (r : Result Model Refusal) : Type 0 where
  pub answers : read_told r ≡ read_answer t room
  pub fills : Fills room (records_after_read t) (model_read r)

-- with a table, for an operation that tells so much of the answer of a check
pub record TablePrepared {A : Type 0} (told : Answer → A) (t : List ℕ) (room : ℕ) (table : List ℕ)
    (r : Result Examined Refused) (table_left : List ℕ) : Type 0 where
  pub answers : told (answer_in r) ≡ told (checked t room (length table))
  pub fills : Fills room (records_after_check t (length table)) (model_in r)
  pub listed : table_left ≡ table_after_check t room table

pub record SolvePrepared (t : List ℕ) (room : ℕ) (lent : List ℕ) (r : Result Examined Refused) : Type 0 where
  pub answers : answer_in r ≡ solved t room lent
  pub fills : Fills room (records_after_solve t lent) (model_in r)
