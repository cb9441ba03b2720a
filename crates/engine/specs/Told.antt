-- DEFINITIONS: what a result of the code tells: the answer, which on a refusal has its number and line and
-- nothing else, and the model that was read. And how many words of a table are to be solved.
use Rattle.std.specs.Prelude.{ℕ, cond, List, [], take, Option, Some, None, Result, Ok, Err}
use Rattle.meaning.specs.Solution.{same}
use Rattle.refusals.specs.declared.Reason.{Reason}
use Rattle.refusals.specs.declared.Reason.TheVariants.{NoRoom, AnotherList}
use Rattle.refusals.specs.Numbers.{number_of}
use Rattle.reading.specs.declared.Model.{Model}
use Rattle.reading.specs.Records.{ModelRecord, model_record, model_told}
use Rattle.answers.specs.declared.Answer.{Answer}
use Rattle.answers.specs.Answers.{refusal}
use Rattle.engine.specs.declared.Examined.{Examined}
use Rattle.engine.specs.declared.Refused.{Refused}
use Rattle.engine.specs.Examined.{ExaminedRecord}

-- a refusal of the list or of its room names no line
abbrev pub answer_told : Result Answer Reason → Answer
answer_told (Ok a) = a
answer_told (Err reason) = refusal (number_of reason) 0

-- the model of a refusal; where none was read, that of no frame
abbrev pub refused_model : Option Model → ModelRecord
refused_model None = model_record (λ i. 0) [] []
refused_model (Some m) = model_told m

abbrev pub both : Answer → ModelRecord → ExaminedRecord
both a m = record { answer = a; model = m }

-- the answer and the model, on a refusal too
abbrev pub told : Result Examined Refused → ExaminedRecord
told (Ok e) = both e.answer (model_told e.model)
told (Err r) = both (refusal (number_of r.refusal.reason) r.refusal.line) (refused_model r.model)

-- how many words of a table are to be solved, of which so many were found, or none where they outnumber it:
-- all that were found; where a list is lent, only if it has these words
abbrev pub due : Option ℕ → List ℕ → Option (List ℕ) → Result ℕ Reason
due None table None = Err NoRoom
due (Some n) table None = Ok n
due None table (Some list) = Err AnotherList
due (Some n) table (Some list) = cond (same list (take n table)) (Ok n) (Err AnotherList)
