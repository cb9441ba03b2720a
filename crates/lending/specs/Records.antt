-- DEFINITIONS: the lent list of equation records. Document 01, "What is lent"; request 2026-05.
-- What reading and finding answer, and what the records hold after reading, checking, finding and solving.
use Rattle.std.specs.Prelude.{ℕ, cond, List, ◌++◌, map, eqb, ltb, length, take, drop}
use Rattle.formulas.specs.declared.Equation.{Equation}
use Rattle.reading.specs.Records.{ModelRecord, reading}
use Rattle.answers.specs.declared.Answer.{Answer}
use Rattle.answers.specs.Answers.{checked, solved}
use Rattle.lending.specs.declared.Record.{Record}
use Rattle.lending.specs.declared.ReadAnswer.{ReadAnswer}
use Rattle.lending.specs.declared.FindAnswer.{FindAnswer}

-- "sign, k, four ranges (1 for an absent one), place of the body's first digit in the text (counted from 0),
-- body length in bytes"
abbrev pub record_of : Equation → Record
record_of e = record { sign = e.sign; k = e.k; ranges = e.ranges; place = e.place; length = e.length }

-- a record for each equation, in file order
unfoldable pub records_of : ModelRecord → List Record
records_of model = map record_of (take model.count model.equations)

-- "Records past the equation count stay as they were, and so do all records on any refusal, 9 included"
unfoldable pub records_after : ℕ → ModelRecord → List Record → List Record
records_after number model records =
    cond (eqb number 0) (records_of model ++ drop model.count records) records

-- what reading and what finding tell of an answer
abbrev pub read_from : Answer → ReadAnswer
read_from a = record { number = a.number; line = a.line }

abbrev pub find_from : Answer → FindAnswer
find_from a = record { number = a.number; line = a.line; reached = a.reached }

-- "Where the list has fewer than eight records the answer is 5, line 0, before any other refusal"
unfoldable pub read_answer : List ℕ → ℕ → ReadAnswer
read_answer t records_lent =
    cond (ltb records_lent 8) (record { number = 5; line = 0 })
    (record { number = (reading t).number; line = (reading t).line })

-- "one finds": number, line and reached count as of `check`
abbrev pub find_answer : List ℕ → ℕ → ℕ → FindAnswer
find_answer t records_lent words_lent = find_from (checked t records_lent words_lent)

unfoldable pub records_after_read : List ℕ → List Record → List Record
records_after_read t records = records_after (read_answer t (length records)).number (reading t).model
    records

-- after checking, and after finding, which refuses alike
unfoldable pub records_after_check : List ℕ → ℕ → List Record → List Record
records_after_check t words_lent records = records_after (checked t (length records) words_lent).number
    (reading t).model records

unfoldable pub records_after_solve : List ℕ → List ℕ → List Record → List Record
records_after_solve t lent records = records_after (solved t (length records) lent).number
    (reading t).model records
