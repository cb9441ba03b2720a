-- ONE REPLY: two results that the contract of the public function allows are equal.
-- The contract is an equation of what the result tells, which says which result it is.
use Rattle.std.specs.Prelude.{ℕ, ◌≡◌, List, Result, Ok, Err}
use Rattle.std.proofs.Common.{sym, ap}
use Rattle.meaning.specs.OneReply.{one_reply}
use Rattle.refusals.specs.declared.Refusal.{Refusal}
use Rattle.refusals.specs.OneReply.{one_refusal, some_number}
use Rattle.reading.specs.declared.Model.{Model}
use Rattle.reading.specs.declared.Reading.{Reading}
use Rattle.reading.specs.Records.{ModelRecord, ReadingRecord, told, reading}

abbrev with_start : ModelRecord → Model
with_start m = record { count = m.count; equations = m.equations; lines = m.lines; start = m.start }

abbrev read_so : ReadingRecord → Result Reading Refusal
read_so r = Ok (record { model = with_start r.model; bodies = r.bodies })

pub one_told : (r s : Result Reading Refusal) → told r ≡ told s → r ≡ s
one_told (Ok r) (Ok s) same = ap read_so same
one_told (Ok r) (Err e) same =
    absurd (some_number e.reason (sym (ap (λ (r : ReadingRecord). r.number) same)))
one_told (Err e) (Ok s) same = absurd (some_number e.reason (ap (λ (r : ReadingRecord). r.number) same))
one_told (Err e) (Err f) same =
    let numbers = ap (λ (r : ReadingRecord). r.number) same in
    ap (λ (e : Refusal). Err e) (one_refusal e f numbers (ap (λ (r : ReadingRecord). r.line) same))

pub one_read_model : (text : List ℕ) {r s : Result Reading Refusal}
    → told r ≡ reading text → told s ≡ reading text → r ≡ s
one_read_model text {r} {s} p q = one_told r s (one_reply p q)
