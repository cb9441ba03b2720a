-- ONE REPLY: two results, and two tables left, that the contract of a public function allows are equal.
-- The contract is an equation of each part of what the result tells and of the table; what is told of a
-- refusal is told of no answer, since that has number 0.
use Rattle.std.specs.Prelude.{ℕ, ◌≡◌, List, Option, Some, None, Result, Ok, Err, IfOk}
use Rattle.std.proofs.Common.{ap, ap₂, sym, refl, ◌∙◌}
use Rattle.meaning.specs.OneReply.{one_reply}
use Rattle.refusals.specs.declared.Refusal.{Refusal}
use Rattle.refusals.specs.OneReply.{some_number, one_refusal}
use Rattle.answers.specs.declared.Answer.{Answer}
use Rattle.reading.specs.declared.Model.{Model}
use Rattle.reading.specs.Records.{ModelRecord, model_record}
use Rattle.engine.specs.declared.Examined.{Examined}
use Rattle.engine.specs.declared.Refused.{Refused}
use Rattle.engine.specs.Examined.{ExaminedRecord, Examines, Solves}
use Rattle.engine.specs.Told.{told, both, refused_model}

-- the model of the records
abbrev given : ModelRecord → Model
given m = record { count = m.count; equations = m.equations; lines = m.lines; start = m.start }

abbrev examined : ExaminedRecord → Examined
examined e = record { answer = e.answer; model = given e.model }

-- what accepts a text
abbrev pub Accepted : Result Examined Refused → Type 0
Accepted result = IfOk result (λ e. e.answer.number ≡ 0)

-- a model that was read has a start, and that of no frame has none
pub one_model : (m n : Option Model) → refused_model m ≡ refused_model n → m ≡ n
unfolding model_record
one_model None None same = refl
one_model (Some m) (Some n) same = ap (λ (r : ModelRecord). Some (given r)) same
one_model None (Some n) same =
    let started = ap (λ (r : ModelRecord). r.started) same in absurd cc
one_model (Some m) None same =
    let started = ap (λ (r : ModelRecord). r.started) same in absurd cc

abbrev refused : Refusal → Option Model → Result Examined Refused
refused r m = Err (record { refusal = r; model = m })

pub one_result : (r s : Result Examined Refused) → Accepted r → Accepted s → told r ≡ told s → r ≡ s
one_result (Ok a) (Ok b) zero nil same = ap (λ (e : ExaminedRecord). Ok (examined e)) same
one_result (Err a) (Err b) zero nil same =
    ap₂ refused
    (one_refusal a.refusal b.refusal (ap (λ (e : ExaminedRecord). e.answer.number) same)
    (ap (λ (e : ExaminedRecord). e.answer.line) same))
    (one_model a.model b.model (ap (λ (e : ExaminedRecord). e.model) same))
one_result (Ok a) (Err b) zero nil same = absurd
    (some_number b.refusal.reason (sym (ap (λ (e : ExaminedRecord). e.answer.number) same) ∙ zero))
one_result (Err a) (Ok b) zero nil same =
    absurd (some_number a.refusal.reason (ap (λ (e : ExaminedRecord). e.answer.number) same ∙ nil))

module _ (text : List ℕ) {r s : Result Examined Refused} (accepted : Accepted r) (also : Accepted s) where
  pub one_examine : (shown : Answer → Answer) (table : List ℕ) {xs ys : List ℕ}
      → Examines shown text table (told r) xs → Examines shown text table (told s) ys → (r ≡ s) × (xs ≡ ys)
  one_examine shown table p q = (
    one_result r s accepted also (ap₂ both (one_reply p.answered q.answered) (one_reply p.read q.read)),
    one_reply p.listed q.listed,
  )

  pub one_solve : (lent : List ℕ) → Solves text lent (told r) → Solves text lent (told s) → r ≡ s
  one_solve lent p q = one_result r s accepted also
      (ap₂ both (one_reply p.answered q.answered) (one_reply p.read q.read))
