-- ONE REPLY: for each public function two results that its contract allows are equal.
-- What a reply tells says which it is: a number is that of one reason, and none is 0.
use Rattle.std.specs.Prelude.{ℕ, ◌≡◌, List, Result, Ok, Err}
use Rattle.std.proofs.Common.{sym, ap, ◌∙◌}
use Rattle.refusals.specs.declared.Refusal.{Refusal}
use Rattle.refusals.specs.OneReply.{some_number, one_refusal}
use Rattle.processes.specs.Kept.{Input, input, told}

abbrev number_in : Input → ℕ
number_in i = i.number

abbrev line_in : Input → ℕ
line_in i = i.line

abbrev frames_in : Input → List ℕ
frames_in i = i.frames

told_once : (r s : Result (List ℕ) Refusal) → told r ≡ told s → r ≡ s
told_once (Ok a) (Ok b) e = ap Ok (ap frames_in e)
told_once (Ok a) (Err q) e = absurd (some_number q.reason (sym (ap number_in e)))
told_once (Err p) (Ok b) e = absurd (some_number p.reason (ap number_in e))
told_once (Err p) (Err q) e = ap Err (one_refusal p q (ap number_in e) (ap line_in e))

pub one_read_input : (text : List ℕ) {r s : Result (List ℕ) Refusal} → told r ≡ input text
    → told s ≡ input text → r ≡ s
one_read_input text {r} {s} p q = told_once r s (p ∙ sym q)
