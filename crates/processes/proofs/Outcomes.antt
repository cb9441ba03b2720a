-- What the reading of a text gives in the end: the refusal that is due, or the sheet with all frames.
-- 1, then 2 and 3, then 14: each is due where those before it are not.
use Prim.Native.Nat.{ℕ, ◌≤◌, ◌<◌}
use mathlib.Core.Path.{◌≡◌, refl, sym, ap, ◌∙◌}
use mathlib.Core.Bool.{Bool, true, false, not, cond}
use mathlib.Core.List.{List}
use lib.Dec.{eqb}
use lib.ListN.{length}
use borrow.Author.Tests.{eq-eqb, ne_eqb, lt-leb}
use Rattle.std.specs.Prelude.{Result, Ok, Err}
use Rattle.refusals.specs.declared.Reason.TheVariants.{TextTooLong, NoProcess}
use Rattle.refusals.specs.declared.Refusal.{Refusal}
use Rattle.refusals.specs.Numbers.{number_of}
use Rattle.refusals.specs.OneReply.{some_number}
use Rattle.frames.specs.Frames.{frames}
use Rattle.reading.specs.Reading as reading
use Rattle.reading.specs.Reading.{refused}
use Rattle.inputs.specs.Inputs.{is_none, with_code, Judged, all_judged, input_refusal}
use Rattle.inputs.specs.Sheet.{sheet_of}
use Rattle.processes.specs.Contract.{LinesChecked, SheetRead}
use Rattle.processes.specs.Kept.{input, told}
use Rattle.processes.proofs.Turns.{judged_as, Left, none_left}
use Rattle.processes.proofs.Laying.{Laid}

abbrev refusal_of : Judged → reading.Refusal
refusal_of j = j.refusal

abbrev number_in : reading.Refusal → ℕ
number_in r = r.number

pub as_due : {t sheet : List ℕ} {due : reading.Refusal} (r : Refusal) → due ≡ refused (number_of r.reason) r.line
    → SheetRead t due sheet (Err r)
as_due r e = record { refusal = sym e; laid = λ z. absurd (some_number r.reason (sym (ap number_in e) ∙ z)) }

-- ---- 14
pub frames_refused : {t sheet : List ℕ} {done : List (List ℕ)} {line : ℕ} → all_judged t ≡ judged_as done (refused 14 line)
    → SheetRead t (all_judged t).refusal sheet (Err (record { reason = NoProcess; line = line }))
frames_refused e = as_due _ (ap refusal_of e)

-- no line is left: the formula is there, or it is missing
module _ {t sheet : List ℕ} {done : List (List ℕ)} {count line at : ℕ} {whole : Bool} (l : Laid done sheet count whole)
    (left : Left t done line at) (h : length t ≤ at) where
  all : {b : Bool} → whole ≡ b → all_judged t ≡ judged_as done (cond b (refused 0 0) (refused 14 line))
  all w = none_left left h ∙ ap (judged_as done) (other_way (is_none (with_code 0x08 done)) (sym w ∙ l.ended))
    where
      other_way : (n : Bool) {b : Bool} → b ≡ not n
          → cond n (refused 14 line) (refused 0 0) ≡ cond b (refused 0 0) (refused 14 line)
      other_way true e = rw e refl
      other_way false e = rw e refl

  pub frames_missing : whole ≡ false
      → SheetRead t (all_judged t).refusal sheet (Err (record { reason = NoProcess; line = line }))
  frames_missing w = frames_refused {done = done} (all w)

  pub frames_whole : whole ≡ true → SheetRead t (all_judged t).refusal sheet (Ok tt)
  frames_whole w = record {
    refusal = sym (ap refusal_of (all w));
    laid = λ z. l.sheet_is ∙ sym (ap (λ (j : Judged). sheet_of j.content) (all w));
  }

-- ---- 1
pub text_too_long : {t sheet : List ℕ} → 32768 < length t
    → SheetRead t (input_refusal t) sheet (Err (record { reason = TextTooLong; line = 0 }))
unfolding input_refusal frames
text_too_long {t} h = as_due _ (rw (lt-leb (length t) 32768 h) refl)

-- ---- 2 and 3 before 14
pub lines_refused : {t sheet : List ℕ} {r : Refusal} → LinesChecked t (Err r) → SheetRead t (input_refusal t) sheet (Err r)
unfolding input_refusal
lines_refused {t} {sheet} {r} c =
    let n : eqb (frames t).number 0 ≡ false = ne_eqb _ 0 (λ z. some_number r.reason (ap number_in c ∙ z)) in
    as_due r (rw n (sym c))

pub lines_read : {t sheet : List ℕ} {r : Result (Unit {0}) Refusal} → (frames t).number ≡ 0
    → SheetRead t (all_judged t).refusal sheet r → SheetRead t (input_refusal t) sheet r
unfolding input_refusal
lines_read z f = rw (eq-eqb _ 0 z) f

-- ---- the sheet that is handed on
pub input_refused : {t sheet : List ℕ} {r : Refusal} → SheetRead t (input_refusal t) sheet (Err r) → told (Err r) ≡ input t
unfolding input
input_refused {t} {sheet} {r} l =
    let n : eqb (number_of r.reason) 0 ≡ false = ne_eqb _ 0 (some_number r.reason) in
    rw (← l.refusal) (rw n refl)

pub input_read : {t sheet : List ℕ} → SheetRead t (input_refusal t) sheet (Ok tt) → told (Ok sheet) ≡ input t
unfolding input
input_read l = let all = l.laid (sym (ap number_in l.refusal)) in rw (← l.refusal) (rw all refl)
