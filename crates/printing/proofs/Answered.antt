-- What is printed for an examined text, or for a list that is solved, are the lines of its answer, at most 7,693 characters,
-- and what the buffer holds then is `buffer_after`.
-- By cases on the answer: on a verdict the first words of the table, or of the list, are those of the reached instances.
use mathlib.Core.Path.{◌≡◌, refl, sym, ◌∙◌, ap}
use Prim.Native.Nat.{ℕ, ◌≤◌, ◌<◌}
use native.Mathlib.Omega.{arith}
use native.Mathlib.Nat.{zero-add}
use mathlib.Core.Bool.{Bool, true, false, cond}
use mathlib.Core.List.{List, ◌++◌, map}
use lib.Dec.{eqb, leb}
use lib.ListN.{length, take, replicate, length-map, length-append, length-take}
use lib.Seq.{sets-eq, take_all, take-length, take-append_seam, length-take-le}
use borrow.Author.Tests.{eqb-true, eq-eqb, ne_eqb, leb-true, le-leb, lt-leb}
use Rattle.std.specs.Prelude.{Result, Ok, Err, IfOk}
use Rattle.meaning.specs.Words.{word}
use Rattle.refusals.specs.OneReply.{some_number}
use Rattle.reading.specs.Reading.{text_refusal}
use Rattle.reading.specs.Records.{reading}
use Rattle.answers.specs.Answers.{the_model, list, shown_values, verdict, answer, solved, list_answer}
use Rattle.answers.proofs.Demand1.{listed_table}
use Rattle.answers.proofs.Demand2.{listed_in_range, verdict_answered, verdict_read, verdict_room, answered, bits_shown}
use Rattle.answers.specs.Apart.{TheList}
use Rattle.answers.proofs.Apart.{solving_given, solving_verdict}
use Rattle.answers.specs.Printed.{instance_lines, verdict_frame, refusal_frame, answer_lines, printed, printed_solved}
use Rattle.answers.specs.Printed.{smallest_buffer, bytes_written, buffer_after}
use Rattle.frames.specs.Frames.{line_of}
use Rattle.frames.specs.PutLine.{Puts}
use Rattle.frames.proofs.Written.{line_length}
use Rattle.engine.specs.declared.Examined.{Examined}
use Rattle.engine.specs.declared.Refused.{Refused}
use Rattle.engine.specs.Told as engine
use Rattle.engine.specs.Examined.{ExaminedRecord, whole, Examines, Solves}
use Rattle.printing.specs.Promise.{WritesLines}
use Rattle.printing.specs.Lines.{reached_lines, answer_text, Printable, result_text, PrintableResult}
use Rattle.printing.proofs.Reached.{AllTyped, readable, lines_back}
use Rattle.printing.proofs.Stores.{lines_short}

-- ---- a text of which e was told with these words: a verdict is its own, and the first words are those of its list
pub record Told (t words : List ℕ) (e : ExaminedRecord) : Type 0 where
  pub read : e.model ≡ (reading t).model
  pub accepted : e.answer.number ≡ 0 → (text_refusal t).number ≡ 0
  pub few : e.answer.number ≡ 0 → length (list t) ≤ 512
  pub answer : e.answer.number ≡ 0 → e.answer ≡ verdict t
  pub first : e.answer.number ≡ 0 → take (length (list t)) words ≡ map word (list t)

module _ {t words : List ℕ} {e : ExaminedRecord} (x : Told t words e) where
  -- where a verdict is given
  module _ (zero : e.answer.number ≡ 0) where
    as_checked : e.answer ≡ answer t 512
    as_checked = x.answer zero ∙ sym (verdict_answered t 512 (x.accepted zero) (x.few zero))

    first_words : take e.answer.reached words ≡ map word (list t)
    unfolding verdict
    first_words = rw (x.answer zero) (x.first zero)

    all_typed : AllTyped t (x.accepted zero) (list t)
    all_typed i m = listed_in_range t (x.accepted zero) i m

    instances_printed : reached_lines words e ≡ instance_lines (the_model t) (list t)
    unfolding shown_values
    instances_printed = rw (first_words, x.read, as_checked)
        (lines_back t (x.accepted zero) (list t) all_typed (answer t 512).truth 0
        (λ n _. rw (zero-add n) (bits_shown t 512 (rw as_checked at zero) n)))

    enough : length (list t) ≤ length words
    enough = omega (arith, ap length (x.first zero), length-take (length (list t)) words, length-map (list t) word)

  pub printable : Printable words e
  unfolding verdict
  printable = record {
    few = λ zero. rw (x.answer zero) (x.few zero, enough zero);
    readable = λ zero. rw (first_words zero, x.read) (readable t (x.accepted zero) (list t) (all_typed zero));
  }

  pub printed_is : answer_text words e ≡ answer_lines t e.answer
  unfolding answer_text answer_lines
  printed_is = same (eqb e.answer.number 0) refl
    where
      same : (b : Bool) → eqb e.answer.number 0 ≡ b
          → cond b (reached_lines words e ++ line_of (verdict_frame e.answer)) (line_of (refusal_frame e.answer))
          ≡ cond b (instance_lines (the_model t) (list t) ++ line_of (verdict_frame e.answer))
          (line_of (refusal_frame e.answer))
      same true zero = rw (instances_printed (eqb-true _ _ zero)) refl
      same false zero = refl

-- a check with a table of 512 words
pub told_checked : {t blank words : List ℕ} {e : ExaminedRecord} → Examines whole t blank e words → length blank ≡ 512
    → Told t words e
told_checked {t} {blank} {words} {e} x long =
    let is : e.answer ≡ answer t 512 = rw long at x.answered in
    record {
      read = x.read;
      accepted = λ zero. verdict_read t 512 (rw is at zero);
      few = λ zero. verdict_room t 512 (rw is at zero);
      answer = λ zero. is ∙ answered t 512 (rw is at zero);
      first = λ zero.
          let given = rw is at zero in
          rw (
            x.listed,
            listed_table t blank (verdict_read t 512 given) (omega (arith, long, verdict_room t 512 given)),
            ← length-map (list t) word,
          ) (take-append_seam (map word (list t)) _);
    }

-- a list that is solved
pub told_solved : {t lent : List ℕ} {e : ExaminedRecord} → Solves t lent e → Told t lent e
unfolding solved
told_solved {t} {lent} {e} x = record {
  read = x.read;
  accepted = λ zero. (given zero).1;
  few = λ zero. omega (arith, ap length (given zero).2.whole, length-map (list t) word, (given zero).2.few);
  answer = λ zero. x.answered ∙ solving_verdict t 8 lent (omega arith) (given zero).1 (given zero).2;
  first = λ zero. rw (given zero).2.whole
      (take_all (length (list t)) (map word (list t)) (omega (arith, length-map (list t) word)));
}
  where
    given : e.answer.number ≡ 0 → (8 ≤ 8) × ((text_refusal t).number ≡ 0) × TheList t lent
    given zero = (solving_given t 8 lent).0 (rw x.answered at zero)

-- ---- "512 instance lines" of at most 15 characters and the verdict's 13
text_short : (words : List ℕ) (e : ExaminedRecord) → Printable words e → length (answer_text words e) ≤ smallest_buffer
unfolding answer_text
text_short words e p = short (eqb e.answer.number 0) refl
  where
    short : (b : Bool) → eqb e.answer.number 0 ≡ b
        → length (cond b (reached_lines words e ++ line_of (verdict_frame e.answer))
        (line_of (refusal_frame e.answer))) ≤ smallest_buffer
    short true zero =
        let few = p.few (eqb-true _ _ zero) in
        omega (
          arith,
          length-append (reached_lines words e) (line_of (verdict_frame e.answer)),
          line_length (verdict_frame e.answer),
          lines_short e.model.equations e.answer.truth 0 (take e.answer.reached words),
          length-take e.answer.reached words,
        )
    short false zero = omega (arith, line_length (refusal_frame e.answer))

told_short : {t words : List ℕ} {e : ExaminedRecord} → Told t words e → length (answer_lines t e.answer) ≤ smallest_buffer
told_short {words = words} {e} x = rw (printed_is x) at (text_short words e (printable x))

pub printed_short : (t : List ℕ) → length (printed t) ≤ smallest_buffer
unfolding printed
printed_short t =
    let e : ExaminedRecord = record { answer = answer t 512; model = (reading t).model } in
    let x : Examines whole t (replicate 512 0) e _ = record { answered = refl; read = refl; listed = refl } in
    told_short (told_checked x refl)

pub printed_solved_short : (t lent : List ℕ) → length (printed_solved t lent) ≤ smallest_buffer
unfolding printed_solved
printed_solved_short t lent =
    let e : ExaminedRecord = record { answer = list_answer t lent; model = (reading t).model } in
    let x : Solves t lent e = record { answered = refl; read = refl } in
    told_short (told_solved x)

-- ---- a result: what is told of it can be printed, and its lines are those of what is told
pub printable_result : (t words : List ℕ) (r : Result Examined Refused) → IfOk r (λ e. e.answer.number ≡ 0)
    → Told t words (engine.told r) → PrintableResult words r
printable_result t words (Ok e) zero x = (zero, printable x)
printable_result t words (Err r) zero x = tt

pub result_is : (t words : List ℕ) (r : Result Examined Refused) → IfOk r (λ e. e.answer.number ≡ 0)
    → Told t words (engine.told r) → result_text words r ≡ answer_lines t (engine.told r).answer
unfolding answer_text answer_lines
result_is t words (Ok e) zero x = rw (eq-eqb _ 0 zero) refl ∙ printed_is x
result_is t words (Err r) zero x = rw (ne_eqb _ 0 (some_number r.refusal.reason)) refl

-- ---- the buffer
pub buffer_stays : {lines out : List ℕ} → length out < smallest_buffer → WritesLines lines out 0 out
unfolding bytes_written buffer_after
buffer_stays less = record { counted = rw (lt-leb _ _ less) refl; printed = rw (lt-leb _ _ less) refl }

pub buffer_written : {lines out out' : List ℕ} {r : ℕ} → length lines ≤ smallest_buffer → smallest_buffer ≤ length out
    → Puts out 0 lines r out' → WritesLines lines out r out'
unfolding bytes_written buffer_after
buffer_written {lines} {out} short wide w = record {
  counted = rw (le-leb _ _ wide) (w.0 ∙ zero-add (length lines));
  printed = rw (le-leb _ _ wide, take-length) (w.1 ∙ sets-eq lines out 0 (omega arith) ∙ rw zero-add refl);
}

-- what is written lies within the buffer, and so much of it can be lent
pub lendable : {lines out left : List ℕ} {r : ℕ} → length lines ≤ smallest_buffer → WritesLines lines out r left
    → length left ≡ length out → (r ≤ length left) × (r ≡ length (take r left))
unfolding bytes_written
lendable {lines} {out} {left} {r} short w kept =
    let fits : r ≤ length left = omega (arith, w.counted, within (leb smallest_buffer (length out)) refl) in
    (fits, sym (length-take-le r left fits))
  where
    within : (b : Bool) → leb smallest_buffer (length out) ≡ b → cond b (length lines) 0 ≤ length out
    within true wide = omega (arith, short, leb-true smallest_buffer (length out) wide)
    within false wide = omega arith
