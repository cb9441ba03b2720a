-- THEOREMS: the case of its letters changes nothing of what comes back for a text, of what is left in the
-- table and of what is printed; and what is printed is in small letters.
-- All of it is told by the refusal and by the frames of the text, which are the same.
use Rattle.std.specs.Prelude.{ℕ, ◌≡◌, Bool, true, false, cond, List, [], ◌∷◌, ◌++◌, eqb}
use Rattle.std.proofs.Math.Path.{refl}
use Rattle.meaning.specs.Models.{Model}
use Rattle.meaning.specs.Reach.{Instance}
use Rattle.digits.specs.Digits.{in_small_letters}
use Rattle.digits.proofs.Letters.{append_small}
use Rattle.frames.specs.Frames.{line_of}
use Rattle.frames.proofs.Letters.{frames_in_small, line_small}
use Rattle.reading.specs.Letters.{refusal_in_small}
use Rattle.answers.specs.declared.Answer.{Answer}
use Rattle.answers.specs.Answers.{the_model, list, shown_values, verdict, judged, answer, table_after}
use Rattle.answers.specs.Answers.{is_found, list_answer}
use Rattle.answers.specs.Printed.{instance_frame, instance_lines, verdict_frame, refusal_frame}
use Rattle.answers.specs.Printed.{answer_lines, printed, printed_solved}

module _ (t : List ℕ) where
  pub list_in_small : list (in_small_letters t) ≡ list t
  unfolding list
  list_in_small = rw (frames_in_small t) refl

  pub answer_in_small : (words : ℕ) → answer (in_small_letters t) words ≡ answer t words
  unfolding answer judged verdict shown_values list
  answer_in_small words = rw (refusal_in_small t, frames_in_small t) refl

  pub table_in_small : (table : List ℕ) → table_after (in_small_letters t) table ≡ table_after t table
  unfolding table_after list
  table_in_small table = rw (refusal_in_small t, frames_in_small t) refl

  pub solved_in_small : (lent : List ℕ) → list_answer (in_small_letters t) lent ≡ list_answer t lent
  unfolding list_answer is_found verdict shown_values list
  solved_in_small lent = rw (refusal_in_small t, frames_in_small t) refl

  lines_in_small : (a : Answer) → answer_lines (in_small_letters t) a ≡ answer_lines t a
  unfolding answer_lines list
  lines_in_small a = rw (frames_in_small t) refl

  pub printed_in_small : printed (in_small_letters t) ≡ printed t
  unfolding printed
  printed_in_small = rw (answer_in_small 512) (lines_in_small _)

  pub printed_solved_in_small : (lent : List ℕ)
      → printed_solved (in_small_letters t) lent ≡ printed_solved t lent
  unfolding printed_solved
  printed_solved_in_small lent = rw (solved_in_small lent) (lines_in_small _)

-- ---- what is printed
instances_small : (model : Model) (is : List Instance)
    → in_small_letters (instance_lines model is) ≡ instance_lines model is
unfolding instance_lines
instances_small model [] = refl
instances_small model (i ∷ is) =
    append_small _ _ (line_small (instance_frame model i)) (instances_small model is)

lines_small : (t : List ℕ) (a : Answer) → in_small_letters (answer_lines t a) ≡ answer_lines t a
unfolding answer_lines
lines_small t a = each (eqb a.number 0)
  where
    either : Bool → List ℕ
    either b = cond b (instance_lines (the_model t) (list t) ++ line_of (verdict_frame a))
        (line_of (refusal_frame a))

    each : (b : Bool) → in_small_letters (either b) ≡ either b
    each true = append_small _ _ (instances_small (the_model t) (list t)) (line_small _)
    each false = line_small _

pub printed_small : (t : List ℕ) → in_small_letters (printed t) ≡ printed t
unfolding printed
printed_small t = lines_small t _

pub printed_solved_small : (t lent : List ℕ)
    → in_small_letters (printed_solved t lent) ≡ printed_solved t lent
unfolding printed_solved
printed_solved_small t lent = lines_small t _
