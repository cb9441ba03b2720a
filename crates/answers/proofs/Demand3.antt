-- DEMAND 3: more never takes away: a looser model keeps what is true, more room the answer; room decides 9.
-- Over answers for two texts, and for two rooms of one; by the law on looser models and the refusals' order.
use Rattle.std.specs.Prelude.{ℕ, ◌≤◌, ◌<◌, ◌≡◌, refl, true, length, get_or}
use Rattle.std.proofs.Common.{arith, sym, ap, subst, ◌∙◌}
use mathlib.Core.List.{List, [], ◌∷◌}
use Rattle.meaning.specs.Logic.{Is→eq, eq→Is}
use Rattle.meaning.specs.Reach.{Instance}
use Rattle.meaning.specs.Looser.{Looser}
use Rattle.meaning.proofs.Looser.{looser_holds}
use Rattle.reading.specs.Reading.{text_refusal}
use Rattle.reading.proofs.WellFormed.{reading_well_formed}
use Rattle.truth.specs.Bits.{bit_of}
use Rattle.answers.specs.declared.Answer.{Answer}
use Rattle.answers.specs.Answers.{the_model, the_start, list, truth_in, room_of, verdict}
use Rattle.answers.specs.Answers.{answer, kept_words, checked}
use Rattle.answers.specs.Demand1.{◌exactly_when◌}
use Rattle.answers.proofs.Demand1.{Reply, short_list, text_refused, too_many, judged_so}
use Rattle.answers.proofs.Demand1.{every_answer, records_enough, nine_given, kept_all}
use Rattle.answers.proofs.Demand2.{start_first, start_exactly, verdict_answered}
use Rattle.answers.proofs.Demand2.{verdict_read, verdict_room, answered, bit_is_value}

-- an answer that holds is a verdict
holding_is_verdict : (t : List ℕ) (words : ℕ) → (answer t words).verdict ≡ 1 → (answer t words).number ≡ 0
unfolding verdict
holding_is_verdict t words h = subst (λ (a : Answer). a.verdict ≡ 1 → a.number ≡ 0)
    (records_enough t 8 words (omega arith)) (of (every_answer t 8 words)) h
  where
    of : {a : Answer} → Reply t 8 words a → a.verdict ≡ 1 → a.number ≡ 0
    of (short_list l) e = absurd (omega arith)
    of (text_refused l r) e = absurd (omega arith)
    of (too_many l r m) e = absurd (omega arith)
    of (judged_so l r m) e = refl

module _ (t t' : List ℕ) (words words' : ℕ) (l : Looser (the_model t) (the_model t')) where
  -- what is true for a text that is given a verdict is true for one with a looser model
  meaning_kept : (answer t words).number ≡ 0 → (i : Instance) →
      truth_in (the_model t) i ≡ true → truth_in (the_model t') i ≡ true
  unfolding truth_in
  meaning_kept v [] h = h
  meaning_kept v (e ∷ x) h =
      let well = reading_well_formed t (verdict_read t words v) in
      Is→eq (looser_holds (the_model t) (the_model t') (the_start t) well l e x (eq→Is h))

  -- an instance in both lists, at whatever places, that is true for the first text is true for the second;
  -- the starts play no part
  pub looser_text_bits : (answer t words).number ≡ 0 → (answer t' words').number ≡ 0 →
      (j j' : ℕ) → j < length (list t) → j' < length (list t') → get_or (list t) j [] ≡ get_or (list t') j' [] →
      bit_of (answer t words).truth j ≡ true → bit_of (answer t' words').truth j' ≡ true
  looser_text_bits v v' j j' h h' e b =
      bit_is_value t' words' v' j' h'
      ∙ ap (truth_in (the_model t')) (sym e)
      ∙ meaning_kept v (get_or (list t) j []) (sym (bit_is_value t words v j h) ∙ b)

  -- what holds for a text holds for one with a looser model and the same start, where that has a verdict
  pub looser_text_holds : the_start t ≡ the_start t' →
      (answer t words).verdict ≡ 1 → (answer t' words').number ≡ 0 → (answer t' words').verdict ≡ 1
  looser_text_holds s h v' =
      let v = holding_is_verdict t words h in
      let held = meaning_kept v (the_start t) (Is→eq ((start_exactly t words v).0 h)) in
      (start_exactly t' words' v').1 (eq→Is (rw s at held))

module _ (t : List ℕ) (words more : ℕ) (l : words ≤ more) (v : (answer t words).number ≡ 0) where
  -- with more room the answer is the same: verdict, counts and truth
  pub more_room_same_answer : answer t more ≡ answer t words
  more_room_same_answer =
      verdict_answered t more (verdict_read t words v) (omega (arith, verdict_room t words v))
      ∙ sym (answered t words v)

  -- and so are the words of the list
  pub more_room_same_list : kept_words t (room_of more) ≡ kept_words t (room_of words)
  more_room_same_list = kept_all t (room_of more) (omega (arith, verdict_room t words v))
      ∙ sym (kept_all t (room_of words) (verdict_room t words v))

-- where no earlier refusal is due, 9 is given exactly when the reached instances outnumber the room
pub nine_by_room : (t : List ℕ) (words : ℕ) → (text_refusal t).number ≡ 0
    → ((answer t words).number ≡ 9) exactly_when (room_of words < length (list t))
nine_by_room t words r =
    let e : (checked t 8 words).number ≡ (answer t words).number = ap (λ (a : Answer). a.number)
    (records_enough t 8 words (omega arith)) in
    ((λ n. ((nine_given t 8 words).0 (e ∙ n)).2), λ h. sym e ∙ (nine_given t 8 words).1 (omega arith, r, h))

-- "Room 0 with any readable model: 9"
pub no_room_nine : (t : List ℕ) → (text_refusal t).number ≡ 0 → (answer t 0).number ≡ 9
no_room_nine t r = (nine_by_room t 0 r).1 (omega (arith, ap length (start_first t r).1))
