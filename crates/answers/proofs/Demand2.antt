-- DEMAND 2: on a verdict, the verdict and every shown value are the meaning of the whole model, the list is
-- exactly what is reached, and the counts are theirs.
-- A text that is not refused gives a well-formed model, for which the laws of `meaning` hold; the truth's
-- words have the bits of the list's values.
use Prim.Native.Nat.{ℕ, ◌≤◌, ◌<◌}
use Rattle.std.proofs.Common.{arith, sym, ◌∙◌}
use Rattle.std.specs.Prelude.{◌≡◌, refl, Bool, true, length, get_or}
use Rattle.std.proofs.Math.Path.{ap}
use Rattle.std.proofs.Math.Bool.{false}
use mathlib.Core.List.{List, [], ◌∷◌}
use Rattle.std.proofs.Math.ListN.{length-map, get_or-map, get_or-eq_default}
use Rattle.meaning.specs.Logic.{Is, is, never}
use Rattle.meaning.specs.Solution.{Args, mem, solution}
use Rattle.meaning.specs.Models.{system, nowhere, meaning}
use Rattle.meaning.specs.Reach.{Instance, next}
use Rattle.meaning.specs.Ranges.{signatures, typed, well_formed}
use Rattle.meaning.specs.Words.{word}
use Rattle.meaning.specs.Members.{Once}
use Rattle.meaning.specs.Search.{ReachedBy}
use Rattle.meaning.specs.Reached.{found_from}
use Rattle.meaning.proofs.Reached.{reached_once, reached_closed, reached_by_steps, steps_reached}
use Rattle.meaning.proofs.Reached.{reached_typed, reached_in_order}
use Rattle.meaning.proofs.Stages.{stage_start, stage_prefix}
use Rattle.meaning.specs.Table.{narrow}
use Rattle.meaning.proofs.Solving.{table_value}
use Rattle.meaning.proofs.WordLaws.{word_injective}
use Rattle.reading.specs.Reading.{text_refusal}
use Rattle.reading.proofs.WellFormed.{reading_well_formed}
use Rattle.truth.specs.Bits.{bit, bit_of, count_below}
use Rattle.truth.specs.Words.{count_true}
use Rattle.truth.proofs.Words.{truth_words_bits, truth_words_count}
use Rattle.answers.specs.declared.Answer.{Answer}
use Rattle.answers.specs.Answers.{the_model, the_start, list, truth_in, shown_values, room_of}
use Rattle.answers.specs.Answers.{verdict, answer}
use Rattle.answers.specs.Demand1.{◌exactly_when◌}
use Rattle.answers.proofs.Demand1.{verdict_given, then_verdict, records_enough}

-- ---- the list, of a text that is not refused
module _ (t : List ℕ) (r : (text_refusal t).number ≡ 0) where
  well : Is (well_formed (the_model t) (the_start t))
  well = reading_well_formed t r

  -- "The start is number 0"
  pub start_first : (more : List Instance) × (list t ≡ the_start t ∷ more)
  unfolding list
  start_first = stage_prefix (the_model t) (the_start t) well [] (the_start t ∷ [])
      (stage_start (the_model t) (the_start t) well)

  -- no instance stands twice
  pub listed_once : Once (list t)
  unfolding list
  listed_once = reached_once (the_model t) (the_start t) well

  -- with an instance, those left in its simplified right side
  pub listed_closed : (i : Instance) → Is (mem i (list t)) → (j : Instance)
      → Is (mem j (next (the_model t) i)) → Is (mem j (list t))
  unfolding list
  listed_closed = reached_closed (the_model t) (the_start t) well

  -- exactly the instances that such steps reach from the start
  pub listed_exactly : (i : Instance) → Is (mem i (list t)) exactly_when ReachedBy (the_model t) (the_start t)
      i
  unfolding list
  listed_exactly i = (
    reached_by_steps (the_model t) (the_start t) well i,
    steps_reached (the_model t)
        (the_start t) well i,
  )

  -- in order of finding: taken in this order, the instances find just this list
  pub listed_in_order : found_from (the_model t) (the_start t ∷ []) (list t) ≡ list t
  unfolding list
  listed_in_order = reached_in_order (the_model t) (the_start t) well

  -- each is an instance of one of the equations, its arguments in range
  pub listed_in_range : (i : Instance) → Is (mem i (list t)) → Is (typed (signatures (the_model t)) i)
  unfolding list
  listed_in_range = reached_typed (the_model t) (the_start t) well

  -- and its word is no other's
  pub listed_words : (i j : Instance) → Is (mem i (list t)) → Is (mem j (list t)) → word i ≡ word j → i ≡ j
  listed_words i j m n = word_injective (the_model t) (the_start t) well i j (listed_in_range i m)
      (listed_in_range j n)

  -- the values of the listed instances do not hang on the others: the system of the listed instances alone
  -- has the same solution on them
  pub others_play_no_part : (e : ℕ) (x : Args) → Is (mem (e ∷ x) (list t))
      → solution (narrow (list t) (system 0 (the_model t))) nowhere e x ≡ meaning (the_model t) e x
  unfolding list
  others_play_no_part = table_value (the_model t) (the_start t) well

-- ---- the answer, where a verdict is given
bit_one : (b : Bool) → (bit b ≡ 1) exactly_when Is b
bit_one true = ((λ _. is), λ _. refl)
bit_one false = ((λ e. absurd (omega arith)), never)

bit_zero : (b : Bool) → (bit b ≡ 0) exactly_when (Is b → ⊥)
bit_zero true = ((λ e. absurd (omega arith)), λ n. absurd (n is))
bit_zero false = ((λ _. never), λ _. refl)

-- the value of an instance is the solution of the whole model there, all arguments in range taking part
pub value_is_meaning : (t : List ℕ) (e : ℕ) (x : Args)
    → truth_in (the_model t) (e ∷ x) ≡ meaning (the_model t) e x
unfolding truth_in
value_is_meaning t e x = refl

-- what is answered for a text that is read and a list that has room
pub verdict_answered : (t : List ℕ) (words : ℕ) → (text_refusal t).number ≡ 0
    → length (list t) ≤ room_of words → answer t words ≡ verdict t
verdict_answered t words r h = sym (records_enough t 8 words (omega arith))
    ∙ then_verdict t 8 words (omega arith) r h

module _ (t : List ℕ) (words : ℕ) (v : (answer t words).number ≡ 0) where
  given : (8 ≤ 8) × ((text_refusal t).number ≡ 0) × (length (list t) ≤ room_of words)
  given = (verdict_given t 8 words).0 (ap (λ (a : Answer). a.number) (records_enough t 8 words (omega arith))
      ∙ v)

  -- the text was read
  pub verdict_read : (text_refusal t).number ≡ 0
  verdict_read = given.1

  -- and the reached instances have room
  pub verdict_room : length (list t) ≤ room_of words
  verdict_room = given.2

  pub answered : answer t words ≡ verdict t
  answered = verdict_answered t words verdict_read verdict_room

  verdict_shown : (e : ℕ) (x : Args) → the_start t ≡ e ∷ x
      → (answer t words).verdict ≡ bit (meaning (the_model t) e x)
  unfolding verdict truth_in
  verdict_shown e x s = ap (λ (a : Answer). a.verdict) answered
      ∙ ap (λ (i : Instance). bit (truth_in (the_model t) i)) s

  -- the same with the start as it stands
  pub start_exactly : ((answer t words).verdict ≡ 1) exactly_when Is (truth_in (the_model t) (the_start t))
  unfolding verdict
  start_exactly = rw answered (bit_one (truth_in (the_model t) (the_start t)))

  -- "holds" exactly when the start is true in the meaning of the model
  pub holds_exactly : (e : ℕ) (x : Args) → the_start t ≡ e ∷ x
      → ((answer t words).verdict ≡ 1) exactly_when Is (meaning (the_model t) e x)
  holds_exactly e x s = rw (verdict_shown e x s) (bit_one (meaning (the_model t) e x))

  -- "fails" exactly when it is not
  pub fails_exactly : (e : ℕ) (x : Args) → the_start t ≡ e ∷ x
      → ((answer t words).verdict ≡ 0) exactly_when (Is (meaning (the_model t) e x) → ⊥)
  fails_exactly e x s = rw (verdict_shown e x s) (bit_zero (meaning (the_model t) e x))

  few : length (shown_values t) ≤ 512
  unfolding shown_values
  few = omega (arith, length-map (list t) (truth_in (the_model t)), verdict_room)

  pub bits_shown : (j : ℕ) → bit_of (answer t words).truth j ≡ get_or (shown_values t) j false
  unfolding verdict
  bits_shown j = rw answered (ap (λ (f : ℕ → Bool). f j) (truth_words_bits (shown_values t) few))

  -- "instance j is bit j mod 64 of word j div 64": the bit of each listed instance is its value
  pub bit_is_value : (j : ℕ) → j < length (list t)
      → bit_of (answer t words).truth j ≡ truth_in (the_model t) (get_or (list t) j [])
  unfolding shown_values truth_in
  bit_is_value j h = bits_shown j ∙ get_or-map (truth_in (the_model t)) (list t) j []

  -- "all other bits are clear"
  pub other_bits_clear : (j : ℕ) → length (list t) ≤ j → bit_of (answer t words).truth j ≡ false
  unfolding shown_values
  other_bits_clear j h = bits_shown j ∙ get_or-eq_default (shown_values t) false
      (omega (arith, length-map (list t) (truth_in (the_model t))))

  -- the reached count is the length of the list
  pub reached_counted : (answer t words).reached ≡ length (list t)
  unfolding verdict
  reached_counted = ap (λ (a : Answer). a.reached) answered

  -- the true count is the number of its true values
  pub trues_counted : (answer t words).trues ≡ count_true (shown_values t)
  unfolding verdict
  trues_counted = ap (λ (a : Answer). a.trues) answered

  -- "The count of true instances is the number of set bits"
  pub set_bits_counted : (answer t words).trues ≡ count_below 512 (bit_of (answer t words).truth)
  unfolding verdict
  set_bits_counted = rw answered (sym (truth_words_count (shown_values t) few))
