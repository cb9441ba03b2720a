-- An instance of a well-formed model can be read from its word; so equal words are equal instances.
-- Its arguments, four at most and each below 16, are the last four digits of the word to the base 16.
use Rattle.std.specs.Prelude.{ℕ, zero, suc, ◌+◌, ◌*◌, ◌/◌, ◌%◌, ◌≤◌, ◌<◌, ◌≡◌, refl, get_or, take}
use Rattle.std.proofs.Common.{arith, ◌∙◌, leb→le}
use Rattle.std.proofs.Math.Decide.{dec_lt}
use Rattle.std.proofs.Math.Path.{sym, ap, ap₂}
use mathlib.Core.List.{List, [], ◌∷◌}
use Rattle.std.proofs.Math.ListN.{length, get_or-eq_default}
use Rattle.meaning.specs.Logic.{Is, never, Is→T, and_l, and_r}
use Rattle.meaning.specs.Models.{Model}
use Rattle.meaning.specs.Reach.{Instance}
use Rattle.meaning.specs.Ranges.{all_ranges, signatures, typed, well_formed}
use Rattle.meaning.specs.Words.{word}
use Rattle.meaning.proofs.Typed.{within_length, within_at, typed_equation, well_formed_count}
use Rattle.meaning.specs.Typed.{ranges_at}
use Rattle.meaning.proofs.Typed.{signatures_length, ranges_count, ranges_sound}
use Rattle.meaning.specs.WordLaws.{arguments_of, four_of}

range_at : (rs : List ℕ) (i : ℕ) → Is (all_ranges rs) → get_or rs i 0 ≤ 16
unfolding all_ranges
range_at [] i h = omega arith
range_at (r ∷ rs) zero h = leb→le r 16 (Is→T (and_r _ _ (and_l _ _ h)))
range_at (r ∷ rs) (suc i) h = range_at rs i (and_r _ _ h)

pub first_of_four : (x : List ℕ) → length x ≤ 4 → take (length x) (four_of x) ≡ x
first_of_four [] h = refl
first_of_four (a ∷ []) h = refl
first_of_four (a ∷ b ∷ []) h = refl
first_of_four (a ∷ b ∷ c ∷ []) h = refl
first_of_four (a ∷ b ∷ c ∷ d ∷ []) h = refl
first_of_four (a ∷ b ∷ c ∷ d ∷ e ∷ x) h = absurd (omega arith)

-- four digits behind a number
last_four : (e a b c d : ℕ) → a < 16 → b < 16 → c < 16 → d < 16 →
    arguments_of 4 (e * 65536 + a * 4096 + b * 256 + c * 16 + d) ≡ a ∷ b ∷ c ∷ d ∷ []
unfolding arguments_of
last_four e a b c d p q r s =
    let w : ℕ = e * 65536 + a * 4096 + b * 256 + c * 16 + d in
    let first : w / 4096 % 16 ≡ a = omega arith in
    let second : w / 256 % 16 ≡ b = omega arith in
    let third : w / 16 % 16 ≡ c = omega arith in
    let last : w % 16 ≡ d = omega arith in
    rw (first, second, third, last)

module _ (model : Model) (start : Instance) (w : Is (well_formed model start)) where
  abbrev pub Typed : Instance → Type 0
  Typed i = Is (typed (signatures model) i)

  pub typed_length : (e : ℕ) (x : List ℕ) → Typed (e ∷ x) → length x ≡ length (ranges_at model e)
  unfolding typed
  typed_length e x t = within_length x _ (and_r _ _ t)

  -- an argument is below 16, also one that is absent
  argument_below : (e : ℕ) (x : List ℕ) → Typed (e ∷ x) → (i : ℕ) → get_or x i 0 < 16
  unfolding typed
  argument_below e x t i =
      let there = typed_equation (signatures model) e x t in
      let few = range_at (ranges_at model e) i (ranges_sound model start w e there) in
      let long = typed_length e x t in
      elim (dec_lt i (length x)) [
        | yes l ↦ omega (arith, within_at x (ranges_at model e) i (and_r _ _ t) (omega arith))
        | no l ↦ rw (get_or-eq_default x 0 {n = i} (omega arith)) (omega arith)
      ]

  module _ (e : ℕ) (x : List ℕ) (t : Typed (e ∷ x)) where
    abbrev below : (i : ℕ) → get_or x i 0 < 16
    below = argument_below e x t

    pub word_equation : word (e ∷ x) / 65536 ≡ e
    unfolding word
    word_equation = omega (arith, below 0, below 1, below 2, below 3)

    word_digits : arguments_of 4 (word (e ∷ x)) ≡ four_of x
    unfolding word
    word_digits = last_four e _ _ _ _ (below 0) (below 1) (below 2) (below 3)

    -- the arguments back from the word, by how many there are
    pub word_arguments : arguments_of (length x) (word (e ∷ x)) ≡ x
    unfolding arguments_of
    word_arguments =
        let few = ranges_count model start w e (typed_equation (signatures model) e x t) in
        ap (take (length x)) word_digits ∙ first_of_four x (omega (arith, typed_length e x t))

  pub word_bound : (i : Instance) → Typed i → word i < 524288
  unfolding word typed
  word_bound [] t = never t
  word_bound (e ∷ x) t =
      let below = argument_below e x t in
      let equation = typed_equation (signatures model) e x t in
      let count = well_formed_count model start w in
      omega (arith, signatures_length model, below 0, below 1, below 2, below 3)

  pub word_injective : (i j : Instance) → Typed i → Typed j → word i ≡ word j → i ≡ j
  unfolding typed
  word_injective [] j t u h = never t
  word_injective (e ∷ x) [] t u h = never u
  word_injective (e ∷ x) (f ∷ y) t u h =
      let same_equation = sym (word_equation e x t) ∙ ap (λ (n : ℕ). n / 65536) h ∙ word_equation f y u in
      let same_ranges = ap (λ (n : ℕ). length (ranges_at model n)) same_equation in
      let same_length = typed_length e x t ∙ same_ranges ∙ sym (typed_length f y u) in
      ap₂ ◌∷◌ same_equation
      (sym (word_arguments e x t) ∙ ap₂ arguments_of same_length h ∙ word_arguments f y u)
