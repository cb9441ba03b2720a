-- A set filled from number 0 up: `Filling` is kept by a turn that puts number j, or passes it, and says the end.
-- What is filled below j + 1 differs from what is filled below j at j alone.
use mathlib.Core.Path.{◌≡◌, refl, sym, ap, ◌∙◌, fun_ext}
use mathlib.Core.Bool.{Bool, true, false}
use mathlib.Core.List.{List}
use Prim.Native.Nat.{ℕ, ◌+◌, ◌<◌, ◌≤◌}
use native.Mathlib.Decide.{ℕ_discrete, dec_lt}
use native.Mathlib.Omega.{arith}
use lib.Dec.{eqb}
use lib.ListN.{get_or}
use borrow.Author.Tests.{eq-eqb, ne_eqb, lt-ltb, le-ltb}
use Rattle.formulas.specs.declared.Equation.{Equation}
use Rattle.truth.specs.Bits.{bit_of, put_in}
use Rattle.truth.proofs.Bits.{updated_is}
use Rattle.words.specs.Unpacked.{equation_number}
use Rattle.prepared.specs.Decoded.{equation_at}
use Rattle.systems.specs.Numbered.{Truths}
use Rattle.instances.specs.Sides.{among_first, names, is_greatest}
use Rattle.systems.specs.Solved.{filled}
use Rattle.nested.specs.Candidates.{names_below, constants}

-- before turn j of `size` turns: s is `new` at the numbers below j that p has, and `old` at the others
pub record Filling (p new old : Truths) (size j : ℕ) (s : List ℕ) : Type 0 where
  pub within : j ≤ size
  pub below : bit_of s ≡ filled (among_first j p) new old

pub fill_none : {p new old : Truths} {size : ℕ} {s : List ℕ} → bit_of s ≡ old → Filling p new old size 0 s
unfolding filled among_first
fill_none e = record { within = omega arith; below = e ∙ fun_ext λ k. rw (le-ltb k 0 (omega arith)) }

-- away from j nothing changes between j and j + 1
apart : (p : Truths) (j k : ℕ) → (k ≡ j → ⊥) → among_first j p k ≡ among_first (j + 1) p k
unfolding among_first
apart p j k ne = elim (dec_lt k j) [
  | yes l ↦ rw (lt-ltb k j l, lt-ltb k (j + 1) (omega arith))
  | no n ↦ rw (le-ltb k j (omega arith), le-ltb k (j + 1) (omega arith))
]

here : (p : Truths) (j : ℕ) → among_first (j + 1) p j ≡ p j
unfolding among_first
here p j = rw (lt-ltb j (j + 1) (omega arith))

module _ {p new old : Truths} {size j : ℕ} {s : List ℕ} (f : Filling p new old size j s) where
  pub fill_done : size ≤ j → bit_of s ≡ filled (among_first size p) new old
  fill_done h =
      let e : j ≡ size = omega arith in
      rw (← e) f.below

  module _ (l : j < size) where
    -- number j is put: u has it, and t is the set after the turn
    pub fill_more : size ≤ 512 → {b : Bool} {t u : List ℕ} → p j ≡ true → b ≡ new j
        → bit_of u ≡ put_in (bit_of s) j b → t ≡ u → Filling p new old size (j + 1) t
    unfolding filled
    fill_more few {b} q value put same = record {
      within = omega arith;
      below = ap bit_of same ∙ put ∙ rw (lt-ltb j 512 (omega arith)) (sym (updated_is _ (bit_of s) j b
          (rw (here p j, q) (sym value)) (λ k n. rw (← apart p j k n) (ap (λ (g : Truths). g k) (sym f.below)))));
    }

    -- or it is passed
    pub fill_skip : {t : List ℕ} → p j ≡ false → t ≡ s → Filling p new old size (j + 1) t
    unfolding filled among_first
    fill_skip q same = record {
      within = omega arith;
      below = ap bit_of same ∙ f.below ∙ fun_ext λ k. elim (ℕ_discrete k j) [
        | yes e ↦ rw (e, le-ltb j j (omega arith), lt-ltb j (j + 1) (omega arith), q)
        | no n ↦ rw (apart p j k n)
      ];
    }

-- ---- what the loops test: e is the equation of number j's word
module _ (table : List ℕ) (j : ℕ) {e : ℕ} (is : e ≡ equation_number (get_or table j 0)) where
  pub named : {i : ℕ} → e ≡ i → names table i j ≡ true
  unfolding names
  named q = eq-eqb _ _ (sym q ∙ is)

  pub not_named : {i : ℕ} → (e ≡ i → ⊥) → names table i j ≡ false
  unfolding names
  not_named n = ne_eqb _ _ (λ q. n (is ∙ sym q))

  pub named_below : {count : ℕ} → e < count → names_below table count j ≡ true
  unfolding names_below
  named_below l = lt-ltb _ _ (rw is at l)

  pub not_named_below : {count : ℕ} → count ≤ e → names_below table count j ≡ false
  unfolding names_below
  not_named_below l = le-ltb _ _ (rw is at l)

  pub constant_is : (equations : List Equation) → eqb (equation_at equations e).sign 1 ≡ constants equations table j
  unfolding constants is_greatest
  constant_is equations = rw is refl
