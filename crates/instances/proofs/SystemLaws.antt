-- The system of a table of words: each instance is of one equation and in the table, and right sides rise with the set.
-- A right side is the truth of its formula, where an instance without a number is false; so what holds of formulas holds of it.
use Prim.Native.Nat.{ℕ, ◌<◌}
use mathlib.Core.Path.{◌≡◌, refl, sym, ◌∙◌}
use mathlib.Core.Bool.{Bool, true, false, cond, ◌&&◌, and-eq-true_iff}
use mathlib.Core.List.{List, ◌∷◌}
use lib.Dec.{eqb, ltb}
use lib.ListN.{length, get_or}
use borrow.Author.Tests.{ltb-true, eqb-true}
use Rattle.meaning.specs.Order.{Below, below_refl}
use Rattle.meaning.specs.Formulas.{holds}
use Rattle.meaning.proofs.Monotone.{holds_rising}
use Rattle.meaning.specs.Words.{word}
use Rattle.formulas.specs.declared.Equation.{Equation}
use Rattle.words.specs.Unpacked.{equation_number}
use Rattle.std.proofs.Common.{Option, Some, None}
use Rattle.evaluator.specs.Values.{known, index_of, value_in}
use Rattle.evaluator.proofs.AsTruth.{as_truth, known_truth, truths, valued_truth}
use Rattle.systems.specs.Numbered.{Truths, Numbered, Proper}
use Rattle.instances.specs.Sides.{formula_in, arguments_in, side_of, is_true, sides, among_first, names}
use Rattle.instances.specs.Sides.{numbered_system}

-- ---- the right sides
-- a value is true where it is with open taken as false
true_as : (x : Option Bool) → is_true x ≡ as_truth false x
true_as (Some false) = refl
true_as (Some true) = refl
true_as None = refl

-- a word is true in a set where it has a number that is in it
pub word_true : (table : List ℕ) (v : Truths) (w : ℕ)
    → as_truth false (value_in table v w) ≡ (ltb (index_of table w) (length table) && v (index_of table w))
unfolding value_in
word_true table v w = go (ltb (index_of table w) (length table)) (v (index_of table w))
  where
    go : (a b : Bool) → as_truth false (cond a (known b) None) ≡ (a && b)
    go true b = known_truth false b
    go false b = refl

-- so its truth hangs on its number's alone, and rises with it
pub word_same : (table : List ℕ) (v v' : Truths) (w : ℕ) → v (index_of table w) ≡ v' (index_of table w)
    → as_truth false (value_in table v w) ≡ as_truth false (value_in table v' w)
word_same table v v' w h = rw (word_true table v w, word_true table v' w, h)

word_rising : (table : List ℕ) (v v' : Truths) → ((j : ℕ) → Below false (v j) (v' j))
    → (w : ℕ) → Below false (as_truth false (value_in table v w)) (as_truth false (value_in table v' w))
word_rising table v v' h w =
    rw (word_true table v w, word_true table v' w) (go (ltb (index_of table w) (length table)) (h (index_of table w)))
  where
    go : (a : Bool) {b c : Bool} → Below false b c → Below false (a && b) (a && c)
    go true k = k
    go false k = below_refl false

module _ (bodies : List ℕ) (equations : List Equation) (table : List ℕ) where
  abbrev S : Numbered
  S = numbered_system bodies equations table

  -- the right side of instance j is the truth of its formula
  pub side_holds : (v : Truths) (j : ℕ)
      → S.right_sides v j ≡ holds (formula_in bodies equations (equation_number (get_or table j 0)))
      (truths false (value_in table v)) (arguments_in equations (get_or table j 0))
  unfolding numbered_system sides side_of
  side_holds v j = true_as (side_of bodies equations table v (get_or table j 0)) ∙ valued_truth false _ (value_in table v) _

  pub system_rising : (v v' : Truths) → ((j : ℕ) → Below false (v j) (v' j))
      → (j : ℕ) → Below false (S.right_sides v j) (S.right_sides v' j)
  system_rising v v' h j = rw (side_holds v j, side_holds v' j)
      (holds_rising _ _ _ (λ e x _. word_rising table v v' h (word (e ∷ x))) _)

  -- ---- the instances
  pub system_size : S.size ≡ length table
  unfolding numbered_system
  system_size = refl

  -- an instance of equation e is in the table and names e
  pub of_named : (e j : ℕ) → S.of e j ≡ true → (ltb j (length table) ≡ true) × (e ≡ equation_number (get_or table j 0))
  unfolding numbered_system among_first names
  of_named e j p =
      let b = (and-eq-true_iff (ltb j (length table)) (eqb e (equation_number (get_or table j 0)))).0 p in
      (b.0, eqb-true e (equation_number (get_or table j 0)) b.1)

  pub system_apart : (e m j : ℕ) → S.of e j ≡ true → S.of m j ≡ true → e ≡ m
  system_apart e m j p q = (of_named e j p).1 ∙ sym (of_named m j q).1

  pub system_small : (e j : ℕ) → S.of e j ≡ true → j < S.size
  unfolding numbered_system
  system_small e j p = ltb-true j (length table) (of_named e j p).0

  pub system_proper : Proper S
  system_proper = record { apart = system_apart; small = system_small; rising = system_rising }
