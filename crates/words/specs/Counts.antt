-- DEFINITIONS: how many words of a list have an equation. Request 2026-06.
-- Below it the laws: of one word more, of the first words, and of all equations together. Each follows the
-- list.
use Prim.Native.Nat.{ℕ, suc, ◌+◌, ◌≤◌, ◌<◌}
use native.Mathlib.{Numerals.add-one, Omega.arith}
use Rattle.std.specs.Prelude.{◌≡◌, Bool, eqb, length, get_or, take, drop}
use Rattle.std.proofs.Math.Path.{refl}
use Rattle.std.proofs.Common.{ap, ◌∙◌, take-append-drop, take-suc, eq-eqb, ne_eqb}
use Rattle.std.proofs.Math.Bool.{true, false, cond}
use mathlib.Core.List.{List, [], ◌∷◌, ◌++◌}
use Rattle.words.specs.Unpacked.{equation_number}

-- "the number of words in the list with that equation"
unfoldable pub count_with : ℕ → List ℕ → ℕ
count_with e [] = 0
count_with e (w ∷ ws) = cond (eqb (equation_number w) e) (suc (count_with e ws)) (count_with e ws)

-- ---- laws
module _ (e : ℕ) where
  pub count_none : count_with e [] ≡ 0
  unfolding count_with
  count_none = refl

  -- a word in front, of this equation or of another
  pub count_one : (w : ℕ) (ws : List ℕ) → equation_number w ≡ e
      → count_with e (w ∷ ws) ≡ suc (count_with e ws)
  unfolding count_with
  count_one w ws h = rw (eq-eqb _ _ h) refl

  pub count_other : (w : ℕ) (ws : List ℕ) → (equation_number w ≡ e → ⊥)
      → count_with e (w ∷ ws) ≡ count_with e ws
  unfolding count_with
  count_other w ws h = rw (ne_eqb _ _ h) refl

  -- lists after each other
  pub count_append : (xs ys : List ℕ) → count_with e (xs ++ ys) ≡ count_with e xs + count_with e ys
  unfolding count_with
  count_append [] ys = omega arith
  count_append (x ∷ xs) ys = by_first (eqb (equation_number x) e) _ _ (count_append xs ys)
    where
      by_first : (b : Bool) {n : ℕ} (m k : ℕ) → n ≡ m + k → cond b (suc n) n ≡ cond b (suc m) m + k
      by_first true m k h = omega arith
      by_first false m k h = h

  -- one more of the first words, of this equation or of another
  module _ (i : ℕ) (ws : List ℕ) (h : i < length ws) where
    count_last : count_with e (take (i + 1) ws)
        ≡ count_with e (take i ws) + count_with e (get_or ws i 0 ∷ [])
    count_last = rw add-one (ap (count_with e) (take-suc ws i 0 h) ∙ count_append (take i ws) _)

    pub count_next : equation_number (get_or ws i 0) ≡ e
        → count_with e (take (i + 1) ws) ≡ count_with e (take i ws) + 1
    count_next q = omega (arith, count_last, count_one (get_or ws i 0) [] q, count_none)

    pub count_past : (equation_number (get_or ws i 0) ≡ e → ⊥)
        → count_with e (take (i + 1) ws) ≡ count_with e (take i ws)
    count_past q = omega (arith, count_last, count_other (get_or ws i 0) [] q, count_none)

  -- no more than there are
  pub count_at_most : (ws : List ℕ) → count_with e ws ≤ length ws
  unfolding count_with
  count_at_most [] = omega arith
  count_at_most (w ∷ ws) = by_first (eqb (equation_number w) e) (count_at_most ws)
    where
      by_first : (b : Bool) {n m : ℕ} → n ≤ m → cond b (suc n) n ≤ suc m
      by_first true h = omega arith
      by_first false h = omega arith

  -- the first words have no more than all
  pub count_first : (n : ℕ) (ws : List ℕ) → count_with e (take n ws) ≤ count_with e ws
  count_first n ws = omega (
    arith,
    ap (count_with e) (take-append-drop n ws),
    count_append (take n ws) (drop n ws),
  )
