-- How the values of a quantified variable join, one after the other: what decides is the whole, and where all are the same
-- so is one. Joining values is associative and idempotent, and drops the constant that changes nothing.
use Prim.Native.Nat.{ℕ, zero, suc, ◌+◌, ◌-◌, ◌≤◌, ◌<◌}
use native.Mathlib.Omega.{arith}
use native.Mathlib.Nat.{sub-zero}
use mathlib.Core.Path.{◌≡◌, refl, sym, ap, ap₂, ◌∙◌}
use mathlib.Core.Bool.{Bool, true, false, true≢false, not}
use mathlib.Core.Logic.{◌⊎◌, inl, inr}
use Rattle.meaning.specs.Logic.{over}
use Rattle.meaning.specs.Over.{between, between_one, between_parts}
use Rattle.looked.proofs.OverLaws.{Decider}
use Rattle.std.proofs.Common.{Option, Some, None}
use Rattle.evaluator.specs.Values.{known, join_value, decides}

unit_last : (all : Bool) (x : Option Bool) → join_value all x (known all) ≡ x
unit_last true (Some false) = refl
unit_last true (Some true) = refl
unit_last true None = refl
unit_last false (Some false) = refl
unit_last false (Some true) = refl
unit_last false None = refl

unit_first : (all : Bool) (x : Option Bool) → join_value all (known all) x ≡ x
unit_first true x = refl
unit_first false x = refl

associative : (all : Bool) (x y z : Option Bool) → join_value all x (join_value all y z) ≡ join_value all (join_value all x y) z
associative true (Some false) y z = refl
associative true (Some true) y z = refl
associative true None (Some false) z = refl
associative true None (Some true) z = refl
associative true None None (Some false) = refl
associative true None None (Some true) = refl
associative true None None None = refl
associative false (Some true) y z = refl
associative false (Some false) y z = refl
associative false None (Some true) z = refl
associative false None (Some false) z = refl
associative false None None (Some false) = refl
associative false None None (Some true) = refl
associative false None None None = refl

joined_itself : (all : Bool) (x : Option Bool) → join_value all x x ≡ x
joined_itself true (Some false) = refl
joined_itself true (Some true) = refl
joined_itself true None = refl
joined_itself false (Some false) = refl
joined_itself false (Some true) = refl
joined_itself false None = refl

-- what decides is the constant that a connective does not drop
pub deciding : (all : Bool) (x : Option Bool) → decides all x ≡ true → x ≡ known (not all)
deciding true (Some false) h = refl
deciding true (Some true) h = absurd (true≢false (sym h))
deciding true None h = absurd (true≢false (sym h))
deciding false (Some false) h = absurd (true≢false (sym h))
deciding false (Some true) h = refl
deciding false None h = absurd (true≢false (sym h))

-- no two values are one
abbrev is_false : Option Bool → Bool
is_false (Some false) = true
is_false (Some true) = false
is_false None = false

abbrev is_true : Option Bool → Bool
is_true (Some false) = false
is_true (Some true) = true
is_true None = false

pub joins_decided : (all : Bool) → Decider (join_value all) (known all) (known (not all))
joins_decided true = record { first = λ x. refl; second = second; either = either; other = λ e. true≢false (ap is_false (sym e)) }
  where
    second : (x : Option Bool) → join_value true x (Some false) ≡ Some false
    second (Some false) = refl
    second (Some true) = refl
    second None = refl

    either : (x y : Option Bool) → join_value true x y ≡ Some false → (x ≡ (Some false)) ⊎ (y ≡ (Some false))
    either (Some false) y e = inl refl
    either (Some true) y e = inr e
    either None (Some false) e = inr refl
    either None (Some true) e = absurd (true≢false (ap is_false (sym e)))
    either None None e = absurd (true≢false (ap is_false (sym e)))
joins_decided false = record { first = λ x. refl; second = second; either = either; other = λ e. true≢false (ap is_true (sym e)) }
  where
    second : (x : Option Bool) → join_value false x (Some true) ≡ Some true
    second (Some false) = refl
    second (Some true) = refl
    second None = refl

    either : (x y : Option Bool) → join_value false x y ≡ Some true → (x ≡ (Some true)) ⊎ (y ≡ (Some true))
    either (Some true) y e = inl refl
    either (Some false) y e = inr e
    either None (Some true) e = inr refl
    either None (Some false) e = absurd (true≢false (ap is_true (sym e)))
    either None None e = absurd (true≢false (ap is_true (sym e)))

-- what decides the whole is the whole, whatever the rest is
stops : (all : Bool) (x y : Option Bool) → decides all x ≡ true → x ≡ join_value all x y
stops true (Some false) y h = refl
stops true (Some true) y h = absurd (true≢false (sym h))
stops true None y h = absurd (true≢false (sym h))
stops false (Some false) y h = absurd (true≢false (sym h))
stops false (Some true) y h = refl
stops false None y h = absurd (true≢false (sym h))

module _ (all : Bool) (p : ℕ → Option Bool) where
  -- of the first n values
  abbrev all_of : ℕ → Option Bool
  all_of n = over (join_value all) (known all) 0 n p

  pub first_value : p 0 ≡ all_of 1
  unfolding over
  first_value = sym (unit_last all (p 0))

  -- those below a place, and those from it on
  parts : {n m : ℕ} → n ≤ m → join_value all (all_of n) (between (join_value all) (known all) n m p) ≡ all_of m
  parts {n} {m} l = rw (sub-zero n, sub-zero m) at
      (between_parts (join_value all) (known all) (associative all) (unit_first all) p {from = 0} {mid = n} {to = m}
      (omega arith) l)

  pub one_more : (n : ℕ) → join_value all (all_of n) (p n) ≡ all_of (n + 1)
  one_more n =
      ap (join_value all (all_of n))
      (sym (between_one (join_value all) (known all) p {from = n} {to = n + 1} (omega arith) (omega arith) ∙ unit_last all (p n)))
      ∙ parts (omega arith)

  pub decided_early : {n m : ℕ} → n ≤ m → decides all (all_of n) ≡ true → all_of n ≡ all_of m
  decided_early {n} {m} l d = stops all (all_of n) (between (join_value all) (known all) n m p) d ∙ parts l

  -- all values are the same
  same_over : (x : Option Bool) → ((i : ℕ) → p i ≡ x) → (v n : ℕ) → over (join_value all) (known all) v (suc n) p ≡ x
  unfolding over
  same_over x h v zero = unit_last all (p v) ∙ h v
  same_over x h v (suc n) = ap₂ (join_value all) (h v) (same_over x h (v + 1) n) ∙ joined_itself all x

  pub same_early : {n m : ℕ} → 0 < n → n ≤ m → ((i : ℕ) → p i ≡ p 0) → all_of n ≡ all_of m
  same_early {n} {m} l h e =
      let a : n ≡ suc (n - 1) = omega arith in
      let b : m ≡ suc (m - 1) = omega arith in
      rw (a, b) (same_over (p 0) e 0 (n - 1) ∙ sym (same_over (p 0) e 0 (m - 1)))
