-- DEFINITIONS: which variables are looked at for a value, and what it means that no other one matters.
-- A set of them is one byte: "parameters are 0 to k-1, then quantified ones", so there are at most eight.
use Rattle.std.specs.Prelude.{ℕ, ◌^◌, ◌<◌, ◌≡◌, Bool, true, cond, ◌||◌, List, [], ◌∷◌, ◌++◌, eqb, ltb, leb}
use Rattle.std.specs.Prelude.{length, get_or}
use Rattle.std.specs.Int.Bits.{bit_or}
use Rattle.meaning.specs.Formulas.{Term, number, variable, calculated}
use Rattle.truth.specs.Bits.{digit}

-- variable i alone
unfoldable pub only : ℕ → ℕ
only i = cond (ltb i 8) (2 ^ i) 0

-- the variables of two sets
unfoldable pub both : ℕ → ℕ → ℕ
both a b = bit_or a b

-- whether variable i is in a set; one past the eighth is in every set
unfoldable pub looks_at : ℕ → ℕ → Bool
looks_at set i = leb 8 i || eqb (digit set i) 1

-- the variables that stand in a term, and in some terms besides those of a set
unfoldable pub looked_term : Term → ℕ
looked_term (number n) = 0
looked_term (variable i) = only i
looked_term (calculated plus r a b) = both (looked_term a) (looked_term b)

unfoldable pub looked_terms : ℕ → List Term → ℕ
looked_terms set [] = set
looked_terms set (t ∷ ts) = looked_terms (both set (looked_term t)) ts

-- as many variables have the values v and w, and those of a set have the same
pub record Alike (set : ℕ) (v w : List ℕ) : Type 0 where
  pub sized : length w ≡ length v
  pub same : (i : ℕ) → looks_at set i ≡ true → get_or w i 0 ≡ get_or v i 0

-- d is what it is at v wherever the variables of the set have the values that they have in v
pub record Settled {A : Type 0} (set : ℕ) (v : List ℕ) (d : List ℕ → A) : Type 0 where
  pub always : (w : List ℕ) → Alike set v w → d w ≡ d v

-- ---- one more variable, at its first n values
-- d where one more variable has the value i
abbrev pub at_value : {A : Type 0} → (List ℕ → A) → ℕ → List ℕ → A
at_value d i w = d (w ++ (i ∷ []))

-- d is settled at each of the values; or at one of them, where it is z, which decides the whole whatever it
-- is at the others
pub data SettledOver {A : Type 0} (z : A) (n set : ℕ) (v : List ℕ) (d : List ℕ → A) : Type 0 where
  at_each : ((i : ℕ) → i < n → Settled set (v ++ (i ∷ [])) d) → SettledOver z n set v d
  at_one : (i : ℕ) → i < n → Settled set (v ++ (i ∷ [])) d → at_value d i v ≡ z → SettledOver z n set v d
