-- Definitions that the theorems of `proofs/Quantifiers` speak of.
-- Each stands alone; what follows from them is there.
use Rattle.std.specs.Prelude.{ℕ, ◌+◌, ◌≤◌, ◌<◌, Bool, true, false, not, List, [], ◌∷◌}
use Rattle.meaning.specs.Logic.{join, over, Is}
use Rattle.meaning.specs.Solution.{Args, Set, mem}
use Rattle.meaning.specs.Ranges.{within}

-- the other truth value where `all` is true, the same one where it is false
unfoldable pub turned : Bool → Bool → Bool
turned true b = not b
turned false b = b

abbrev pub OneOf : List Args → Set → Type 0
OneOf D p = (x : Args) × Is (mem x D) × Is (p x)

abbrev pub SomeValue : ℕ → ℕ → (ℕ → Bool) → Type 0
SomeValue v n p = (i : ℕ) × (v ≤ i) × (i < v + n) × Is (p i)

-- p holds for some values in these ranges
unfoldable pub some_values : List ℕ → Set → Bool
some_values [] p = p []
some_values (r ∷ rs) p = over (join false) false 0 r (λ i. some_values rs (λ e. p (i ∷ e)))

abbrev pub SomeValues : List ℕ → Set → Type 0
SomeValues rs p = (e : Args) × Is (within e rs) × Is (p e)
