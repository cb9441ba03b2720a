-- DEFINITIONS: the promise of preparing bodies: what the reader reads in a body stands in the prepared one.
-- Document 01, "what follows the head" is "exactly one formula of the above kind".
use Rattle.std.specs.Prelude.{ℕ, ◌≤◌, ◌<◌, ◌≡◌, List, length}
use Rattle.meaning.specs.Formulas.{Formula}
use Rattle.formulas.specs.declared.Equation.{Equation}
use Rattle.formulas.specs.Decode.{some, formula_at}
use Rattle.prepared.specs.Decoded.{body_in}
use Rattle.prepared.specs.Prepared.{prepared_part, formula_there}

-- s is one formula that can be read with k parameters in reach, and that is f
pub record Whole (s : List ℕ) (k : ℕ) (f : Formula) : Type 0 where
  pub few : k ≤ 4
  pub short : length s ≤ 256
  pub reads : formula_at (length s) s k 0 0 ≡ some f (length s)

-- p is s, prepared
abbrev pub PreparedOf : (s p : List ℕ) → Type 0
PreparedOf s p = (k : ℕ) (f : Formula) → Whole s k f → formula_there p k 0 ≡ f

-- each of eight bodies is prepared
abbrev pub Prepares : List ℕ → List Equation → List ℕ → Type 0
Prepares bodies equations r =
    (e : ℕ) → e < 8 → PreparedOf (body_in bodies equations e) (prepared_part r e)
