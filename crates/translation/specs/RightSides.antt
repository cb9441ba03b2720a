-- Definitions that the theorems of `proofs/RightSides` speak of.
-- Each stands alone; what follows from them is there.
use Rattle.std.specs.Prelude.{ℕ, ◌+◌, ◌≡◌, length}
use mathlib.Core.List.{List}
use Rattle.meaning.specs.Logic.{Is}
use Rattle.meaning.specs.Solution.{Set, Assign}
use Rattle.meaning.specs.Formulas.{Term, Formula, values, holds}
use Rattle.meaning.specs.Ranges.{within}
use Rattle.translation.specs.Processes.{Process}
use Rattle.translation.specs.States.{Ready}

-- a formula with terms for the parameters has, for all values of the variables in reach, the value of S at
-- the values of these terms
abbrev pub Says : Process → Assign → (List Term → ℕ → Formula) → Set → Type 0
Says process θ inside S =
    (state : List Term) (q : ℕ) (vs v : List ℕ) →
    length process.ranges + q ≡ length vs → Ready vs process.ranges state →
    Is (within v vs) → holds (inside state q) θ v ≡ S (values state v)
