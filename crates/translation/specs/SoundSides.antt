-- Definitions that the theorems of `proofs/SoundSides` speak of.
-- Each stands alone; what follows from them is there.
use Prim.Native.Nat.{ℕ, ◌+◌, ◌<◌}
use Rattle.std.specs.Prelude.{◌≡◌, get_or}
use mathlib.Core.List.{List, []}
use Rattle.std.proofs.Math.ListN.{length}
use Rattle.meaning.specs.Logic.{Is}
use Rattle.meaning.specs.Formulas.{Term, Formula}
use Rattle.meaning.specs.Ranges.{sound, fits}
use Rattle.translation.specs.Processes.{Process}
use Rattle.translation.specs.Translation.{four_quantifiers}
use Rattle.translation.specs.States.{Ready}

-- what 6 and 7 leave of a formula: the variables in reach have the ranges vs, q quantifiers are around, and
-- `declared` has the ranges of each equation's parameters
pub record Admitted (declared : List (List ℕ)) (vs : List ℕ) (q : ℕ) (f : Formula) : Type 0 where
  pub by_6 : Is (sound (length vs) q f)
  pub by_7 : Is (fits declared f vs)

-- a formula with terms for the parameters is admitted, whatever terms are ready
abbrev pub Kept : Process → List (List ℕ) → (List Term → ℕ → Formula) → Type 0
Kept process declared inside =
    (state : List Term) (q : ℕ) (vs : List ℕ) →
    length process.ranges + q ≡ length vs → Ready vs process.ranges state →
    Is (four_quantifiers q (inside state q)) → Admitted declared vs q (inside state q)

-- every equation has the process's parameters
abbrev pub Declared : Process → List (List ℕ) → Type 0
Declared process declared = (e : ℕ) → e < length declared → get_or declared e [] ≡ process.ranges
