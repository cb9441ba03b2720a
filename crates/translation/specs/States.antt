-- Definitions that the theorems of `proofs/States` speak of.
-- Each stands alone; what follows from them is there.
use Rattle.std.specs.Prelude.{ℕ, ◌≤◌, List, [], ◌∷◌, length}
use Rattle.meaning.specs.Logic.{Is}
use Rattle.meaning.specs.Formulas.{Term}
use Rattle.meaning.specs.Ranges.{sound_term, term_range}

-- a term for a parameter of range p, and terms for parameters of the ranges ps, where the variables in reach
-- have the ranges vs
pub record ReadyTerm (vs : List ℕ) (p : ℕ) (t : Term) : Type 0 where
  pub named : Is (sound_term (length vs) t)
  pub fitting : term_range t vs ≤ p

pub data Ready (vs : List ℕ) : List ℕ → List Term → Type 0 where
  no_term : Ready vs [] []
  one_more : {p : ℕ} {t : Term} {ps : List ℕ} {ts : List Term} → ReadyTerm vs p t → Ready vs ps ts →
      Ready vs (p ∷ ps) (t ∷ ts)
