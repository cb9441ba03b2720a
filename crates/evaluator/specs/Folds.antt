-- What the contracts of a formula's value and of a quantifier's fold say; none of the documents' words is
-- defined here. A quantifier is the fold over all values of its range.
use Rattle.std.specs.Prelude.{ℕ, ◌≡◌, Bool, not, List, Option}
use Rattle.meaning.specs.Logic.{over}
use Rattle.meaning.specs.Formulas.{Formula}
use Rattle.looked.specs.Looked.{both, at_value, Settled, SettledOver}
use Rattle.looked.specs.declared.Looked.{Looked}
use Rattle.evaluator.specs.Values.{known, join_value, valued}

-- the value of two parts together, and the variables that were looked at for both
abbrev pub joined_values : Bool → Looked (Option Bool) → Looked (Option Bool) → Looked (Option Bool)
joined_values all a b = record {
  value = join_value all a.value b.value;
  looked = both a.looked b.looked;
}

-- r is the value of f, where σ gives the value of each instance's word and the variables in reach have the
-- values v; and it is that as long as those that were looked at have these values
pub record FormulaValued (f : Formula) (σ : ℕ → Option Bool) (v : List ℕ) (r : Looked (Option Bool))
    : Type 0 where
  pub value : r.value ≡ valued f σ v
  pub settled : Settled r.looked v (valued f σ)

-- the same of what a quantifier makes of f over the first n values of one more variable
pub record FoldValued (all : Bool) (n : ℕ) (f : Formula) (σ : ℕ → Option Bool) (v : List ℕ)
    (r : Looked (Option Bool)) : Type 0
  where
    pub value : r.value ≡ over (join_value all) (known all) 0 n (λ i. at_value (valued f σ) i v)
    pub settled : SettledOver (known (not all)) n r.looked v (valued f σ)
