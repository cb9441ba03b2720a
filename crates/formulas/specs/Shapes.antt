-- Definitions that the theorems of `proofs/Shapes` speak of.
-- Each stands alone; what follows from them is there.
use Rattle.std.specs.Prelude.{ℕ, ◌+◌, Bool, true, List, eqb, leb, get_or, Option, None, Some}
use Rattle.meaning.specs.Formulas.{Formula, instance}
use Rattle.formulas.specs.declared.Kind.{Kind}
use Rattle.formulas.specs.declared.Kind.TheVariants.{Constant, Join}
use Rattle.formulas.specs.declared.Kind.TheVariants.{Quantifier, Compare, Instance}
use Rattle.formulas.specs.declared.TermKind.{TermKind}
use Rattle.formulas.specs.declared.TermKind.TheVariants.{Number, Variable, Calculation}
use Rattle.formulas.specs.Decode.{Parsed, some, then, when}
use Rattle.formulas.specs.Decode.{terms_at}

-- ---- how many operands a code has, by its kind
abbrev pub formula_counts : Option Kind → ℕ → Bool
formula_counts None n = true
formula_counts (Some (Constant b)) n = eqb n 0
formula_counts (Some (Join all)) n = eqb n 2
formula_counts (Some (Quantifier all)) n = eqb n 2
formula_counts (Some (Compare t)) n = eqb n 2
formula_counts (Some Instance) n = eqb n 2

abbrev pub term_counts : Option TermKind → ℕ → Bool
term_counts None n = true
term_counts (Some Number) n = eqb n 1
term_counts (Some Variable) n = eqb n 1
term_counts (Some (Calculation plus)) n = eqb n 3

-- ---- formulas; an instance's equation, its number of arguments and these stand from `at` on
abbrev pub instance_at : ℕ → List ℕ → ℕ → ℕ → Parsed Formula
instance_at n s k at =
    when (leb (get_or s (at + 1) 0) 4)
    (then (terms_at n (get_or s (at + 1) 0) s k (at + 2)) (λ ts e. some (instance (get_or s at 0) ts) e))
