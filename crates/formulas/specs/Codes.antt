-- DEFINITIONS: the codes of formulas and terms. Document 01, "Text of a model".
-- "A table gives each code from 10 to 23 its kind and number of operands; codes 1b to 1f have none and are
-- refused."
use Rattle.std.specs.Prelude.{ℕ, ◌-◌, true, false, cond, List, [], ◌∷◌, leb, get_or, Option, None, Some}
use Rattle.formulas.specs.declared.Kind.{Kind}
use Rattle.formulas.specs.declared.Kind.TheVariants.{Constant, Join, Quantifier, Compare}
use Rattle.formulas.specs.declared.Kind.TheVariants.{Instance}
use Rattle.formulas.specs.declared.TermKind.{TermKind}
use Rattle.formulas.specs.declared.TermKind.TheVariants.{Number, Variable, Calculation}
use Rattle.formulas.specs.declared.Test.TheVariants.{Equal, Less, Unequal, NotLess}

-- what a code begins, as a formula and as a term, and how many operands come after it
pub record Row : Type 0 where
  pub formula : Option Kind
  pub term : Option TermKind
  pub operands : ℕ

abbrev pub row : Option Kind → Option TermKind → ℕ → Row
row formula term operands = record { formula = formula; term = term; operands = operands }

abbrev pub no_row : Row
no_row = row None None 0

-- the codes from 10 to 23. Of an instance, e and n are the operands; then come as many arguments as n says
abbrev pub rows : List Row
rows =
    row (Some (Constant false)) None 0 ∷
    row (Some (Constant true)) None 0 ∷
    row (Some (Join true)) None 2 ∷
    row (Some (Join false)) None 2 ∷
    row (Some (Quantifier true)) None 2 ∷
    row (Some (Quantifier false)) None 2 ∷
    row (Some (Compare Equal)) None 2 ∷
    row (Some (Compare Less)) None 2 ∷
    row (Some (Compare Unequal)) None 2 ∷
    row (Some (Compare NotLess)) None 2 ∷
    row (Some Instance) None 2 ∷
    no_row ∷
    no_row ∷
    no_row ∷
    no_row ∷
    no_row ∷
    row None (Some Number) 1 ∷
    row None (Some Variable) 1 ∷
    row None (Some (Calculation true)) 3 ∷
    row None (Some (Calculation false)) 3 ∷
    []

unfoldable pub row_of : ℕ → Row
row_of code = cond (leb 0x10 code) (get_or rows (code - 0x10) no_row) no_row

abbrev pub kind_of : ℕ → Option Kind
kind_of code = (row_of code).formula

abbrev pub term_kind_of : ℕ → Option TermKind
term_kind_of code = (row_of code).term

abbrev pub operands_of : ℕ → ℕ
operands_of code = (row_of code).operands
