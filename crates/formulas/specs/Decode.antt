-- DEFINITIONS: from bytes to formulas: what stands at a place, and where it ends. Document 01, "Text of a
-- model", refusal 6.
-- After a code come as many operands as its row says. A byte past the end reads 0, which is no code; an
-- operand that stands there ends past the end.
use Rattle.std.specs.Prelude.{ℕ, zero, suc, ◌+◌, ◌-◌, Bool, true, false, List, [], ◌∷◌, ltb, leb, get_or}
use Rattle.std.specs.Prelude.{Option, None, Some}
use Rattle.meaning.specs.Formulas as meaning
use Rattle.meaning.specs.Formulas.{Term, number, variable, calculated, Formula, constant, joined, quantified}
use Rattle.meaning.specs.Formulas.{compared, instance}
use Rattle.meaning.specs.Ranges.{is_range}
use Rattle.formulas.specs.declared.Kind.{Kind}
use Rattle.formulas.specs.declared.Kind.TheVariants.{Constant, Join, Quantifier, Compare}
use Rattle.formulas.specs.declared.Kind.TheVariants.{Instance}
use Rattle.formulas.specs.declared.TermKind.{TermKind}
use Rattle.formulas.specs.declared.TermKind.TheVariants.{Number, Variable, Calculation}
use Rattle.formulas.specs.declared.Test.{Test}
use Rattle.formulas.specs.declared.Test.TheVariants.{Equal, Less, Unequal, NotLess}
use Rattle.formulas.specs.Codes.{kind_of, term_kind_of, operands_of}

pub data Parsed (A : Type 0) : Type 0 where
  none : Parsed A
  -- what was read, and the place after it
  some : A → ℕ → Parsed A

-- go on after what was read
abbrev pub then : {A B : Type 0} → Parsed A → (A → ℕ → Parsed B) → Parsed B
then none k = none
then (some a e) k = k a e

-- p where the test holds
abbrev pub when : {A : Type 0} → Bool → Parsed A → Parsed A
when true p = p
when false p = none

-- c operands in a row, each read by `one`
unfoldable pub in_row : {A : Type 0} → (ℕ → Parsed A) → ℕ → ℕ → Parsed (List A)
in_row one zero at = some [] at
in_row one (suc c) at = then (one at) (λ a m. then (in_row one c m) (λ rest e. some (a ∷ rest) e))

-- operand number i of those that were read
abbrev pub nth_term : List Term → ℕ → Term
nth_term ts i = get_or ts i (number 0)

abbrev pub nth_formula : List Formula → ℕ → Formula
nth_formula fs i = get_or fs i (constant false)

abbrev pub test_of : Test → meaning.Test
test_of Equal = meaning.equal
test_of Less = meaning.less
test_of Unequal = meaning.unequal
test_of NotLess = meaning.not_less

-- the term of a kind with c operands, whose code stands at `at` of the bytes s, with k variables in reach;
-- `sub` reads the terms inside:
-- `20 v`, v 0 to 15; `21 i`, i a variable in reach; `22 r a b` and `23 r a b`, r a range
unfoldable pub term_of_kind : (ℕ → Parsed Term) → Option TermKind → ℕ → List ℕ → ℕ → ℕ → Parsed Term
term_of_kind sub None c s k at = none
term_of_kind sub (Some Number) c s k at = when (leb (get_or s (at + 1) 0) 15)
    (some (number (get_or s (at + 1) 0)) (at + (1 + c)))
term_of_kind sub (Some Variable) c s k at = when (ltb (get_or s (at + 1) 0) k)
    (some (variable (get_or s (at + 1) 0)) (at + (1 + c)))
term_of_kind sub (Some (Calculation plus)) c s k at =
    when (is_range (get_or s (at + 1) 0))
    (then (in_row sub (c - 1) (at + 2)) (λ ts e. some
    (calculated plus (get_or s (at + 1) 0) (nth_term ts 0) (nth_term ts 1)) e))

-- n bounds how deep terms stand in one another: the number of bytes is enough
unfoldable pub term_at : ℕ → List ℕ → ℕ → ℕ → Parsed Term
term_at zero s k at = none
term_at (suc n) s k at =
    term_of_kind (term_at n s k) (term_kind_of (get_or s at 0)) (operands_of (get_or s at 0))
    s k at

-- c terms in a row
abbrev pub terms_at : ℕ → ℕ → List ℕ → ℕ → ℕ → Parsed (List Term)
terms_at n c s k at = in_row (term_at n s k) c at

-- the formula of a kind with c operands, whose code stands at `at`, with k variables in reach and q
-- quantifiers around; `sub` reads the formulas inside:
-- `10`, `11`; `12 f g`, `13 f g`; `14 r f`, `15 r f`, "at most four quantifiers stand around any place"; `16
-- a b` to `19 a b`; `1a e n t..`, n 0 to 4
unfoldable pub formula_of_kind : ℕ → (ℕ → ℕ → ℕ → Parsed Formula) → Option Kind → ℕ → List ℕ → ℕ → ℕ → ℕ
    → Parsed Formula
formula_of_kind n sub None c s k q at = none
formula_of_kind n sub (Some (Constant b)) c s k q at = some (constant b) (at + (1 + c))
formula_of_kind n sub (Some (Join all)) c s k q at =
    then (in_row (sub k q) c (at + 1)) (λ fs e. some (joined all (nth_formula fs 0) (nth_formula fs 1)) e)
formula_of_kind n sub (Some (Quantifier all)) c s k q at =
    when (ltb q 4)
    (when (is_range (get_or s (at + 1) 0))
    (then (in_row (sub (k + 1) (q + 1)) (c - 1) (at + 2))
    (λ fs e. some (quantified all (get_or s (at + 1) 0) (nth_formula fs 0)) e)))
formula_of_kind n sub (Some (Compare t)) c s k q at =
    then (terms_at n c s k (at + 1)) (λ ts e. some (compared (test_of t) (nth_term ts 0) (nth_term ts 1)) e)
formula_of_kind n sub (Some Instance) c s k q at =
    when (leb (get_or s (at + 2) 0) 4)
    (then (terms_at n (get_or s (at + 2) 0) s k (at + (1 + c)))
    (λ ts e. some (instance (get_or s (at + 1) 0) ts) e))

-- n bounds how deep formulas stand in one another: the number of bytes is enough
unfoldable pub formula_at : ℕ → List ℕ → ℕ → ℕ → ℕ → Parsed Formula
formula_at zero s k q at = none
formula_at (suc n) s k q at = formula_of_kind n (formula_at n s) (kind_of (get_or s at 0))
    (operands_of (get_or s at 0)) s k q at
