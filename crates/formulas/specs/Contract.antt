-- What the contracts of the formula reader's inner functions say; no word of the documents is defined here.
-- `Told` is two-sided: whether something was read, and where it was, where it ends and what holds of it.
use Rattle.std.specs.Prelude.{ℕ, zero, suc, ◌+◌, ◌*◌, ◌≤◌, ◌<◌, min, Bool, true, false, cond, List, []}
use Rattle.std.specs.Prelude.{◌∷◌, ltb, length, get_or, Option, None, Some}
use Rattle.meaning.specs.Formulas.{Term, Formula}
use Rattle.formulas.specs.declared.Equation.{Equation}
use Rattle.formulas.specs.declared.codes.Row as table
use Rattle.formulas.specs.declared.codes.Row.TheVariants.{Formula as a_formula, Term as a_term}
use Rattle.formulas.specs.Codes.{Row, row, no_row}
use Rattle.formulas.specs.declared.Span.{Span}
use Rattle.formulas.specs.Decode.{Parsed, none, some, term_at, terms_at, formula_at}
use Rattle.formulas.specs.Shapes.{instance_at}

-- ---- the row that the reader's table has for a code, as the row of the definition
abbrev pub told_row : Option table.Row → Row
told_row None = no_row
told_row (Some (a_formula kind operands)) = row (Some kind) None operands
told_row (Some (a_term kind operands)) = row None (Some kind) operands

-- ---- the signatures as bytes: five for each equation, its four ranges and how many of them are parameters';
-- in place 40 stands how many equations there are
abbrev pub signature_byte : Equation → ℕ → ℕ
signature_byte e i = cond (ltb i 4) (get_or e.ranges i 0) (min e.k 4)

-- c bytes from j on
unfoldable pub part : List ℕ → ℕ → ℕ → List ℕ
part table j zero = []
part table j (suc c) = get_or table j 0 ∷ part table (j + 1) c

abbrev pub signature_in : List ℕ → ℕ → List ℕ
signature_in table x = part table (5 * x) (get_or table (5 * x + 4) 0)

-- those of n equations from x on
unfoldable pub signatures_from : List ℕ → ℕ → ℕ → List (List ℕ)
signatures_from table x zero = []
signatures_from table x (suc n) = signature_in table x ∷ signatures_from table (x + 1) n

abbrev pub signatures_in : List ℕ → List (List ℕ)
signatures_in table = signatures_from table 0 (get_or table 40 0)

-- ---- what is told
-- whether something was read; where it was, it ends at e and P holds of it
pub data Told {A : Type 0} (P : A → Type 0) (e : ℕ) : Parsed A → Bool → Type 0 where
  refused : Told P e none false
  told : {a : A} → P a → Told P e (some a e) true

-- n is deep enough: as many as the bytes that are left
pub record TermTold (s : List ℕ) (k at : ℕ) (P : Term → Type 0) (ok : Bool) (e : ℕ) : Type 0 where
  pub tells : (n : ℕ) → length s ≤ n + at → Told P e (term_at n s k at) ok

-- c terms in a row
pub record TermsTold (c : ℕ) (s : List ℕ) (k at : ℕ) (P : List Term → Type 0) (ok : Bool) (e : ℕ) : Type 0
  where
    pub tells : (n : ℕ) → length s ≤ n + at → Told P e (terms_at n c s k at) ok

-- the instance whose equation stands at `at`
pub record InstanceTold (s : List ℕ) (k at : ℕ) (P : Formula → Type 0) (ok : Bool) (e : ℕ) : Type 0 where
  pub tells : (n : ℕ) → length s ≤ n + at → Told P e (instance_at n s k at) ok

-- what is told where more must come after what is read: what ends past the limit may be refused. Where
-- nothing must come, the limit is the end of all bytes, whose number is `size`, and nothing read is refused
pub data ToldWithin {A : Type 0} (limit size : ℕ) (P : A → Type 0) (e : ℕ) : Parsed A → Bool → Type 0 where
  within : {p : Parsed A} {ok : Bool} → Told P e p ok → ToldWithin limit size P e p ok
  past : {a : A} {m : ℕ} → limit < size → limit < m → ToldWithin limit size P e (some a m) false

pub record FormulaTold (s : List ℕ) (limit k q at : ℕ) (P : Formula → Type 0) (ok : Bool) (e : ℕ) : Type 0
  where
    pub tells : (n : ℕ) → length s ≤ n + at → ToldWithin limit (length s) P e (formula_at n s k q at) ok

-- what a span tells where there is one: P of what was found and what was read; and that nothing was read,
-- where there is none
abbrev pub Tells : {A T : Type 0} → ((A → Type 0) → Bool → ℕ → Type 0) → (T → A → Type 0) → Option (Span T)
    → Type 0
Tells R P None = R (λ a. Unit) false 0
Tells R P (Some span) = R (P span.found) true span.next
