-- How many parts a code has, and how many bytes stand before them: by its kind, and three bytes at most.
-- By one test that antt computes over the rows of the table of codes.
use Prim.Native.Nat.{ℕ, zero, suc, ◌+◌, ◌-◌, ◌≤◌}
use native.Mathlib.Nat.{add-zero}
use native.Mathlib.Omega.{arith}
use mathlib.Core.Path.{◌≡◌, refl}
use mathlib.Core.Bool.{Bool, true, false, cond, ◌&&◌}
use mathlib.Core.List.{List, [], ◌∷◌}
use Rattle.std.specs.Prelude.{Option, None, Some}
use lib.Dec.{T, eqb, eqb→eq, ltb, leb}
use lib.ListN.{get_or}
use mir.Facts.{and_yes}
use borrow.Author.Tests.{leb-true}
use Rattle.meaning.specs.Logic.{cases}
use Rattle.formulas.specs.declared.Kind.{Kind}
use Rattle.formulas.specs.declared.Kind.TheVariants.{Constant, Join, Quantifier, Compare, Instance}
use Rattle.formulas.specs.declared.TermKind.{TermKind}
use Rattle.formulas.specs.declared.TermKind.TheVariants.{Number, Variable, Calculation}
use Rattle.formulas.specs.Codes.{Row, rows, no_row, row_of, kind_of, term_kind_of}
use Rattle.preparing.specs.Ends.{parts_of, width_of}

-- ---- the parts and the width of a code, by its kind: one test over the table's rows
abbrev pub steps : ℕ → ℕ → ℕ → ℕ → Bool
steps code n parts width = eqb (parts_of code n) parts && eqb (width_of code) width

abbrev formula_steps : Option Kind → ℕ → ℕ → Bool
formula_steps None code n = true
formula_steps (Some (Constant b)) code n = steps code n 0 1
formula_steps (Some (Join all)) code n = steps code n 2 1
formula_steps (Some (Quantifier all)) code n = steps code n 1 2
formula_steps (Some (Compare t)) code n = steps code n 2 1
formula_steps (Some Instance) code n = eqb code 0x1a

abbrev term_steps : Option TermKind → ℕ → ℕ → Bool
term_steps None code n = true
term_steps (Some Number) code n = steps code n 0 2
term_steps (Some Variable) code n = steps code n 0 2
term_steps (Some (Calculation plus)) code n = steps code n 2 2

abbrev row_steps : ℕ → ℕ → Row → Bool
row_steps n code r = formula_steps r.formula code n && term_steps r.term code n

abbrev all_step : ℕ → ℕ → List Row → Bool
all_step n code [] = true
all_step n code (r ∷ rs) = row_steps n code r && all_step n (code + 1) rs

one_steps : (n code : ℕ) (rs : List Row) (i : ℕ) → T (all_step n code rs) → T (row_steps n (code + i) (get_or rs i no_row))
one_steps n code [] i t = tt
one_steps n code (r ∷ rs) zero t = rw (add-zero code) (and_yes (row_steps n code r) (all_step n (code + 1) rs) t).0
one_steps n code (r ∷ rs) (suc i) t =
    let e : code + suc i ≡ code + 1 + i = omega arith in
    rw e (one_steps n (code + 1) rs i (and_yes (row_steps n code r) (all_step n (code + 1) rs) t).1)

table : (n : ℕ) → T (all_step n 0x10 rows)
unfolding parts_of width_of
table n = tt

code_steps : (n code : ℕ) → T (row_steps n code (row_of code))
unfolding row_of
code_steps n code =
    cases (leb 0x10 code)
    (λ l. let e : 0x10 + (code - 0x10) ≡ code = omega (arith, leb-true 0x10 code l) in
    rw l (rw e at (one_steps n 0x10 rows (code - 0x10) (table n))))
    (λ l. rw l tt)

-- so many parts has the code at a place, and so many bytes stand before them
pub record Begins (s : List ℕ) (at parts width : ℕ) : Type 0 where
  pub many : parts_of (get_or s at 0) (get_or s (at + 2) 0) ≡ parts
  pub wide : width_of (get_or s at 0) ≡ width

pub begins : (s : List ℕ) (at parts width : ℕ) → T (steps (get_or s at 0) (get_or s (at + 2) 0) parts width)
    → Begins s at parts width
begins s at parts width t =
    let many = parts_of (get_or s at 0) (get_or s (at + 2) 0) in
    let wide = width_of (get_or s at 0) in
    let b = and_yes (eqb many parts) (eqb wide width) t in
    record { many = eqb→eq many parts b.0; wide = eqb→eq wide width b.1 }

module _ (s : List ℕ) (at : ℕ) where
  abbrev here : ℕ
  here = get_or s at 0

  abbrev far : ℕ
  far = get_or s (at + 2) 0

  row_at : T (formula_steps (kind_of here) here far) × T (term_steps (term_kind_of here) here far)
  row_at = and_yes (formula_steps (kind_of here) here far) (term_steps (term_kind_of here) here far) (code_steps far here)

  pub formula_row : {kind : Option Kind} → kind_of here ≡ kind → T (formula_steps kind here far)
  formula_row h = rw h at row_at.0

  pub term_row : {kind : Option TermKind} → term_kind_of here ≡ kind → T (term_steps kind here far)
  term_row h = rw h at row_at.1

  pub instance_begins : T (eqb here 0x1a) → far ≤ 4 → Begins s at far 3
  unfolding parts_of width_of
  instance_begins t few =
      let named = eqb→eq here 0x1a t in
      record { many = rw named (omega arith); wide = rw named refl }

-- ---- no code has many bytes before its parts
either : (P : ℕ → Type 0) (b : Bool) {x y : ℕ} → P x → P y → P (cond b x y)
either P true f g = f
either P false f g = g

abbrev Few : ℕ → Type 0
Few w = (1 ≤ w) × (w ≤ 3)

pub width_few : (code : ℕ) → Few (width_of code)
unfolding width_of
width_few code =
    either Few (eqb code 0x14) (omega arith, omega arith) (either Few (eqb code 0x15) (omega arith, omega arith)
    (either Few (eqb code 0x1a) (omega arith, omega arith) (either Few (ltb code 0x20) (omega arith, omega arith)
    (omega arith, omega arith))))
