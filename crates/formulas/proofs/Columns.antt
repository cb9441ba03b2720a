-- The reader's table is the definition's: what its rows say of a code is the code's row.
-- One test that antt computes, over all rows; before and past the table stands no row.
use Rattle.std.specs.Prelude.{ℕ, ◌-◌, ◌≤◌, ◌<◌, ◌≡◌, Bool, true, false, cond, map, leb, get_or}
use Rattle.std.specs.Prelude.{Option, None}
use Rattle.std.proofs.Common.{arith, sym, ap, refl}
use Rattle.std.proofs.Math.ListN.{get_or-map, get_or-eq_default}
use borrow.Author.Tests.{le-leb, lt-leb, leb-true}
use mathlib.Core.Logic.{◌⊎◌, inl, inr}
use Rattle.formulas.specs.declared.codes.TheConstants.{ROWS}
use Rattle.formulas.specs.declared.codes.Row as table
use Rattle.formulas.specs.Codes.{Row, rows, no_row, row_of, kind_of, term_kind_of, operands_of}
use Rattle.formulas.specs.Contract.{told_row}

-- what the table has for a code
abbrev pub entry : ℕ → Option table.Row
entry code = cond (leb 0x10 code) (get_or ROWS (code - 0x10) None) None

table_is_rows : map told_row ROWS ≡ rows
table_is_rows = refl

-- within the table and before or past it
pub in_rows : (code n : ℕ) → 0x10 ≤ code → n ≡ code - 0x10 → told_row (get_or ROWS n None) ≡ row_of code
unfolding row_of
in_rows code n from here =
    rw (le-leb 0x10 code from, ← table_is_rows, here) (sym (get_or-map told_row ROWS (code - 0x10) None))

pub no_rows : (code : ℕ) → (0x10 ≤ code × 0x23 < code) ⊎ (code < 0x10) → no_row ≡ row_of code
unfolding row_of
no_rows code (inl (from, past)) =
    rw (le-leb 0x10 code from) (sym (get_or-eq_default rows no_row {n = code - 0x10} (omega (arith, past))))
no_rows code (inr below) = rw (lt-leb 0x10 code below) refl

module _ (code : ℕ) where
  row_read : (b : Bool) → leb 0x10 code ≡ b → told_row (entry code) ≡ row_of code
  unfolding row_of
  row_read true h = rw h (in_entry (leb-true 0x10 code h))
    where
      in_entry : 0x10 ≤ code → told_row (get_or ROWS (code - 0x10) None) ≡ get_or rows (code - 0x10) no_row
      in_entry from = rw (← table_is_rows) (sym (get_or-map told_row ROWS (code - 0x10) None))
  row_read false h = rw h refl

  pub kind_in : (told_row (entry code)).formula ≡ kind_of code
  kind_in = ap (λ (r : Row). r.formula) (row_read (leb 0x10 code) refl)

  pub term_kind_in : (told_row (entry code)).term ≡ term_kind_of code
  term_kind_in = ap (λ (r : Row). r.term) (row_read (leb 0x10 code) refl)

  pub operands_in : (told_row (entry code)).operands ≡ operands_of code
  operands_in = ap (λ (r : Row). r.operands) (row_read (leb 0x10 code) refl)
