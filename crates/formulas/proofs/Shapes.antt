-- What the decoder reads for each kind of code, with the numbers of operands written out.
-- The numbers come from the table by one test that antt computes over its rows.
use Rattle.std.specs.Prelude.{ℕ, zero, suc, ◌+◌, ◌-◌, ◌≡◌, Bool, true, false, cond, ◌&&◌, List, [], ◌∷◌, T, eqb, ltb, leb, get_or}
use Rattle.std.specs.Prelude.{Option, None, Some}
use native.Mathlib.Omega.{arith}
use Rattle.std.proofs.Math.Path.{refl}
use Rattle.std.proofs.Common.{eqb→eq}
use Rattle.std.proofs.Math.Facts.{and_yes}
use Rattle.meaning.specs.Formulas.{number, variable, calculated}
use Rattle.meaning.specs.Formulas.{constant, joined, quantified, compared}
use Rattle.meaning.specs.Ranges.{is_range}
use Rattle.formulas.specs.declared.Kind.{Kind}
use Rattle.formulas.specs.declared.Kind.TheVariants.{Constant, Join}
use Rattle.formulas.specs.declared.Kind.TheVariants.{Quantifier, Compare, Instance}
use Rattle.formulas.specs.declared.TermKind.{TermKind}
use Rattle.formulas.specs.declared.TermKind.TheVariants.{Number, Variable, Calculation}
use Rattle.formulas.specs.declared.Test.{Test}
use Rattle.formulas.specs.Codes.{Row, rows, no_row, row_of, kind_of, term_kind_of, operands_of}
use Rattle.formulas.specs.Decode.{Parsed, none, some, then, when, in_row, nth_term, test_of}
use Rattle.formulas.specs.Decode.{term_of_kind, term_at, terms_at, formula_of_kind, formula_at}
use Rattle.formulas.specs.Shapes.{formula_counts, instance_at, term_counts}

abbrev row_counts : Row → Bool
row_counts r = formula_counts r.formula r.operands && term_counts r.term r.operands

abbrev all_count : List Row → Bool
all_count [] = true
all_count (r ∷ rs) = row_counts r && all_count rs

one_counts : (rs : List Row) (i : ℕ) → T (all_count rs) → T (row_counts (get_or rs i no_row))
one_counts [] i t = tt
one_counts (r ∷ rs) zero t = (and_yes (row_counts r) (all_count rs) t).0
one_counts (r ∷ rs) (suc i) t = one_counts rs i (and_yes (row_counts r) (all_count rs) t).1

chosen : (b : Bool) (r : Row) → T (row_counts r) → T (row_counts (cond b r no_row))
chosen true r t = t
chosen false r t = tt

counts : (code : ℕ) → T (row_counts (row_of code))
unfolding row_of
counts code = chosen (leb 0x10 code) (get_or rows (code - 0x10) no_row) (one_counts rows (code - 0x10) tt)

-- `refl` is the last argument where the kind is known
module _ (code n : ℕ) where
  pub formula_operands : {kind : Option Kind} → kind_of code ≡ kind →
      formula_counts kind (operands_of code) ≡ eqb (operands_of code) n → operands_of code ≡ n
  formula_operands {kind} h e =
      let f = formula_counts (kind_of code) (operands_of code) in
      let t = term_counts (term_kind_of code) (operands_of code) in
      eqb→eq (operands_of code) n (rw (h, e) at (and_yes f t (counts code)).0)

  pub term_operands : {kind : Option TermKind} → term_kind_of code ≡ kind →
      term_counts kind (operands_of code) ≡ eqb (operands_of code) n → operands_of code ≡ n
  term_operands {kind} h e =
      let f = formula_counts (kind_of code) (operands_of code) in
      let t = term_counts (term_kind_of code) (operands_of code) in
      eqb→eq (operands_of code) n (rw (h, e) at (and_yes f t (counts code)).1)

-- byte 0, which is what stands past the end, is no code
pub no_kind : kind_of 0 ≡ None
unfolding row_of
no_kind = refl

pub no_term_kind : term_kind_of 0 ≡ None
unfolding row_of
no_term_kind = refl

-- ---- one and two operands in a row
module _ {A B : Type 0} (one : ℕ → Parsed A) (d : A) where
  module _ (g : A → B) where
    one_read : (p : Parsed A)
        → then (then p (λ a m. then (some [] m) (λ rest e. some (a ∷ rest) e)))
        (λ l e. some (g (get_or l 0 d)) e) ≡ then p (λ a e. some (g a) e)
    one_read none = refl
    one_read (some a e) = refl

    pub one_in_row : (at : ℕ)
        → then (in_row one 1 at) (λ l e. some (g (get_or l 0 d)) e) ≡ then (one at) (λ a e. some (g a) e)
    unfolding in_row
    one_in_row at = one_read (one at)

  module _ (g : A → A → B) where
    second_read : (a : A) (p : Parsed A)
        → then (then (then p (λ b m. then (some [] m) (λ rest e. some (b ∷ rest) e)))
        (λ rest e. some (a ∷ rest) e)) (λ l e. some (g (get_or l 0 d) (get_or l 1 d)) e)
        ≡ then p (λ b e. some (g a b) e)
    second_read a none = refl
    second_read a (some b e) = refl

    first_read : (p : Parsed A)
        → then (then p (λ a m. then (in_row one 1 m) (λ rest e. some (a ∷ rest) e)))
        (λ l e. some (g (get_or l 0 d) (get_or l 1 d)) e)
        ≡ then p (λ a m. then (one m) (λ b e. some (g a b) e))
    unfolding in_row
    first_read none = refl
    first_read (some a m) = second_read a (one m)

    pub two_in_row : (at : ℕ) → then (in_row one 2 at) (λ l e. some (g (get_or l 0 d) (get_or l 1 d)) e)
        ≡ then (one at) (λ a m. then (one m) (λ b e. some (g a b) e))
    unfolding in_row
    two_in_row at = first_read (one at)

-- ---- terms
module _ (n : ℕ) (s : List ℕ) (k at : ℕ) where
  pub shape_no_term : term_kind_of (get_or s at 0) ≡ None → term_at (suc n) s k at ≡ none
  unfolding term_at term_of_kind
  shape_no_term h = rw h refl

  pub shape_number : term_kind_of (get_or s at 0) ≡ Some Number
      → term_at (suc n) s k at
      ≡ when (leb (get_or s (at + 1) 0) 15) (some (number (get_or s (at + 1) 0)) (at + 2))
  unfolding term_at term_of_kind
  shape_number h = rw (h, term_operands (get_or s at 0) 1 h refl) refl

  pub shape_variable : term_kind_of (get_or s at 0) ≡ Some Variable
      → term_at (suc n) s k at
      ≡ when (ltb (get_or s (at + 1) 0) k) (some (variable (get_or s (at + 1) 0)) (at + 2))
  unfolding term_at term_of_kind
  shape_variable h = rw (h, term_operands (get_or s at 0) 1 h refl) refl

  pub shape_calculation : (plus : Bool) → term_kind_of (get_or s at 0) ≡ Some (Calculation plus)
      → term_at (suc n) s k at ≡ when (is_range (get_or s (at + 1) 0)) (then (terms_at n 2 s k (at + 2))
      (λ ts e. some (calculated plus (get_or s (at + 1) 0) (nth_term ts 0) (nth_term ts 1)) e))
  unfolding term_at term_of_kind
  shape_calculation plus h = rw (h, term_operands (get_or s at 0) 3 h refl) refl

module _ (n : ℕ) (s : List ℕ) (k q at : ℕ) where
  pub shape_no_formula : kind_of (get_or s at 0) ≡ None → formula_at (suc n) s k q at ≡ none
  unfolding formula_at formula_of_kind
  shape_no_formula h = rw h refl

  pub shape_constant : (b : Bool) → kind_of (get_or s at 0) ≡ Some (Constant b)
      → formula_at (suc n) s k q at ≡ some (constant b) (at + 1)
  unfolding formula_at formula_of_kind
  shape_constant b h = rw (h, formula_operands (get_or s at 0) 0 h refl) refl

  pub shape_join : (all : Bool) → kind_of (get_or s at 0) ≡ Some (Join all)
      → formula_at (suc n) s k q at ≡ then (formula_at n s k q (at + 1))
      (λ f m. then (formula_at n s k q m) (λ g e. some (joined all f g) e))
  unfolding formula_at formula_of_kind
  shape_join all h =
      let two = two_in_row (formula_at n s k q) (constant false) (joined all) (at + 1) in
      rw (h, formula_operands (get_or s at 0) 2 h refl, two) refl

  pub shape_quantifier : (all : Bool) → kind_of (get_or s at 0) ≡ Some (Quantifier all)
      → formula_at (suc n) s k q at ≡ when (ltb q 4) (when (is_range (get_or s (at + 1) 0))
      (then (formula_at n s (k + 1) (q + 1) (at + 2)) (λ f e. some (quantified all (get_or s (at + 1) 0) f) e)))
  unfolding formula_at formula_of_kind
  shape_quantifier all h =
      let inner = formula_at n s (k + 1) (q + 1) in
      let one = one_in_row inner (constant false) (quantified all (get_or s (at + 1) 0)) (at + 2) in
      rw (h, formula_operands (get_or s at 0) 2 h refl, one) refl

  pub shape_compare : (t : Test) → kind_of (get_or s at 0) ≡ Some (Compare t)
      → formula_at (suc n) s k q at ≡ then (terms_at n 2 s k (at + 1))
      (λ ts e. some (compared (test_of t) (nth_term ts 0) (nth_term ts 1)) e)
  unfolding formula_at formula_of_kind
  shape_compare t h = rw (h, formula_operands (get_or s at 0) 2 h refl) refl

  pub shape_instance : kind_of (get_or s at 0) ≡ Some Instance
      → formula_at (suc n) s k q at ≡ instance_at n s k (at + 1)
  unfolding formula_at formula_of_kind
  shape_instance h =
      let x : at + 1 + 1 ≡ at + 2 = omega arith in
      let y : at + 1 + 2 ≡ at + 3 = omega arith in
      rw (h, formula_operands (get_or s at 0) 2 h refl, x, y) refl
