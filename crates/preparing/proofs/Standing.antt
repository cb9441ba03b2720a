-- What the reader reads in a body stands in the marked one, as far as places go.
-- By induction on how deep the reader goes: a code's parts stand there, and the mark is the end of the last.
use Prim.Native.Nat.{ℕ, zero, suc, ◌+◌, ◌≤◌, ◌<◌, min}
use native.Mathlib.Omega.{arith}
use mathlib.Core.Path.{◌≡◌, refl, ap, ap₂, ◌∙◌}
use mathlib.Core.List.{List, ◌∷◌}
use lib.Dec.{T, ltb, leb}
use lib.ListN.{length, get_or, get_or-eq_default}
use borrow.Author.Tests.{lt-ltb, ltb-true, leb-true, leb-false}
use Rattle.meaning.specs.Logic.{cases}
use Rattle.meaning.specs.Formulas.{Term, number, variable, calculated, Formula, joined, quantified, compared, instance}
use Rattle.meaning.specs.Ranges.{is_range}
use Rattle.std.specs.Prelude.{Option, None, Some}
use Rattle.formulas.specs.declared.Kind.{Kind}
use Rattle.formulas.specs.declared.Kind.TheVariants.{Constant, Join, Quantifier, Compare, Instance}
use Rattle.formulas.specs.declared.TermKind.{TermKind}
use Rattle.formulas.specs.declared.TermKind.TheVariants.{Number, Variable, Calculation}
use Rattle.formulas.specs.Codes.{kind_of, term_kind_of}
use Rattle.formulas.specs.Decode.{some, in_row, nth_term, test_of, term_at, terms_at, formula_at}
use Rattle.formulas.proofs.Shapes.{no_kind, no_term_kind, shape_no_term, shape_number, shape_variable, shape_calculation}
use Rattle.formulas.proofs.Shapes.{shape_no_formula, shape_constant, shape_join, shape_quantifier, shape_compare, shape_instance}
use Rattle.formulas.proofs.Decoded.{Every, unread, each, every_then, every_last, every_when}
use Rattle.prepared.specs.Prepared.{end_at, term_by, terms_by, formula_by, term_there, terms_there, formula_there}
use Rattle.prepared.proofs.Steps.{term_step, formula_step}
use Rattle.preparing.specs.Ends.{after, Marked}
use Rattle.preparing.specs.Promise.{PreparedOf}
use Rattle.preparing.proofs.CodeSteps.{steps, Begins, begins, instance_begins, term_row, formula_row}

-- what was read, and where it ends: no place before `first`, and where there are such places, it is what is there
record Stands {A : Type 0} (first end : ℕ) (there : A) (a : A) (e : ℕ) : Type 0 where
  on : first ≤ e
  ended : e ≤ 256 → end ≡ e
  same : e ≤ 256 → there ≡ a

module _ {s p : List ℕ} (m : Marked s p 0) (short : length s ≤ 256) where
  abbrev TermStands : ℕ → Term → ℕ → Type 0
  TermStands at = Stands (at + 1) (end_at p at) (term_there p at)

  abbrev TermsStand : ℕ → ℕ → List Term → ℕ → Type 0
  TermsStand c at = Stands at (after p c at) (terms_there p c at)

  abbrev FormulaStands : ℕ → ℕ → Formula → ℕ → Type 0
  FormulaStands k at = Stands (at + 1) (end_at p at) (formula_there p k at)

  -- the mark of a place is the end of the parts of its code
  end_is : {at parts width e : ℕ} → at < length s → Begins s at parts width → after p parts (at + width) ≡ e → e ≤ 256
      → end_at p at ≡ e
  end_is {at} {e} inside b h few =
      m.ends at (omega arith) inside ∙ rw (b.many, b.wide, h) (omega arith)

  leaf_end : {at width : ℕ} → at < length s → Begins s at 0 width → at + width ≤ 256 → end_at p at ≡ at + width
  unfolding after
  leaf_end inside b few = end_is inside b refl few

  -- ---- terms
  module _ (k n : ℕ) (one : (at : ℕ) → Every (TermStands at) (term_at n s k at)) where
    row_stands : (c at : ℕ) → Every (TermsStand c at) (terms_at n c s k at)
    unfolding in_row after terms_by
    row_stands zero at = each {e = at} (record { on = omega arith; ended = λ _. refl; same = λ _. refl })
    row_stands (suc c) at = every_then _ (one at) (λ t i f. every_last _ (row_stands c i) (λ ts e r. record {
      on = omega (arith, f.on, r.on);
      ended = λ few. ap (after p c) (f.ended (omega (arith, r.on))) ∙ r.ended few;
      same = λ few. let within : i ≤ 256 = omega (arith, r.on) in
          ap₂ (λ (x : Term) (l : List Term). x ∷ l) (f.same within) (ap (terms_there p c) (f.ended within) ∙ r.same few);
    }))

    module _ (at : ℕ) (inside : at < length s) where
      term_is : {kind : Option TermKind} → term_kind_of (get_or s at 0) ≡ kind
          → term_there p at ≡ term_by (term_there p) kind p at
      term_is h = term_step p at (omega arith) ∙ rw (m.bytes at, h) refl

      -- a code with one byte behind it, and no parts
      leaf_stands : {t : Term} → T (steps (get_or s at 0) (get_or s (at + 2) 0) 0 2) → term_there p at ≡ t
          → Every (TermStands at) (some t (at + 2))
      leaf_stands row h = each {e = at + 2} (record {
        on = omega arith;
        ended = leaf_end inside (begins s at 0 2 row);
        same = λ _. h;
      })

      term_by_kind : (kind : Option TermKind) → term_kind_of (get_or s at 0) ≡ kind
          → Every (TermStands at) (term_at (suc n) s k at)
      unfolding term_by terms_by
      term_by_kind None h = rw (shape_no_term n s k at h) unread
      term_by_kind (Some Number) h =
          rw (shape_number n s k at h) (every_when (leb (get_or s (at + 1) 0) 15) (λ _.
          leaf_stands (term_row s at h) (term_is h ∙ ap number (m.bytes (at + 1)))))
      term_by_kind (Some Variable) h =
          rw (shape_variable n s k at h) (every_when (ltb (get_or s (at + 1) 0) k) (λ _.
          leaf_stands (term_row s at h) (term_is h ∙ ap variable (m.bytes (at + 1)))))
      term_by_kind (Some (Calculation plus)) h =
          rw (shape_calculation n s k at plus h) (every_when (is_range (get_or s (at + 1) 0)) (λ b.
          every_last _ (row_stands 2 (at + 2)) (λ ts e r. record {
            on = omega (arith, r.on);
            ended = λ few. end_is inside (begins s at 2 2 (term_row s at h)) (r.ended few) few;
            same = λ few. term_is h ∙ rw (m.bytes (at + 1), b)
                (ap (λ (l : List Term). calculated plus (get_or s (at + 1) 0) (nth_term l 0) (nth_term l 1)) (r.same few));
          })))

  term_stands : (k n at : ℕ) → Every (TermStands at) (term_at n s k at)
  unfolding term_at
  term_stands k zero at = unread
  term_stands k (suc n) at =
      cases (leb (length s) at)
      (λ l. let none : term_kind_of (get_or s at 0) ≡ None =
      rw (get_or-eq_default s 0 {n = at} (leb-true (length s) at l)) no_term_kind in
      rw (shape_no_term n s k at none) unread)
      (λ l. term_by_kind k n (term_stands k n) at (leb-false (length s) at l) (term_kind_of (get_or s at 0)) refl)

  -- ---- formulas: with k variables in reach and q quantifiers around
  module _ (n : ℕ) (sub : (k q at : ℕ) → k ≤ 4 + q → Every (FormulaStands k at) (formula_at n s k q at))
      (k q at : ℕ) (reach : k ≤ 4 + q) (inside : at < length s) where
    formula_is : {kind : Option Kind} → kind_of (get_or s at 0) ≡ kind
        → formula_there p k at ≡ formula_by (term_there p) (formula_there p) kind p k at
    formula_is h = formula_step p k at (omega arith) ∙ rw (m.bytes at, h) refl

    formula_by_kind : (kind : Option Kind) → kind_of (get_or s at 0) ≡ kind
        → Every (FormulaStands k at) (formula_at (suc n) s k q at)
    unfolding formula_by terms_by after
    formula_by_kind None h = rw (shape_no_formula n s k q at h) unread
    formula_by_kind (Some (Constant b)) h = rw (shape_constant n s k q at b h) (each {e = at + 1} (record {
      on = omega arith;
      ended = leaf_end inside (begins s at 0 1 (formula_row s at h));
      same = λ _. formula_is h;
    }))
    formula_by_kind (Some (Join all)) h =
        rw (shape_join n s k q at all h) (every_then _ (sub k q (at + 1) reach) (λ f i x. every_last _ (sub k q i reach) (λ g e y.
        let within : e ≤ 256 → i ≤ 256 = λ few. omega (arith, y.on) in
        record {
          on = omega (arith, x.on, y.on);
          ended = λ few. end_is inside (begins s at 2 1 (formula_row s at h))
              (ap (end_at p) (x.ended (within few)) ∙ y.ended few) few;
          same = λ few. formula_is h ∙ ap₂ (joined all) (x.same (within few))
              (ap (formula_there p k) (x.ended (within few)) ∙ y.same few);
        })))
    formula_by_kind (Some (Quantifier all)) h =
        rw (shape_quantifier n s k q at all h) (every_when (ltb q 4) (λ d. every_when (is_range (get_or s (at + 1) 0)) (λ b.
        every_last _ (sub (k + 1) (q + 1) (at + 2) (omega arith)) (λ f e x. record {
          on = omega (arith, x.on);
          ended = λ few. end_is inside (begins s at 1 2 (formula_row s at h)) (x.ended few) few;
          same = λ few. formula_is h ∙ rw (lt-ltb k 8 (omega (arith, ltb-true q 4 d)), m.bytes (at + 1), b)
              (ap (quantified all (get_or s (at + 1) 0)) (x.same few));
        }))))
    formula_by_kind (Some (Compare t)) h =
        rw (shape_compare n s k q at t h) (every_last _ (row_stands k n (term_stands k n) 2 (at + 1)) (λ ts e r. record {
          on = r.on;
          ended = λ few. end_is inside (begins s at 2 1 (formula_row s at h)) (r.ended few) few;
          same = λ few. formula_is h
              ∙ ap (λ (l : List Term). compared (test_of t) (nth_term l 0) (nth_term l 1)) (r.same few);
        }))
    formula_by_kind (Some Instance) h =
        let x : at + 1 + 1 ≡ at + 2 = omega arith in
        let y : at + 1 + 2 ≡ at + 3 = omega arith in
        let c = get_or s (at + 2) 0 in
        rw (shape_instance n s k q at h, x, y) (every_when (leb c 4) (λ b.
        let few_terms = leb-true c 4 b in
        let count : min c 4 ≡ c = omega arith in
        every_last _ (row_stands k n (term_stands k n) c (at + 3)) (λ ts e r. record {
          on = omega (arith, r.on);
          ended = λ few. end_is inside (instance_begins s at (formula_row s at h) few_terms) (r.ended few) few;
          same = λ few. formula_is h ∙ rw (m.bytes (at + 1), m.bytes (at + 2), count)
              (ap (instance (get_or s (at + 1) 0)) (r.same few));
        })))

  formula_stands : (n k q at : ℕ) → k ≤ 4 + q → Every (FormulaStands k at) (formula_at n s k q at)
  unfolding formula_at
  formula_stands zero k q at reach = unread
  formula_stands (suc n) k q at reach =
      cases (leb (length s) at)
      (λ l. let none : kind_of (get_or s at 0) ≡ None =
      rw (get_or-eq_default s 0 {n = at} (leb-true (length s) at l)) no_kind in
      rw (shape_no_formula n s k q at none) unread)
      (λ l. formula_by_kind n (formula_stands n) k q at reach (leb-false (length s) at l) (kind_of (get_or s at 0)) refl)

-- ---- so a marked body is prepared
read_there : {A : Type 0} {P : A → ℕ → Type 0} {a : A} {e : ℕ} → Every P (some a e) → P a e
read_there (each h) = h

pub marked_prepared : {s p : List ℕ} → Marked s p 0 → PreparedOf s p
marked_prepared {s} m k f whole =
    let short = whole.short in
    (read_there (rw whole.reads at (formula_stands m short (length s) k 0 0 whole.few))).same short
