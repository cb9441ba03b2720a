-- One step of what stands at a place: the term or formula of its code's kind, over what stands at later places.
-- How deep the definition goes plays no part where it is as deep as there are places left: by induction on that.
use Prim.Native.Nat.{ℕ, zero, suc, ◌+◌, ◌-◌, ◌≤◌, ◌<◌, min}
use native.Mathlib.Omega.{arith}
use mathlib.Core.Path.{◌≡◌, refl, sym, ap, ap₂, ◌∙◌}
use mathlib.Core.Bool.{Bool, true, false, cond}
use mathlib.Core.List.{List, ◌∷◌}
use Rattle.std.specs.Prelude.{Option, None, Some}
use lib.Dec.{ltb}
use lib.ListN.{get_or}
use borrow.Author.Tests.{le-ltb}
use Rattle.meaning.specs.Formulas.{Term, number, calculated, Formula, constant, joined, quantified, compared, instance}
use Rattle.meaning.specs.Ranges.{is_range}
use Rattle.formulas.specs.declared.Kind.{Kind}
use Rattle.formulas.specs.declared.Kind.TheVariants.{Constant, Join, Quantifier, Compare, Instance}
use Rattle.formulas.specs.declared.TermKind.{TermKind}
use Rattle.formulas.specs.declared.TermKind.TheVariants.{Number, Variable, Calculation}
use Rattle.formulas.specs.Codes.{kind_of, term_kind_of}
use Rattle.formulas.specs.Decode.{test_of}
use Rattle.formulas.proofs.Shapes.{no_kind, no_term_kind}
use Rattle.prepared.specs.Prepared.{byte_at, end_at, term_by, term_from, terms_by, formula_by, formula_from}
use Rattle.prepared.specs.Prepared.{term_there, formula_there}

module _ (p : List ℕ) where
  pub end_on : (i : ℕ) → i ≤ end_at p i
  unfolding end_at
  end_on i = go (ltb i 256)
    where
      go : (b : Bool) → i ≤ cond b (i + 1 + get_or p (256 + i) 0) i
      go true = omega arith
      go false = omega arith

  -- behind the places of a body stands no code
  pub byte_past : (i : ℕ) → 256 ≤ i → byte_at p i ≡ 0
  unfolding byte_at
  byte_past i h = rw (le-ltb i 256 h) refl

  -- ---- what stands at later places decides
  -- the same at every place from `at` on
  abbrev Same : {A : Type 0} → ℕ → (one two : ℕ → A) → Type 0
  Same at one two = (i : ℕ) → at ≤ i → one i ≡ two i

  term_same : (kind : Option TermKind) (at : ℕ) (one two : ℕ → Term) → Same (at + 1) one two
      → term_by one kind p at ≡ term_by two kind p at
  unfolding term_by
  term_same None at one two h = refl
  term_same (Some Number) at one two h = refl
  term_same (Some Variable) at one two h = refl
  term_same (Some (Calculation plus)) at one two h =
      let r = byte_at p (at + 1) in
      ap₂ (λ (a b : Term). cond (is_range r) (calculated plus r a b) (number 0))
      (h (at + 2) (omega arith)) (h (end_at p (at + 2)) (omega (arith, end_on (at + 2))))

  terms_same : (c at : ℕ) (one two : ℕ → Term) → Same at one two → terms_by one p c at ≡ terms_by two p c at
  unfolding terms_by
  terms_same zero at one two h = refl
  terms_same (suc c) at one two h =
      ap₂ (λ (t : Term) (ts : List Term). t ∷ ts) (h at (omega arith))
      (terms_same c (end_at p at) one two (λ i l. h i (omega (arith, end_on at))))

  formula_same : (kind : Option Kind) (k at : ℕ) (one two : ℕ → Term) (f g : ℕ → ℕ → Formula) → Same (at + 1) one two
      → ((j : ℕ) → Same (at + 1) (f j) (g j)) → formula_by one f kind p k at ≡ formula_by two g kind p k at
  unfolding formula_by
  formula_same None k at one two f g h e = refl
  formula_same (Some (Constant b)) k at one two f g h e = refl
  formula_same (Some (Join all)) k at one two f g h e =
      ap₂ (joined all) (e k (at + 1) (omega arith)) (e k (end_at p (at + 1)) (end_on (at + 1)))
  formula_same (Some (Quantifier all)) k at one two f g h e =
      let r = byte_at p (at + 1) in
      ap (λ (x : Formula). cond (ltb k 8) (cond (is_range r) (quantified all r x) (constant false)) (constant false))
      (e (k + 1) (at + 2) (omega arith))
  formula_same (Some (Compare t)) k at one two f g h e =
      ap₂ (compared (test_of t)) (h (at + 1) (omega arith)) (h (end_at p (at + 1)) (end_on (at + 1)))
  formula_same (Some Instance) k at one two f g h e =
      ap (instance (byte_at p (at + 1))) (terms_same (min (byte_at p (at + 2)) 4) (at + 3) one two (λ i l. h i (omega arith)))

  -- ---- deep enough is deep enough
  no_term : (n at : ℕ) → 256 ≤ at → term_from n p at ≡ number 0
  unfolding term_from term_by
  no_term zero at h = refl
  no_term (suc n) at h = rw (byte_past at h, no_term_kind) refl

  no_formula : (n k at : ℕ) → 256 ≤ at → formula_from n p k at ≡ constant false
  unfolding formula_from formula_by
  no_formula zero k at h = refl
  no_formula (suc n) k at h = rw (byte_past at h, no_kind) refl

  term_deep : (n m at : ℕ) → 256 ≤ n + at → 256 ≤ m + at → term_from n p at ≡ term_from m p at
  unfolding term_from
  term_deep zero m at h l = sym (no_term m at (omega arith))
  term_deep (suc n) zero at h l = no_term (suc n) at (omega arith)
  term_deep (suc n) (suc m) at h l =
      term_same (term_kind_of (byte_at p at)) at (term_from n p) (term_from m p)
      (λ i b. term_deep n m i (omega arith) (omega arith))

  formula_deep : (n m k at : ℕ) → 256 ≤ n + at → 256 ≤ m + at → formula_from n p k at ≡ formula_from m p k at
  unfolding formula_from
  formula_deep zero m k at h l = sym (no_formula m k at (omega arith))
  formula_deep (suc n) zero k at h l = no_formula (suc n) k at (omega arith)
  formula_deep (suc n) (suc m) k at h l =
      formula_same (kind_of (byte_at p at)) k at (term_from n p) (term_from m p) (formula_from n p) (formula_from m p)
      (λ i b. term_deep n m i (omega arith) (omega arith)) (λ j i b. formula_deep n m j i (omega arith) (omega arith))

  -- ---- so what stands at a place is told by what stands at later ones
  pub term_past : (at : ℕ) → 256 ≤ at → term_there p at ≡ number 0
  unfolding term_there
  term_past at h = no_term (256 - at) at h

  pub formula_past : (k at : ℕ) → 256 ≤ at → formula_there p k at ≡ constant false
  unfolding formula_there
  formula_past k at h = no_formula (256 - at) k at h

  pub term_step : (at : ℕ) → at < 256 → term_there p at ≡ term_by (term_there p) (term_kind_of (byte_at p at)) p at
  unfolding term_there term_from
  term_step at h =
      let n = 255 - at in
      let e : 256 - at ≡ suc n = omega arith in
      ap (λ (m : ℕ). term_from m p at) e
      ∙ term_same (term_kind_of (byte_at p at)) at (term_from n p) (term_there p)
      (λ i b. term_deep n (256 - i) i (omega arith) (omega arith))

  pub formula_step : (k at : ℕ) → at < 256
      → formula_there p k at ≡ formula_by (term_there p) (formula_there p) (kind_of (byte_at p at)) p k at
  unfolding term_there formula_there formula_from
  formula_step k at h =
      let n = 255 - at in
      let e : 256 - at ≡ suc n = omega arith in
      ap (λ (m : ℕ). formula_from m p k at) e
      ∙ formula_same (kind_of (byte_at p at)) k at (term_from n p) (term_there p) (formula_from n p) (formula_there p)
      (λ i b. term_deep n (256 - i) i (omega arith) (omega arith))
      (λ j i b. formula_deep n (256 - i) j i (omega arith) (omega arith))
