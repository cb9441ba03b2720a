-- DEFINITIONS: a body prepared for evaluation, and the formulas in it. Document 01, "Text of a model".
-- It has the body's bytes, 256 at most, and from 256 on for each of their places how many bytes come after
-- the first of the formula or term that begins there: so any part can be passed over at once.
use Rattle.std.specs.Prelude.{ℕ, zero, suc, ◌+◌, ◌-◌, ◌*◌, min, false, cond, List, [], ◌∷◌, ltb, take, drop}
use Rattle.std.specs.Prelude.{get_or, Option, None, Some}
use Rattle.meaning.specs.Formulas.{Term, number, variable, calculated, Formula, constant, joined, quantified}
use Rattle.meaning.specs.Formulas.{compared, instance}
use Rattle.meaning.specs.Ranges.{is_range}
use Rattle.formulas.specs.declared.Kind.{Kind}
use Rattle.formulas.specs.declared.Kind.TheVariants.{Constant, Join, Quantifier, Compare}
use Rattle.formulas.specs.declared.Kind.TheVariants.{Instance}
use Rattle.formulas.specs.declared.TermKind.{TermKind}
use Rattle.formulas.specs.declared.TermKind.TheVariants.{Number, Variable, Calculation}
use Rattle.formulas.specs.Codes.{kind_of, term_kind_of}
use Rattle.formulas.specs.Decode.{test_of}

-- the prepared body of equation number e stands from e * 512 on
abbrev pub prepared_part : List ℕ → ℕ → List ℕ
prepared_part bodies e = take 512 (drop (e * 512) bodies)

-- what stands at a place of the body; 0 behind it, which is no code
unfoldable pub byte_at : List ℕ → ℕ → ℕ
byte_at p i = cond (ltb i 256) (get_or p i 0) 0

-- the place after the formula or term that begins at a place
unfoldable pub end_at : List ℕ → ℕ → ℕ
end_at p i = cond (ltb i 256) (i + 1 + get_or p (256 + i) 0) i

-- ---- the term of a kind, whose code stands at a place; `sub` gives the terms inside. Where none can be read
-- it is the number 0
unfoldable pub term_by : (ℕ → Term) → Option TermKind → List ℕ → ℕ → Term
term_by sub None p at = number 0
term_by sub (Some Number) p at = number (byte_at p (at + 1))
term_by sub (Some Variable) p at = variable (byte_at p (at + 1))
term_by sub (Some (Calculation plus)) p at =
    cond (is_range (byte_at p (at + 1)))
    (calculated plus (byte_at p (at + 1)) (sub (at + 2)) (sub (end_at p (at + 2))))
    (number 0)

-- n bounds how deep terms stand in one another
unfoldable pub term_from : ℕ → List ℕ → ℕ → Term
term_from zero p at = number 0
term_from (suc n) p at = term_by (term_from n p) (term_kind_of (byte_at p at)) p at

-- c terms in a row
unfoldable pub terms_by : (ℕ → Term) → List ℕ → ℕ → ℕ → List Term
terms_by one p zero at = []
terms_by one p (suc c) at = one at ∷ terms_by one p c (end_at p at)

-- ---- the formula of a kind, whose code stands at a place, with k variables in reach, eight at most; `sub`
-- gives the formulas inside and `term` the terms. Where none can be read it is false
unfoldable pub formula_by : (ℕ → Term) → (ℕ → ℕ → Formula) → Option Kind → List ℕ → ℕ → ℕ → Formula
formula_by term sub None p k at = constant false
formula_by term sub (Some (Constant b)) p k at = constant b
formula_by term sub (Some (Join all)) p k at = joined all (sub k (at + 1)) (sub k (end_at p (at + 1)))
formula_by term sub (Some (Quantifier all)) p k at =
    cond (ltb k 8)
    (cond (is_range (byte_at p (at + 1)))
    (quantified all (byte_at p (at + 1)) (sub (k + 1) (at + 2)))
    (constant false))
    (constant false)
formula_by term sub (Some (Compare t)) p k at =
    compared (test_of t) (term (at + 1)) (term (end_at p (at + 1)))
formula_by term sub (Some Instance) p k at =
    instance (byte_at p (at + 1)) (terms_by term p (min (byte_at p (at + 2)) 4) (at + 3))

unfoldable pub formula_from : ℕ → List ℕ → ℕ → ℕ → Formula
formula_from zero p k at = constant false
formula_from (suc n) p k at = formula_by (term_from n p) (formula_from n p) (kind_of (byte_at p at)) p k at

-- ---- what stands at a place: as deep as there are places behind it
unfoldable pub term_there : List ℕ → ℕ → Term
term_there p at = term_from (256 - at) p at

abbrev pub terms_there : List ℕ → ℕ → ℕ → List Term
terms_there p c at = terms_by (term_there p) p c at

unfoldable pub formula_there : List ℕ → ℕ → ℕ → Formula
formula_there p k at = formula_from (256 - at) p k at
