use Rattle.std.proofs.Common.{arith, sym, ap, refl, ◌∙◌}
use native.Mathlib.Numerals.{add-one}
use Rattle.meaning.specs.Ranges.{term_range}
use Rattle.formulas.specs.Codes.{term_kind_of}
use Rattle.formulas.proofs.ByKind as law
use Rattle.formulas.proofs.terms.+read_term.Goals as goal

pub returns-then-body-at : goal.returns-then-body-at
returns-then-body-at t c = law.term_past c.if-body-at.true

pub returns-in_err-term_kind_of : goal.returns-in_err-term_kind_of
returns-in_err-term_kind_of t c =
    rw c.from_residual.ensures (law.term_none
    (ap term_kind_of (sym c.element-code.ensures) ∙ sym c.term_kind_of.ensures ∙ c.in_err-term_kind_of.was))

pub returns-then-x-gt15 : goal.returns-then-x-gt15
returns-then-x-gt15 t c =
    let h = law.term_head c.if-body-at.false c.element-code.ensures c.element-x.ensures (c.from.ensures ∙ c.operands_of.ensures)
    c.term_kind_of.ensures c.in_ok-term_kind_of.was in
    law.term_number_no h c.in-Number.is c.if-x-gt15.true

pub returns-else-x-gt15 : goal.returns-else-x-gt15
unfolding term_range
returns-else-x-gt15 t c =
    let h = law.term_head c.if-body-at.false c.element-code.ensures c.element-x.ensures (c.from.ensures ∙ c.operands_of.ensures)
    c.term_kind_of.ensures c.in_ok-term_kind_of.was in
    law.term_number h c.in-Number.is c.if-x-gt15.false (add-one _)

pub returns-then-scope-from : goal.returns-then-scope-from
returns-then-scope-from t c =
    let h = law.term_head c.if-body-at.false c.element-code.ensures c.element-x.ensures (c.from.ensures ∙ c.operands_of.ensures)
    c.term_kind_of.ensures c.in_ok-term_kind_of.was in
    law.term_variable_no h c.in-Variable.is (rw c.from-in-Variable.ensures at c.if-scope-from.true)

pub returns-else-scope-from : goal.returns-else-scope-from
unfolding term_range
returns-else-scope-from t c =
    let h = law.term_head c.if-body-at.false c.element-code.ensures c.element-x.ensures (c.from.ensures ∙ c.operands_of.ensures)
    c.term_kind_of.ensures c.in_ok-term_kind_of.was in
    law.term_variable h c.in-Variable.is (rw c.from-in-Variable.ensures at c.if-scope-from.false) c.item.ensures

pub returns-then-not-is_range : goal.returns-then-not-is_range
returns-then-not-is_range t c =
    let h = law.term_head c.if-body-at.false c.element-code.ensures c.element-x.ensures (c.from.ensures ∙ c.operands_of.ensures)
    c.term_kind_of.ensures c.in_ok-term_kind_of.was in
    law.term_calculation_no h c.in-Calculation.is (sym c.is_range.ensures ∙ c.if-not-is_range.true)

pub returns-in_err-a-in-Calculation : goal.returns-in_err-a-in-Calculation
returns-in_err-a-in-Calculation t c =
    let h = law.term_head c.if-body-at.false c.element-code.ensures c.element-x.ensures (c.from.ensures ∙ c.operands_of.ensures)
    c.term_kind_of.ensures c.in_ok-term_kind_of.was in
    rw c.from_residual-in_err-a-in-Calculation.ensures
    (law.term_calculation h c.in-Calculation.is (sym c.is_range.ensures ∙ c.if-not-is_range.false)
    (law.terms_stop (omega arith) c.in_err-a-in-Calculation.ensures) (λ _ u. u))

pub read_term-requires-in-Calculation : goal.read_term-requires-in-Calculation
read_term-requires-in-Calculation t c = omega (arith, law.term_on c.in_ok-a-in-Calculation.ensures)

pub returns-in_err-b-in-Calculation : goal.returns-in_err-b-in-Calculation
returns-in_err-b-in-Calculation t c =
    let h = law.term_head c.if-body-at.false c.element-code.ensures c.element-x.ensures (c.from.ensures ∙ c.operands_of.ensures)
    c.term_kind_of.ensures c.in_ok-term_kind_of.was in
    rw c.from_residual-in_err-b-in-Calculation.ensures
    (law.term_calculation h c.in-Calculation.is (sym c.is_range.ensures ∙ c.if-not-is_range.false)
    (law.two_terms c.in_ok-a-in-Calculation.ensures c.in_err-b-in-Calculation.ensures) (λ _ u. tt))

pub returns-in_ok-b-in-Calculation : goal.returns-in_ok-b-in-Calculation
unfolding term_range
returns-in_ok-b-in-Calculation t c =
    let h = law.term_head c.if-body-at.false c.element-code.ensures c.element-x.ensures (c.from.ensures ∙ c.operands_of.ensures)
    c.term_kind_of.ensures c.in_ok-term_kind_of.was in
    law.term_calculation h c.in-Calculation.is (sym c.is_range.ensures ∙ c.if-not-is_range.false)
    (law.two_terms c.in_ok-a-in-Calculation.ensures c.in_ok-b-in-Calculation.ensures) (λ _ _. refl)
