use Rattle.std.proofs.Common.{◌+◌, ◌<◌, ◌≡◌, [], ◌∷◌, ◌++◌, length, Bool, true, arith, sym, ap, refl, ◌∙◌}
use Rattle.meaning.specs.Ranges.{fits}
use Rattle.formulas.specs.Codes.{kind_of}
use Rattle.formulas.specs.Contract.{signatures_in}
use Rattle.formulas.specs.Tuples.{items}
use Rattle.formulas.proofs.ByKind as law
use Rattle.formulas.proofs.Fitting.{then_second, not_first}
use Rattle.formulas.proofs.+read_formula.Goals as goal

pub returns-then-limit-at : goal.returns-then-limit-at
returns-then-limit-at t c = law.formula_late c.if-limit-at.true

pub returns-in_err-kind_of : goal.returns-in_err-kind_of
returns-in_err-kind_of t c =
    rw c.from_residual.ensures (law.formula_none
    (ap kind_of (sym c.element-code.ensures) ∙ sym c.kind_of.ensures ∙ c.in_err-kind_of.was))

pub returns-in-Constant : goal.returns-in-Constant
unfolding fits
returns-in-Constant t c =
    let inside : c.args.at < length c.args.body.now = omega (arith, c.requires) in
    let h = law.formula_head inside c.element-code.ensures (c.from.ensures ∙ c.operands_of.ensures) c.kind_of.ensures
    c.in_ok-kind_of.was in
    law.formula_constant h c.in-Constant.is refl

pub returns-in_err-a-in-Join : goal.returns-in_err-a-in-Join
returns-in_err-a-in-Join t c =
    let inside : c.args.at < length c.args.body.now = omega (arith, c.requires) in
    let h = law.formula_head inside c.element-code.ensures (c.from.ensures ∙ c.operands_of.ensures) c.kind_of.ensures
    c.in_ok-kind_of.was in
    rw c.from_residual-in_err-a-in-Join.ensures
    (law.formula_join_stop h c.in-Join.is (omega arith) c.in_err-a-in-Join.ensures)

pub read_formula-requires-in-Join : goal.read_formula-requires-in-Join
read_formula-requires-in-Join t c = omega (arith, law.formula_on c.in_ok-a-in-Join.ensures)

pub returns-in_err-a-in-Join-2 : goal.returns-in_err-a-in-Join-2
returns-in_err-a-in-Join-2 t c =
    let inside : c.args.at < length c.args.body.now = omega (arith, c.requires) in
    let h = law.formula_head inside c.element-code.ensures (c.from.ensures ∙ c.operands_of.ensures) c.kind_of.ensures
    c.in_ok-kind_of.was in
    rw c.from_residual-in_err-a-in-Join-2.ensures
    (law.formula_join h c.in-Join.is c.in_ok-a-in-Join.ensures c.in_err-a-in-Join-2.ensures (λ f g x u. u))

pub returns-then-found : goal.returns-then-found
unfolding fits
returns-then-found t c =
    let inside : c.args.at < length c.args.body.now = omega (arith, c.requires) in
    let h = law.formula_head inside c.element-code.ensures (c.from.ensures ∙ c.operands_of.ensures) c.kind_of.ensures
    c.in_ok-kind_of.was in
    law.formula_join h c.in-Join.is c.in_ok-a-in-Join.ensures c.in_ok-a-in-Join-2.ensures
    (λ f g x y. then_second c.if-found.true x y)

pub returns-else-found : goal.returns-else-found
unfolding fits
returns-else-found t c =
    let inside : c.args.at < length c.args.body.now = omega (arith, c.requires) in
    let h = law.formula_head inside c.element-code.ensures (c.from.ensures ∙ c.operands_of.ensures) c.kind_of.ensures
    c.in_ok-kind_of.was in
    law.formula_join h c.in-Join.is c.in_ok-a-in-Join.ensures c.in_ok-a-in-Join-2.ensures
    (λ f g x y. not_first _ c.if-found.false x)

pub returns-then-q-ge4 : goal.returns-then-q-ge4
returns-then-q-ge4 t c =
    let inside : c.args.at < length c.args.body.now = omega (arith, c.requires) in
    let h = law.formula_head inside c.element-code.ensures (c.from.ensures ∙ c.operands_of.ensures) c.kind_of.ensures
    c.in_ok-kind_of.was in
    law.formula_fifth h c.in-Quantifier.is c.if-q-ge4.true

pub returns-then-not-is_range : goal.returns-then-not-is_range
returns-then-not-is_range t c =
    let inside : c.args.at < length c.args.body.now = omega (arith, c.requires) in
    let h = law.formula_head inside c.element-code.ensures (c.from.ensures ∙ c.operands_of.ensures) c.kind_of.ensures
    c.in_ok-kind_of.was in
    law.formula_quantifier_no h c.in-Quantifier.is (omega arith) c.element-r.ensures
    (sym c.is_range.ensures ∙ c.if-not-is_range.true)

pub read_formula-requires-in-Quantifier : goal.read_formula-requires-in-Quantifier
read_formula-requires-in-Quantifier t c =
    let pushed : c.push.result.count ≡ c.args.scope.count + 1 = (c.push.ensures.1 (omega (arith, c.requires))).0 in
    omega (arith, pushed)

pub returns-else-not-is_range : goal.returns-else-not-is_range
unfolding fits
returns-else-not-is_range t c =
    let pushed : let scope = c.args.scope in (c.push.result.count ≡ scope.count + 1)
    × (items c.push.result ≡ items scope ++ (c.element-r.result ∷ [])) =
    c.push.ensures.1 (omega (arith, c.requires)) in
    let inside : c.args.at < length c.args.body.now = omega (arith, c.requires) in
    let h = law.formula_head inside c.element-code.ensures (c.from.ensures ∙ c.operands_of.ensures) c.kind_of.ensures
    c.in_ok-kind_of.was in
    let a = c.args in
    law.quantifier_tells h a.limit a.scope.count a.q (λ (v : Bool) f. v ≡ fits (signatures_in a.signatures.now) f (items a.scope))
    (λ v f. v ≡ fits (signatures_in a.signatures.now) f (items a.scope ++ (c.element-r.result ∷ [])))
    c.read_formula-in-Quantifier.result c.in-Quantifier.is (omega arith) c.element-r.ensures
    (sym c.is_range.ensures ∙ c.if-not-is_range.false) (rw (pushed.1, pushed.0) at c.read_formula-in-Quantifier.ensures)
    (λ v f x. x)

pub returns-in-Compare : goal.returns-in-Compare
unfolding fits
returns-in-Compare t c =
    let inside : c.args.at < length c.args.body.now = omega (arith, c.requires) in
    let h = law.formula_head inside c.element-code.ensures (c.from.ensures ∙ c.operands_of.ensures) c.kind_of.ensures
    c.in_ok-kind_of.was in
    let a = c.args in
    law.compare_tells h a.limit a.scope.count a.q (λ (v : Bool) f. v ≡ fits (signatures_in a.signatures.now) f (items a.scope))
    (λ v ts. v ≡ true) c.read_comparison.result c.in-Compare.is c.read_comparison.ensures (λ v ts x. x)

pub returns-in-Instance : goal.returns-in-Instance
returns-in-Instance t c =
    let inside : c.args.at < length c.args.body.now = omega (arith, c.requires) in
    let h = law.formula_head inside c.element-code.ensures (c.from.ensures ∙ c.operands_of.ensures) c.kind_of.ensures
    c.in_ok-kind_of.was in
    let a = c.args in
    law.instance_told h a.limit a.scope.count a.q (λ (v : Bool) f. v ≡ fits (signatures_in a.signatures.now) f (items a.scope))
    c.read_instance.result c.in-Instance.is c.read_instance.ensures
