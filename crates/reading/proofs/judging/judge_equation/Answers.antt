-- `reading::judge_equation` meets its contract.
-- After the start or eight equations it is out of place; else the head decides, and then the body.
use mathlib.Core.Path.{refl, sym, ◌∙◌}
use native.Mathlib.Omega.{arith}
use Rattle.reading.specs.Reading.{equation_refusal}
use Rattle.reading.proofs.Refusals.{equation_judged, head_is, body_is}
use Rattle.reading.proofs.judging.judge_equation.Goals as goal

pub returns-then-started : goal.returns-then-started
unfolding equation_refusal
returns-then-started c = grind (arith, c.then-started.either)

pub returns-then-not-is_valid_head : goal.returns-then-not-is_valid_head
returns-then-not-is_valid_head c =
    let head = head_is _ c.equation_record-e.ensures c.is_valid_head.ensures in
    equation_judged _ _ c.if-started.false (omega arith) (sym c.if-not-is_valid_head.true ∙ head) refl

pub returns-then-not-is_body : goal.returns-then-not-is_body
returns-then-not-is_body c =
    let head = head_is _ c.equation_record-e.ensures c.is_valid_head.ensures in
    let body = body_is _ c.equation_record-e.ensures c.from-head.ensures c.is_body.ensures in
    equation_judged _ _ c.if-started.false (omega arith) (sym c.if-not-is_valid_head.false ∙ head)
    (sym c.if-not-is_body.true ∙ body)

pub returns : goal.returns
returns c =
    let head = head_is _ c.equation_record-e.ensures c.is_valid_head.ensures in
    let body = body_is _ c.equation_record-e.ensures c.from-head.ensures c.is_body.ensures in
    equation_judged _ _ c.if-started.false (omega arith) (sym c.if-not-is_valid_head.false ∙ head)
    (sym c.if-not-is_body.false ∙ body)
