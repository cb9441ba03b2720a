-- `formulas::terms_end` meets its contract.
-- The terms are read as arguments, against the ranges as the first bytes of a table.
use Rattle.std.proofs.Common.{length, arith, ap, length-take, ◌∙◌}
use Rattle.formulas.specs.Tuples.{items}
use Rattle.formulas.proofs.Ended.{part_taken, terms_long, terms_lost, terms_found}
use Rattle.formulas.proofs.terms_end.Goals as goal

pub returns-then-body-gt256 : goal.returns-then-body-gt256
returns-then-body-gt256 c =
    let a = c.args in
    terms_long a.body.now a.at (items a.scope) (items a.ranges) c.if-body-gt256.true

pub returns-in_err-read_arguments : goal.returns-in_err-read_arguments
returns-in_err-read_arguments c =
    let a = c.args in
    c.from_residual.ensures ∙ terms_lost a.body.now a.at (items a.scope) c.if-body-gt256.false c.counted.ensures.1.0
    (items a.ranges) c.counted-known.ensures.1.0 c.in_err-read_arguments.ensures

pub returns : goal.returns
returns c =
    let a = c.args in
    let k = c.counted-known.result in
    let same = c.counted-known.ensures.0 in
    let size = c.counted-known.ensures.1.0 in
    c.end.ensures ∙
    terms_found a.body.now a.at (items a.scope) c.if-body-gt256.false c.counted.ensures.1.0 c.counted.ensures.0 size
    (part_taken k.values 0 k.count (omega (arith, size, ap length same, length-take k.count k.values)) ∙ same)
    c.in_ok-read_arguments.ensures
