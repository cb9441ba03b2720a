-- `formulas::condition_end` meets its contract.
-- The formula at the place, read with four quantifiers around it and no equation to name.
use Rattle.std.proofs.Common.{◌∙◌}
use Rattle.formulas.specs.Tuples.{items}
use Rattle.formulas.proofs.Ended.{condition_long, condition_lost, condition_found}
use Rattle.formulas.proofs.condition_end.Goals as goal

pub returns-then-size-gt256 : goal.returns-then-size-gt256
returns-then-size-gt256 c =
    let a = c.args in condition_long a.body.now a.at (items a.scope) c.if-size-gt256.true

pub returns-in_err-read_formula : goal.returns-in_err-read_formula
returns-in_err-read_formula c =
    let a = c.args in
    c.from_residual.ensures ∙ condition_lost a.body.now a.at (items a.scope) c.if-size-gt256.false c.counted.ensures.1.0
    c.in_err-read_formula.ensures

pub returns : goal.returns
returns c =
    let a = c.args in
    c.end.ensures ∙ condition_found a.body.now a.at (items a.scope) c.if-size-gt256.false c.counted.ensures.1.0
    c.counted.ensures.0 c.in_ok-read_formula.ensures
