-- `formulas::read_body` meets its contract.
-- The formula at the first of the body's bytes, with the parameters in reach and the signatures of the equations there are.
use Rattle.formulas.proofs.Bodies.{body_long, body_read}
use Rattle.formulas.proofs.read_body.Goals as goal

pub returns-then-size-gt256 : goal.returns-then-size-gt256
returns-then-size-gt256 c = let a = c.args in body_long a.body.now a.e a.equations a.count c.if-size-gt256.true

pub returns : goal.returns
returns c =
    let a = c.args in
    let p = c.parameters_of.ensures in
    body_read a.body.now a.e a.equations a.count c.read_formula.result c.if-size-gt256.false c.signatures_of-signatures.ensures
    p.0 p.1.0 c.read_formula.ensures
