-- `instances::right_side` meets its contract.
-- It is what the evaluator gives for the word's body and arguments; a word that names no equation has none.
use Rattle.instances.proofs.Bodies.{side_past, side_given}
use Rattle.instances.proofs.right_side.Goals as goal

pub returns-then-e-ge8 : goal.returns-then-e-ge8
returns-then-e-ge8 c =
    let a = c.args in
    side_past a.bodies.now a.equations a.table.now a.truth.now a.w c.equation_number-e.ensures c.if-e-ge8.true

pub returns : goal.returns
returns c =
    let a = c.args in
    side_given a.bodies.now a.equations a.table.now a.truth.now a.w c.equation_number-e.ensures
    c.if-e-ge8.false c.body_of.ensures c.argument_tuple-scope.ensures c.evaluate.ensures
