-- What is left in the right side of a word's instance is gathered.
-- The prepared body and the variables in reach are those that the word names.
use native.Mathlib.Omega.{arith}
use Rattle.gathering.proofs.SideLaws.{side_past, side_gathers}
use Rattle.gathering.proofs.gather_side.Goals as goal

pub returns-then-e-ge8 : goal.returns-then-e-ge8
returns-then-e-ge8 c =
    let a = c.args in
    side_past a.bodies.now a.equations a.w c.equation_number-e.ensures c.min-found.ensures c.if-e-ge8.true
    c.none-reads.ensures

pub gather-shape-requires : goal.gather-shape-requires
gather-shape-requires c = omega (arith, c.min-found.ensures)

pub returns : goal.returns
returns c =
    let a = c.args in
    side_gathers a.bodies.now a.equations a.w c.equation_number-e.ensures c.min-found.ensures c.if-e-ge8.false
    c.none-reads.ensures c.body_of-body.ensures c.argument_tuple-scope.ensures c.gather-shape.ensures
