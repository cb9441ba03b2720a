-- `evaluator::terms::calculate` meets its contract, where the range is not 0: b times r is not less than b, so with it added
-- nothing of a difference is cut off at 0; and the product of two bytes and a byte more have room in the wider number.
use native.Mathlib.Omega.{arith}
use native.Mathlib.Nat.{le-mul_of_pos_right, mod-lt, mul-le-mul}
use Rattle.meaning.specs.Formulas.{sum, difference}
use Rattle.evaluator.proofs.terms.calculate.Goals as goal
use Rattle.evaluator.proofs.terms.calculate.Goals.{then-plus, else-plus}

pub overflow_add-whole-else-plus : goal.overflow_add-whole-else-plus
overflow_add-whole-else-plus c =
    let b = c.from-second.result in
    let r = c.from-range.result in
    omega (arith, mul-le-mul {n₁ = b} {m₁ = r} {n₂ = 255} {m₂ = 255} (omega arith) (omega arith))

pub overflow_mul-whole : goal.overflow_mul-whole
overflow_mul-whole c = omega (arith, overflow_add-whole-else-plus c)

pub overflow_sub-whole : goal.overflow_sub-whole
overflow_sub-whole c = omega (arith, le-mul_of_pos_right {m = c.from-range.result} c.from-second.result (omega arith))

pub overflow_cast-result : goal.overflow_cast-result
overflow_cast-result c = omega (arith, mod-lt c.if-plus.whole {m = c.from-range.result} (omega arith))

pub returns : goal.returns
unfolding sum difference
returns c =
    elim c.if-plus.branch [
      | then-plus up ↦ rw (up.if-plus.true, up.whole-is, c.from-range.ensures, c.from-first.ensures, c.from-second.ensures)
      | else-plus down ↦
          rw (down.if-plus.false, down.whole-is, c.from-range.ensures, c.from-first.ensures, c.from-second.ensures)
    ]
