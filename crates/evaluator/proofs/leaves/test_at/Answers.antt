-- `evaluator::leaves::test_at` meets its contract.
-- Behind the places of a body both terms are the number 0.
use Prim.Native.Nat.{◌+◌}
use native.Mathlib.Omega.{arith}
use mathlib.Core.Path.{refl}
use Rattle.meaning.specs.Formulas.{value}
use Rattle.looked.specs.Looked.{both, looked_term}
use Rattle.prepared.specs.Prepared.{end_at}
use Rattle.prepared.proofs.Steps.{end_on, term_past}
use Rattle.evaluator.proofs.leaves.test_at.Goals as goal

pub returns-then-at-ge256 : goal.returns-then-at-ge256
unfolding value looked_term both
returns-then-at-ge256 c =
    let a = c.args in
    let p = a.body.now in
    let next = a.at + 1 in
    let first = term_past p next (omega (arith, c.if-at-ge256.true)) in
    let second = term_past p (end_at p next) (omega (arith, c.if-at-ge256.true, end_on p next)) in
    rw (c.alone.ensures, first, second, c.tested.ensures) refl

pub returns : goal.returns
returns c =
    rw (
      c.both.ensures,
      c.tested-2.ensures,
      c.term-a.ensures.value,
      c.term-a.ensures.looked,
      c.term-b.ensures.value,
      c.term-b.ensures.looked,
      c.end_at.ensures,
    ) refl
