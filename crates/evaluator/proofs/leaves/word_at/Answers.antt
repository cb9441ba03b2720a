-- `evaluator::leaves::word_at` meets its contract.
-- Behind the places of a body stands no argument, and equation 0.
use Prim.Native.Nat.{◌+◌}
use native.Mathlib.Omega.{arith}
use mathlib.Core.Path.{refl}
use Rattle.meaning.specs.Words.{word}
use Rattle.looked.specs.Looked.{looked_terms}
use Rattle.prepared.specs.Prepared.{terms_by}
use Rattle.prepared.proofs.Steps.{byte_past}
use Rattle.evaluator.proofs.leaves.word_at.Goals as goal

pub returns-then-at-ge256 : goal.returns-then-at-ge256
unfolding word looked_terms terms_by
returns-then-at-ge256 c =
    let a = c.args in
    let p = a.body.now in
    rw (
      c.alone.ensures,
      byte_past p (a.at + 1) (omega (arith, c.if-at-ge256.true)),
      byte_past p (a.at + 2) (omega (arith, c.if-at-ge256.true)),
    ) refl

-- at most four arguments
pub returns : goal.returns
returns c =
    rw (
      c.word_of.ensures,
      c.byte_at-2.ensures,
      c.arguments-got.ensures.0,
      c.arguments-got.ensures.1,
      c.min-n.ensures,
      c.byte_at.ensures,
    ) refl
