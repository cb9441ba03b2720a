-- `prepared::end_at` meets its contract.
-- The definition makes the same test.
use Rattle.std.proofs.Common.{arith, refl}
use borrow.Author.Tests.{lt-ltb, le-ltb}
use Rattle.prepared.specs.Prepared.{end_at}
use Rattle.prepared.proofs.end_at.Goals as goal

pub returns-then-i-ge256 : goal.returns-then-i-ge256
unfolding end_at
returns-then-i-ge256 c = rw (le-ltb _ 256 c.if-i-ge256.true) refl

pub returns : goal.returns
unfolding end_at
returns c = rw (lt-ltb _ 256 c.if-i-ge256.false) (omega (arith, c.element.ensures))
