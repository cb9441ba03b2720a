-- `prepared::byte_at` meets its contract.
-- The definition makes the same test.
use mathlib.Core.Path.{refl}
use borrow.Author.Tests.{lt-ltb, le-ltb}
use Rattle.prepared.specs.Prepared.{byte_at}
use Rattle.prepared.proofs.byte_at.Goals as goal

pub returns-then-i-ge256 : goal.returns-then-i-ge256
unfolding byte_at
returns-then-i-ge256 c = rw (le-ltb _ 256 c.if-i-ge256.true) refl

pub returns : goal.returns
unfolding byte_at
returns c = rw (lt-ltb _ 256 c.if-i-ge256.false) c.element.ensures
