-- `formulas::is_range` meets its contract.
-- Each way of the test is the definition's.
use Rattle.std.proofs.Common.{refl}
use borrow.Author.Tests.{le-leb, lt-leb}
use Rattle.meaning.specs.Logic.{◌and◌}
use Rattle.formulas.proofs.is_range.Goals as goal

pub returns-then-r-ge1 : goal.returns-then-r-ge1
unfolding ◌and◌
returns-then-r-ge1 c = rw (le-leb 1 c.args.r c.if-r-ge1.true) refl

pub returns-else-r-ge1 : goal.returns-else-r-ge1
unfolding ◌and◌
returns-else-r-ge1 c = rw (lt-leb 1 c.args.r c.if-r-ge1.false) refl
