-- `digits::worth` meets its contract.
-- The table follows its rule at every entry.
use Rattle.digits.proofs.WorthTable.{follows}
use borrow.Author.Rules.{rules}
use Rattle.digits.proofs.worths.worth.Goals as goal

pub returns : goal.returns
returns c = rw c.from.ensures (follows c.args.b (search rules))
