-- `evaluator::tables::value_of` meets its contract: the lookup gives the word's number, where there is one.
-- The set's own test gives the truth of that number.
use mathlib.Core.Path.{refl, ap}
use lib.ListN.{length}
use borrow.Author.Tests.{lt-ltb, le-ltb}
use Rattle.std.proofs.Common.{Some}
use Rattle.evaluator.specs.Values.{value_in}
use Rattle.evaluator.proofs.tables.value_of.Goals as goal

pub returns-then-j-table : goal.returns-then-j-table
unfolding value_in
returns-then-j-table c =
    let j = c.lookup-j in
    let table = c.args.table.now in
    rw (← j.ensures, lt-ltb j.result (length table) c.if-j-table.true)
    (ap Some c.has.ensures)

pub returns-else-j-table : goal.returns-else-j-table
unfolding value_in
returns-else-j-table c =
    let j = c.lookup-j in
    rw (← j.ensures, le-ltb j.result (length c.args.table.now) c.if-j-table.false) refl
