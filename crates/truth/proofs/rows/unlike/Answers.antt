-- `rows::unlike` meets its contract: a digit of `!other` is 1 where that of other is 0.
-- One law for each b.
use mir.Syntax.{w64}
use mir.Val.{Fits}
use borrow.Author.Rules.{rules}
use Rattle.truth.proofs.RowWords.{unlike_true, unlike_false}
use Rattle.truth.proofs.rows.unlike.Goals as goal

pub returns-then-b : goal.returns-then-b
returns-then-b c =
    let a = c.args in
    let f : Fits w64 a.other = search rules in
    rw c.if-b.true (unlike_true a.word a.other f.fits)

pub returns-else-b : goal.returns-else-b
returns-else-b c = let a = c.args in rw c.if-b.false (unlike_false a.word a.other)
