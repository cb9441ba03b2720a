-- `checker::reply_word` meets its contract.
-- Number 0 is no refusal; a line is small, so the three parts of a refusal's word do not meet.
use mathlib.Core.Path.{refl}
use borrow.Author.Tests.{eq-eqb, ne_eqb}
use Rattle.checker.specs.Promises.{reply_word}
use Rattle.checker.proofs.reply_word.Goals as goal

pub returns-then-r-eq0 : goal.returns-then-r-eq0
unfolding reply_word
returns-then-r-eq0 c = rw (eq-eqb _ 0 c.if-r-eq0.true) refl

pub returns : goal.returns
unfolding reply_word
returns c = rw (ne_eqb _ 0 c.if-r-eq0.false, c.from-number.ensures) refl
