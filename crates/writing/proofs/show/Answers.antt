-- `writing::show` meets its contract.
-- The test is that of the definition, and the line is put by `put_line`.
use Rattle.writing.proofs.Shown.{shows_text, shows_refusal}
use Rattle.writing.proofs.show.Goals as goal

pub returns-then-reply-eq0 : goal.returns-then-reply-eq0
returns-then-reply-eq0 c = shows_text c.if-reply-eq0.true

pub returns : goal.returns
returns c = shows_refusal c.if-reply-eq0.false (rw c.to_be_bytes.ensures at c.put_line.ensures)
