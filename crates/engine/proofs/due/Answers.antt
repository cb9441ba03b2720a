-- How many words are to be solved.
-- A lent list is compared with the words found.
use mathlib.Core.Path.{sym, ◌∙◌}
use Rattle.engine.proofs.SameWords.{due_same, due_other}
use Rattle.engine.proofs.due.Goals as goal

pub returns-in-Some-found : goal.returns-in-Some-found
returns-in-Some-found c =
    rw (c.in-Some-found.is, c.in-Some.is) (due_same _ _ _ (sym c.eq.ensures ∙ c.if-eq.true))

pub returns-in_default-found : goal.returns-in_default-found
returns-in_default-found c =
    rw (c.in-Some-found.is, c.in-Some.is) (due_other _ _ _ (sym c.eq.ensures ∙ c.if-eq.false))
