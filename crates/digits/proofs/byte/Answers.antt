-- `digits::byte` meets its contract.
-- Past the last byte stands none; before it, the worths of two characters.
use mathlib.Core.Path.{sym, ◌∙◌}
use Rattle.digits.proofs.Pairs.{byte_in, byte_beyond}
use Rattle.digits.proofs.byte.Goals as goal

pub returns-then-characters-i : goal.returns-then-characters-i
returns-then-characters-i c = sym (byte_beyond _ _ c.if-characters-i.true)

pub returns : goal.returns
returns c =
    c.pair.ensures ∙ rw (c.worth-high.ensures, c.worth-low.ensures) (sym (byte_in _ _ c.if-characters-i.false))
