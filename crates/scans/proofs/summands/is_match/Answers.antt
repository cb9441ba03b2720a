-- `scans::is_match` meets its contract.
-- The table says where the action stands; a place without a summand begins with another byte.
use mathlib.Core.Path.{◌∙◌}
use Rattle.scans.proofs.Matching.{match_told, match_none}
use Rattle.scans.proofs.summands.is_match.Goals as goal

pub returns-then-there : goal.returns-then-there
returns-then-there c =
    match_told c.element-there.ensures (c.from-p.ensures ∙ c.element.ensures) c.element-action.ensures
    c.is_one_of.ensures c.if-there.true

pub returns-else-there : goal.returns-else-there
returns-else-there c = match_none c.element-there.ensures c.if-there.false
