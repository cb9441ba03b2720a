-- `processes::action_fits` meets its contract.
-- The tests are those of the definition, in its order.
use mathlib.Core.Path.{refl, ◌∙◌}
use Rattle.processes.specs.Ends.{action_stands}
use Rattle.processes.proofs.scopes.action_fits.Goals as goal

pub returns : goal.returns
unfolding action_stands
returns c =
    c.implies.ensures ∙ rw (
      c.and-named.ensures,
      c.and-after.ensures,
      c.element-2.ensures,
      c.element.ensures,
      c.element-code.ensures,
    ) refl
