-- `steps::side_value` meets its contract: a plain right side is judged by its row of reads.
-- Any other one is what the body says, which is the definition.
use mathlib.Core.Path.{◌≡◌, sym, ap, ◌∙◌}
use mathlib.Core.Bool.{true, false}
use Rattle.instances.specs.Sides.{is_true, sides, numbered_system}
use Rattle.solving.specs.Rounds.{plain_of}
use Rattle.solving.proofs.StepLaws.{plain_judged}
use Rattle.solving.proofs.steps.side_value.Goals as goal

pub returns-then-row_has : goal.returns-then-row_has
returns-then-row_has c g =
    let judged : c.plain_value.result ≡ plain_of c.args.graph.now c.args.j _ true = c.plain_value.ensures in
    judged
    ∙ plain_judged g true c.args.j c.requires (sym c.row_has.ensures ∙ c.if-row_has.true) _

pub returns-then-row_has-2 : goal.returns-then-row_has-2
returns-then-row_has-2 c g =
    let judged : c.plain_value-then-row_has-2.result ≡ plain_of c.args.graph.now c.args.j _ false =
    c.plain_value-then-row_has-2.ensures in
    judged
    ∙ plain_judged g false c.args.j c.requires (sym c.row_has-2.ensures ∙ c.if-row_has-2.true) _

pub returns : goal.returns
unfolding numbered_system sides
returns c g = c.is_true.ensures ∙ ap is_true c.right_side.ensures
