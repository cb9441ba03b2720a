-- `System::next_candidate` meets its contract.
-- The instances below j are filled with their right sides; each turn puts instance j, or passes it.
use mathlib.Core.Path.{refl, ap, ◌∙◌}
use native.Mathlib.Omega.{arith}
use Rattle.instances.specs.Sides.{is_true, sides, numbered_system}
use Rattle.systems.specs.Solved.{next_candidate}
use Rattle.nested.proofs.Fill.{fill_none, fill_more, fill_skip, fill_done, named, not_named}
use Rattle.nested.proofs.System.next_candidate.Goals as goal
use Rattle.nested.proofs.System.next_candidate.Goals.{then-equation_number-e, else-equation_number-e}

pub loop-j-preserved : goal.loop-j-preserved
unfolding sides
loop-j-preserved c =
    let a = c.args.self in
    let is = c.equation_number.ensures in
    elim c.if-equation_number-e.branch [
      | then-equation_number-e w ↦
          fill_more c.loop-j.invariant (omega arith) a.few_words (named a.table.now _ is w.if-equation_number-e.true)
          (w.is_true.ensures ∙ ap is_true w.right_side-value.ensures) w.put-put.ensures w.s-is
      | else-equation_number-e w ↦
          fill_skip c.loop-j.invariant (omega arith) (not_named a.table.now _ is w.if-equation_number-e.false) w.s-is
    ]

pub loop-j-init : goal.loop-j-init
unfolding next_candidate numbered_system
loop-j-init c = fill_none refl

pub returns : goal.returns
unfolding next_candidate numbered_system
returns c = fill_done c.loop-j.invariant (omega arith)
