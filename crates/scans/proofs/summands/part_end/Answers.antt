-- `scans::part_end` meets its contract.
-- Each turn goes on by one code; where nothing is left to come, the item has ended.
use native.Mathlib.Omega.{arith}
use Prim.Native.Nat.{◌≤◌}
use mathlib.Core.Path.{ap, ◌∙◌}
use Rattle.scans.specs.Items.{part_parts, part_width}
use Rattle.scans.proofs.ScannedItems.{part_parts_few, part_width_small}
use Rattle.scans.proofs.PartEnds.{ending_start, ending_turn, ending_end}
use Rattle.scans.proofs.summands.part_end.Goals as goal

pub loop-pending-init : goal.loop-pending-init
loop-pending-init c = ending_start _ _ _ c.requires.0 c.requires.1

pub loop-pending-preserved : goal.loop-pending-preserved
loop-pending-preserved c =
    let code = c.element-code.ensures in
    ending_turn c.loop-pending.invariant (omega arith) (omega arith)
    (c.part_parts.ensures ∙ ap part_parts code) (c.part_width-next.ensures ∙ ap part_width code)

pub overflow_add-pending : goal.overflow_add-pending
overflow_add-pending c = omega (arith, c.part_parts.ensures, part_parts_few c.element-code.result)

pub overflow_add-next : goal.overflow_add-next
overflow_add-next c =
    let width : (1 ≤ c.part_width-next.result) × (c.part_width-next.result ≤ 2) =
    rw c.part_width-next.ensures (part_width_small _) in
    omega (arith, width.1)

pub loop-pending-smaller : goal.loop-pending-smaller
loop-pending-smaller c =
    let width : (1 ≤ c.part_width-next.result) × (c.part_width-next.result ≤ 2) =
    rw c.part_width-next.ensures (part_width_small _) in
    omega (arith, width.0)

pub returns-else-next-lt256 : goal.returns-else-next-lt256
returns-else-next-lt256 c = ending_end c.loop-pending.invariant (λ some near. omega arith)

pub returns-after-loop-pending : goal.returns-after-loop-pending
returns-after-loop-pending c = ending_end c.loop-pending.invariant (λ some near. omega arith)
