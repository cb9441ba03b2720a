-- `scans::skip` meets its contract.
-- Each turn goes on by one code; where nothing is left to come, the formula has ended.
use native.Mathlib.Omega.{arith}
use Prim.Native.Nat.{ℕ, ◌+◌, ◌≤◌}
use mathlib.Core.Path.{refl, sym, ap, ◌∙◌}
use mathlib.Core.Bool.{Bool, cond}
use Rattle.scans.specs.Formulas.{is_fixed, parts_of}
use Rattle.scans.proofs.ScannedFormulas.{parts_few, width_small}
use Rattle.scans.proofs.Skipping.{skipping_start, skipping_turn, skipping_end}
use Rattle.scans.proofs.modals.skip.Goals as goal
use Rattle.scans.proofs.modals.skip.Goals.{then-is_fixed, else-is_fixed}

pub loop-pending-init : goal.loop-pending-init
loop-pending-init c = skipping_start _ _ _ c.from-next.ensures (omega arith)

pub loop-pending-preserved : goal.loop-pending-preserved
loop-pending-preserved c =
    let code = c.element-code.ensures in
    let loop = c.loop-pending in
    let fixed = c.is_fixed.ensures ∙ ap is_fixed code in
    let one : Bool → ℕ = λ b. cond b (loop.count + 1) loop.count in
    skipping_turn loop.invariant (omega arith) (omega arith)
    (elim c.if-is_fixed.branch [
      | then-is_fixed w ↦ w.count-is ∙ ap one (sym w.if-is_fixed.true ∙ fixed)
      | else-is_fixed w ↦ w.count-is ∙ ap one (sym w.if-is_fixed.false ∙ fixed)
    ])
    (c.parts_of.ensures ∙ ap parts_of code) c.width_at-next.ensures

pub overflow_add-pending : goal.overflow_add-pending
overflow_add-pending c = omega (arith, parts_few c.element-code.result, c.parts_of.ensures)

pub overflow_add-next-in-loop-pending : goal.overflow_add-next-in-loop-pending
overflow_add-next-in-loop-pending c =
    let width : (1 ≤ c.width_at-next.result) × (c.width_at-next.result ≤ 3) =
    rw c.width_at-next.ensures (width_small _ _) in
    omega (arith, width.1)

pub loop-pending-smaller : goal.loop-pending-smaller
loop-pending-smaller c =
    let width : (1 ≤ c.width_at-next.result) × (c.width_at-next.result ≤ 3) =
    rw c.width_at-next.ensures (width_small _ _) in
    omega (arith, width.0)

pub returns-else-next-lt256 : goal.returns-else-next-lt256
returns-else-next-lt256 c = skipping_end c.loop-pending.invariant (λ some near. omega arith) refl refl

pub returns-after-loop-pending : goal.returns-after-loop-pending
returns-after-loop-pending c = skipping_end c.loop-pending.invariant (λ some near. omega arith) refl refl
