-- `scans::find_fixed` meets its contract.
-- Each turn passes a code; the fixed point that is sought is one of those still to come.
use Prim.Native.Nat.{◌≤◌}
use native.Mathlib.Omega.{arith}
use mathlib.Core.Path.{◌≡◌, sym, ap, ◌∙◌}
use Rattle.scans.specs.Formulas.{is_fixed}
use Rattle.scans.proofs.ScannedFormulas.{code_at, width_small}
use Rattle.scans.proofs.Sought.{seeking_start, seeking_passed, seeking_less, seeking_found, seeking_end}
use Rattle.scans.proofs.modals.find_fixed.Goals as goal
use Rattle.scans.proofs.modals.find_fixed.Goals.{then-is_fixed+else-left-eq0, else-is_fixed}

pub loop-at-preserved : goal.loop-at-preserved
loop-at-preserved c =
    let told : c.is_fixed.result ≡ is_fixed (code_at c.args.sheet.now c.loop-at.at) =
    c.is_fixed.ensures ∙ ap is_fixed c.element.ensures in
    let near = c.loop-at-test.true in
    let inv = c.loop-at.invariant in
    elim c.if-is_fixed.branch [
      | then-is_fixed+else-left-eq0 w ↦
          rw w.left-is (seeking_less inv near c.width_at-at.ensures (sym told ∙ w.if-is_fixed.true)
          (omega arith))
      | else-is_fixed w ↦
          rw w.left-is (seeking_passed inv near c.width_at-at.ensures (sym told ∙ w.if-is_fixed.false))
    ]

pub returns-then-left-eq0-clause-found : goal.returns-then-left-eq0-clause-found
returns-then-left-eq0-clause-found c =
    let told : c.is_fixed.result ≡ is_fixed (code_at c.args.sheet.now c.loop-at.at) =
    c.is_fixed.ensures ∙ ap is_fixed c.element.ensures in
    seeking_found c.loop-at.invariant c.loop-at-test.true
    (sym told ∙ c.if-is_fixed.true) (omega arith)

pub loop-at-init : goal.loop-at-init
loop-at-init c = seeking_start _ _

pub overflow_add-at-in-loop-at : goal.overflow_add-at-in-loop-at
overflow_add-at-in-loop-at c =
    let width : (1 ≤ c.width_at-at.result) × (c.width_at-at.result ≤ 3) =
    rw c.width_at-at.ensures (width_small _ _) in
    omega (arith, width.1)

pub loop-at-smaller : goal.loop-at-smaller
loop-at-smaller c =
    let width : (1 ≤ c.width_at-at.result) × (c.width_at-at.result ≤ 3) =
    rw c.width_at-at.ensures (width_small _ _) in
    omega (arith, width.0)

pub returns-clause-found : goal.returns-clause-found
returns-clause-found c = seeking_end c.loop-at.invariant c.loop-at-test.false
