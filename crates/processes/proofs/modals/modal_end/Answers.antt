-- `processes::modal_end` meets its contract.
-- `left` formulas are still to come; a code takes one of them and brings those inside it.
use Prim.Native.Nat.{ℕ, ◌<◌}
use native.Mathlib.Omega.{arith}
use mathlib.Core.Path.{◌≡◌, ap, ◌∙◌}
use mathlib.Core.List.{List}
use lib.ListN.{length, get_or}
use Rattle.scans.specs.Formulas.{parts_of}
use Rattle.processes.proofs.Rows.{no_code, wide, coded, width_inside, width_most, inside_most}
use Rattle.processes.proofs.Rows.{ending_start, ending_more, ending_none, ending_all}
use Rattle.processes.proofs.modals.modal_end.Goals as goal

pub loop-left-preserved : goal.loop-left-preserved
loop-left-preserved c =
    let at : ℕ = c.loop-left.at in
    let frame : List ℕ = c.args.frame.now in
    rw (wide frame at c.in_ok-width.ensures, c.parts_of.ensures, c.element.ensures)
    (ending_more frame c.args.start at c.loop-left.left c.loop-left.invariant
    c.requires.0 c.loop-left-test.true (coded frame at c.in_ok-width.ensures))

pub returns-in_err-width : goal.returns-in_err-width
returns-in_err-width c =
    rw c.from_residual.ensures
    (ending_none _ _ _ _ c.loop-left.invariant c.loop-left-test.true
    (no_code c.args.frame.now c.loop-left.at c.in_err-width.ensures))

pub overflow_add-left : goal.overflow_add-left
overflow_add-left c =
    let at : ℕ = c.loop-left.at in
    let frame : List ℕ = c.args.frame.now in
    let most = inside_most frame at (coded frame at c.in_ok-width.ensures) in
    let few = width_most frame at in
    let is : c.parts_of.result ≡ parts_of (get_or frame at 0) =
    c.parts_of.ensures ∙ ap parts_of c.element.ensures in
    omega (arith, c.loop-left.invariant.few, c.loop-left.invariant.near)

pub loop-left-init : goal.loop-left-init
loop-left-init c = ending_start _ _ (omega arith)

pub overflow_add-at : goal.overflow_add-at
overflow_add-at c =
    let at : ℕ = c.loop-left.at in
    let frame : List ℕ = c.args.frame.now in
    let inside : at < length frame = width_inside frame at (coded frame at c.in_ok-width.ensures) in
    omega (arith, inside, width_most frame at, wide frame at c.in_ok-width.ensures)

pub loop-left-smaller : goal.loop-left-smaller
loop-left-smaller c =
    let at : ℕ = c.loop-left.at in
    let frame : List ℕ = c.args.frame.now in
    let some = coded frame at c.in_ok-width.ensures in
    omega (arith, width_inside frame at some, wide frame at c.in_ok-width.ensures, some)

pub returns : goal.returns
returns c = ending_all _ _ _ _ c.loop-left.invariant (omega arith)
