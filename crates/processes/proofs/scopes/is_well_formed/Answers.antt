-- `processes::is_well_formed` meets its contract.
-- Each turn takes one code: a fixed point is kept with its end, a variable or an action is tested.
use Prim.Native.Nat.{ℕ}
use native.Mathlib.Omega.{arith}
use mathlib.Core.Path.{◌≡◌, refl, sym, ap, ◌∙◌}
use mathlib.Core.List.{List}
use Rattle.scans.specs.Formulas.{is_fixed}
use Rattle.processes.specs.Ends.{variable_stands}
use Rattle.processes.proofs.Rows.{width_most, no_code, wide, coded}
use Rattle.processes.proofs.Turning.{Opened, opened, not_opened}
use Rattle.processes.proofs.Walking.{opened_count, walking_start, walking_done, walking_none, walking_ended}
use Rattle.processes.proofs.Walking.{walking_stops, walking_more, variable_taken}
use Rattle.processes.proofs.scopes.is_well_formed.Goals as goal
use Rattle.processes.proofs.scopes.is_well_formed.Goals.{then-is_fixed+in-Some-modal_end, else-is_fixed}
use Rattle.processes.proofs.scopes.is_well_formed.Goals.{then-not-fits-via-then-not-fits}
use Rattle.processes.proofs.scopes.is_well_formed.Goals.{then-not-fits-via-else-not-fits+then-not-action_fits}

pub returns-in_default : goal.returns-in_default
returns-in_default c = walking_none c.loop-at.invariant c.loop-at-test.true
    (no_code c.args.frame.now c.loop-at.at c.in_default.ensures)

pub returns-in_default-modal_end : goal.returns-in_default-modal_end
returns-in_default-modal_end c =
    walking_ended c.loop-at.invariant c.loop-at-test.true
    (ap is_fixed (sym c.element.ensures) ∙ sym c.is_fixed.ensures ∙ c.if-is_fixed.true) c.in_default-modal_end.ensures

pub returns-then-not-fits : goal.returns-then-not-fits
returns-then-not-fits c =
    let frame : List ℕ = c.args.frame.now in
    let at : ℕ = c.loop-at.at in
    let j = c.if-is_fixed in
    let fixed : is_fixed _ ≡ c.is_fixed.result = ap is_fixed (sym c.element.ensures) ∙ sym c.is_fixed.ensures in
    let kept : Opened frame at c.loop-at.ends c.loop-at.count j.ends j.count =
    elim j.branch [
      | then-is_fixed+in-Some-modal_end w ↦
          opened w.in-Some-modal_end.end (fixed ∙ w.if-is_fixed.true) w.in-Some-modal_end.ensures w.ends-is w.count-is
      | else-is_fixed w ↦ not_opened (fixed ∙ w.if-is_fixed.false) w.ends-is w.count-is
    ] in
    let variable : variable_stands frame at j.ends j.count ≡ c.variable_fits-fits.result =
    sym (c.variable_fits-fits.ensures ∙ variable_taken frame at j.ends j.count (omega (arith, opened_count kept))) in
    walking_stops c.loop-at.invariant (omega arith) c.loop-at-test.true kept
    (elim c.then-not-fits.branch [
      | then-not-fits-via-then-not-fits w ↦ rw (variable ∙ w.if-not-fits.true) refl
      | then-not-fits-via-else-not-fits+then-not-action_fits w ↦
          rw (variable ∙ w.if-not-fits.false, sym w.action_fits.ensures ∙ w.if-not-action_fits.true) refl
    ])

pub loop-at-preserved : goal.loop-at-preserved
loop-at-preserved c =
    let frame : List ℕ = c.args.frame.now in
    let at : ℕ = c.loop-at.at in
    let j = c.if-is_fixed in
    let fixed : is_fixed _ ≡ c.is_fixed.result = ap is_fixed (sym c.element.ensures) ∙ sym c.is_fixed.ensures in
    let kept : Opened frame at c.loop-at.ends c.loop-at.count j.ends j.count =
    elim j.branch [
      | then-is_fixed+in-Some-modal_end w ↦
          opened w.in-Some-modal_end.end (fixed ∙ w.if-is_fixed.true) w.in-Some-modal_end.ensures w.ends-is w.count-is
      | else-is_fixed w ↦ not_opened (fixed ∙ w.if-is_fixed.false) w.ends-is w.count-is
    ] in
    let variable : variable_stands frame at j.ends j.count ≡ c.variable_fits-fits.result =
    sym (c.variable_fits-fits.ensures ∙ variable_taken frame at j.ends j.count (omega (arith, opened_count kept))) in
    rw (wide frame at c.in-Some.ensures)
    (walking_more c.loop-at.invariant (omega arith) c.loop-at-test.true kept
    (variable ∙ c.if-not-fits.false) (sym c.action_fits.ensures ∙ c.if-not-action_fits.false) (coded frame at c.in-Some.ensures))

pub loop-at-init : goal.loop-at-init
loop-at-init c = walking_start _

pub overflow_add-at-in-loop-at : goal.overflow_add-at-in-loop-at
overflow_add-at-in-loop-at c =
    omega (arith, wide c.args.frame.now c.loop-at.at c.in-Some.ensures, width_most c.args.frame.now c.loop-at.at)

pub loop-at-smaller : goal.loop-at-smaller
loop-at-smaller c =
    let frame : List ℕ = c.args.frame.now in
    let some = coded frame c.loop-at.at c.in-Some.ensures in
    omega (arith, wide frame c.loop-at.at c.in-Some.ensures, some)

pub returns : goal.returns
returns c = walking_done c.loop-at.invariant c.loop-at-test.false
