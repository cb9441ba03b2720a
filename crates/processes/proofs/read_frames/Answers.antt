-- `processes::read_frames` meets its contract.
-- Before each turn the sheet holds the frames that are done, and what is left of the text tells the refusal.
use Prim.Native.Nat.{ℕ, ◌+◌, ◌≤◌}
use native.Mathlib.Omega.{arith}
use mathlib.Core.Path.{◌≡◌, refl, sym, ◌∙◌}
use mathlib.Core.Bool.{true}
use mathlib.Core.List.{List, []}
use lib.ListN.{take, length-take}
use Rattle.refusals.specs.OneReply.{some_number}
use Rattle.reading.proofs.Turns.{end_near, small}
use Rattle.inputs.specs.Inputs.{keeps_rules, and_frame}
use Rattle.processes.proofs.Turns.{first_left, left_valid, left_refused, left_next}
use Rattle.processes.proofs.Laying.{Laid, laid_none, laid_head, next_is, note_kept, frame_kept, slot_near}
use Rattle.processes.proofs.Outcomes.{frames_refused, frames_whole, frames_missing}
use Rattle.processes.proofs.read_frames.Goals as goal
use Rattle.processes.proofs.read_frames.Goals.{then-code-ne3, else-code-ne3}

pub loop-at-init : goal.loop-at-init
loop-at-init c =
    record {
      done = [];
      short = c.requires.0;
      near = omega arith;
      early = omega arith;
      few = omega arith;
      laid = laid_none c.requires.2;
      left = first_left _ c.requires.0 c.requires.1;
    }

-- no line is refused
pub returns-in-Err : goal.returns-in-Err
returns-in-Err c =
    let e = rw c.in-Err.is at c.frame_at-f.ensures in
    absurd (some_number c.in-Err.reason (left_valid c.loop-at.invariant.left c.loop-at-test.true e))

-- ---- the frame is judged
pub shared_ref_as_front-bytes : goal.shared_ref_as_front-bytes
shared_ref_as_front-bytes c = small _ _ (rw c.in-Ok.is at c.frame_at-f.ensures) refl

pub keeps_rules-requires : goal.keeps_rules-requires
keeps_rules-requires c =
    let few = small _ _ (rw c.in-Ok.is at c.frame_at-f.ensures) refl in
    let f = c.in-Ok.frame in
    ((laid_head c.loop-at.invariant.laid).0, omega (arith, few, length-take f.size f.bytes))

pub returns-then-not-keeps_rules : goal.returns-then-not-keeps_rules
returns-then-not-keeps_rules c =
    let e = rw c.in-Ok.is at c.frame_at-f.ensures in
    let k = c.loop-at.invariant in
    let kept = c.keeps_rules.ensures ∙ next_is k.laid (take c.in-Ok.frame.size c.in-Ok.frame.bytes) in
    frames_refused (left_refused k.left c.loop-at-test.true e (sym kept ∙ c.if-not-keeps_rules.true))

pub keep-requires : goal.keep-requires
keep-requires c =
    let few = small _ _ (rw c.in-Ok.is at c.frame_at-f.ensures) refl in
    let f = c.in-Ok.frame in
    (slot_near c.element-code.result c.loop-at.count c.slot_of.ensures, omega (arith, few, length-take f.size f.bytes))

pub loop-at-preserved : goal.loop-at-preserved
loop-at-preserved c =
    let bytes : List ℕ = take c.in-Ok.frame.size c.in-Ok.frame.bytes in
    let e = rw c.in-Ok.is at c.frame_at-f.ensures in
    let near = end_near _ _ e c.loop-at-test.true in
    let p = c.loop-at.invariant in
    let passed : keeps_rules p.done bytes ≡ true =
    sym (c.keeps_rules.ensures ∙ next_is p.laid bytes) ∙ c.if-not-keeps_rules.false in
    let j = c.if-code-ne3 in
    let joined : Laid (and_frame p.done bytes) j.sheet j.count j.whole × (j.count ≤ c.loop-at.count + 1) =
    let code = c.element-code.ensures in
    elim j.branch [
      | then-code-ne3 w ↦ (
        frame_kept p.laid bytes code w.if-code-ne3.true passed w.slot_of.ensures (w.sheet-is ∙ w.keep.ensures)
            w.count-is w.whole-is,
        omega (arith, w.count-is),
      )
      | else-code-ne3 w ↦ (
        note_kept p.laid bytes code w.if-code-ne3.false w.sheet-is w.count-is w.whole-is,
        omega (arith, w.count-is),
      )
    ] in
    record {
      done = and_frame p.done bytes;
      short = p.short;
      near = omega (arith, near);
      early = omega (arith, p.early, near);
      few = omega (arith, p.few, near, joined.1);
      laid = joined.0;
      left = left_next p.left c.loop-at-test.true e passed;
    }

pub overflow_add-at : goal.overflow_add-at
overflow_add-at c = omega (arith, end_near _ _ c.frame_at-f.ensures c.loop-at-test.true, c.loop-at.invariant.short)

pub loop-at-smaller : goal.loop-at-smaller
loop-at-smaller c = omega (arith, end_near _ _ c.frame_at-f.ensures c.loop-at-test.true)

-- ---- no line is left
pub returns-then-whole : goal.returns-then-whole
returns-then-whole c =
    let k = c.loop-at.invariant in frames_whole k.laid k.left c.loop-at-test.false c.if-whole.true

pub returns-else-whole : goal.returns-else-whole
returns-else-whole c =
    let k = c.loop-at.invariant in frames_missing k.laid k.left c.loop-at-test.false c.if-whole.false
