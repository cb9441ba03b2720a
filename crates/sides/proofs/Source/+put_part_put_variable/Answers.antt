-- The proof of the cycle of calls {put_part, put_variable}.
-- `put_part` goes code by code, `turned` being one turn; `put_variable` has a law for each kind of variable.
use Prim.Native.Nat.{ℕ, ◌+◌, ◌*◌, ◌≤◌}
use native.Mathlib.Omega.{arith}
use mathlib.Core.Path.{refl, sym, ap, ap₂, ◌∙◌}
use lib.ListN.{get_or}
use Rattle.scans.specs.Items.{part_parts, part_width}
use Rattle.scans.proofs.ScannedItems.{part_parts_few, part_width_small}
use Rattle.sides.specs.declared.Listed.{Listed}
use Rattle.sides.specs.Steps.{flipped}
use Rattle.sides.proofs.PartTurns.{PartTurn, variable_turn, code_turn, parting_start, parting_turn, parting_end}
use Rattle.sides.proofs.PartTurns.{parting_full}
use Rattle.sides.proofs.VariablesTold.{own_told, first_told, later_told}
use Rattle.sides.proofs.Source.+put_part_put_variable.Goals as goal
use Rattle.sides.proofs.Source.+put_part_put_variable.Goals.{put_part-then-code-eq33+in_ok-c}
use Rattle.sides.proofs.Source.+put_part_put_variable.Goals.{put_part-else-code-eq33+in_ok-c-2}

-- ---- `put_part`

-- one turn
turned : (t : ℕ) (c : goal.put_part-After-part_width-at t)
    → PartTurn c.args.self.sheet.now c.args.self.places.now c.args.steps.now c.args.part.step c.args.part.flip
    c.loop-pending.at c.loop-pending.out c.loop-pending.c c.if-code-eq33.out c.if-code-eq33.c
turned t c =
    elim c.if-code-eq33.branch [
      | put_part-then-code-eq33+in_ok-c w ↦
          rw (w.out-is, w.c-is)
          (variable_turn _ _ (sym c.element-code.ensures ∙ w.if-code-eq33.true) c.element-x.ensures
          w.in_ok-c.ensures.told)
      | put_part-else-code-eq33+in_ok-c-2 w ↦
          rw (w.out-is, w.c-is)
          (code_turn _ _ (λ e. w.if-code-eq33.false (c.element-code.ensures ∙ e)) c.element-x.ensures
          (w.flipped.ensures ∙ ap (flipped _) c.element-code.ensures) w.in_ok-c-2.ensures.told)
    ]

short : (t : ℕ) (c : goal.put_part-After-part_width-at t) → c.if-code-eq33.c ≤ 256
short t c =
    elim c.if-code-eq33.branch [
      | put_part-then-code-eq33+in_ok-c w ↦ rw w.c-is w.in_ok-c.ensures.few
      | put_part-else-code-eq33+in_ok-c-2 w ↦ rw w.c-is w.in_ok-c-2.ensures.few
    ]

pub put_part-loop-pending-init : goal.put_part-loop-pending-init
put_part-loop-pending-init t c = (
  parting_start _ _ _ _ _ _ c.from.result _ (omega arith) (omega arith) (omega arith)
      (c.from.ensures ∙ ap (λ (x : Listed). x.slot) c.step_at-slot.ensures)
      (ap (λ (n : ℕ). 256 * c.from.result + n) c.from-2.ensures),
  c.requires.1,
)

pub put_part-returns-in_err-c : goal.put_part-returns-in_err-c
put_part-returns-in_err-c t c =
    rw c.from_residual.ensures (record {
      few = tt;
      told = parting_full c.loop-pending.invariant.0 c.loop-pending-test.true c.loop-pending.invariant.1
          (variable_turn _ _ (sym c.element-code.ensures ∙ c.if-code-eq33.true) c.element-x.ensures
          c.in_err-c.ensures.told);
    })

pub put_part-returns-in_err-c-2 : goal.put_part-returns-in_err-c-2
put_part-returns-in_err-c-2 t c =
    rw c.from_residual-in_err-c-2.ensures (record {
      few = tt;
      told = parting_full c.loop-pending.invariant.0 c.loop-pending-test.true c.loop-pending.invariant.1
          (code_turn _ _ (λ e. c.if-code-eq33.false (c.element-code.ensures ∙ e)) c.element-x.ensures
          (c.flipped.ensures ∙ ap (flipped _) c.element-code.ensures) c.in_err-c-2.ensures.told);
    })

pub put_part-overflow_add-pending : goal.put_part-overflow_add-pending
put_part-overflow_add-pending t c = omega (arith, c.part_parts.ensures, part_parts_few c.element-code.result)

pub put_part-overflow_add-at-in-loop-pending-2 : goal.put_part-overflow_add-at-in-loop-pending-2
put_part-overflow_add-at-in-loop-pending-2 t c =
    omega (arith, c.part_width-at.ensures, (part_width_small c.element-code.result).1)

pub put_part-loop-pending-preserved : goal.put_part-loop-pending-preserved
put_part-loop-pending-preserved t c =
    let read = c.element-code.ensures in (
      parting_turn c.loop-pending.invariant.0 c.loop-pending-test.true c.loop-pending.invariant.1 (turned t c)
          (c.part_parts.ensures ∙ ap part_parts read) (c.part_width-at.ensures ∙ ap part_width read),
      short t c,
    )

pub put_part-returns : goal.put_part-returns
put_part-returns t c =
    record {
      few = c.loop-pending.invariant.1;
      told = parting_end c.loop-pending.invariant.0 (λ some room. omega (arith, c.loop-pending-test.false));
    }

-- ---- `put_variable`

pub put_variable-returns-then-element-x : goal.put_variable-returns-then-element-x
put_variable-returns-then-element-x t c =
    record {
      few = c.put_two.ensures.few;
      told = own_told _ _ _ c.step_at.result.quantifiers _ (omega (arith, c.if-element-x.true, c.element.ensures))
          (ap (λ (x : Listed). x.quantifiers) c.step_at.ensures) refl c.put_two.ensures.told;
    }

pub put_variable-returns-then-step-eq1 : goal.put_variable-returns-then-step-eq1
put_variable-returns-then-step-eq1 t c =
    record {
      few = c.put_two-then-step-eq1.ensures.few;
      told = first_told _ _ _ (omega (arith, c.if-element-x.false, c.element.ensures)) c.if-step-eq1.true
          c.put_two-then-step-eq1.ensures.told;
    }

pub put_variable-returns : goal.put_variable-returns
put_variable-returns t c =
    let second : 2 ≤ c.args.step = omega (arith, c.if-step-eq1.false) in
    let place = ap₂ (λ (m n : ℕ). get_or c.args.self.places.now (5 * m + 1 + n) 0) c.from-slot.ensures c.from.ensures in
    record {
      few = c.put_part.ensures.few;
      told = later_told _ _ _ _ _ c.step_at-2.result.slot (omega (arith, c.if-element-x.false, c.element.ensures))
          (omega (arith, second)) refl (ap (λ (x : Listed). x.slot) c.step_at-2.ensures)
          (c.element-2.ensures ∙ place) c.put_part.ensures.told;
    }
