-- `rounds::settle` meets its contract.
-- Where something has changed the later equations are gone through one by one; those of the other sign go back.
use mathlib.Core.Path.{refl, sym, ap, ◌∙◌}
use mathlib.Core.Bool.{not}
use native.Mathlib.Omega.{arith}
use borrow.Author.Tests.{not-true, not-false}
use Rattle.truth.proofs.Bits.{beq_eq}
use Rattle.instances.proofs.GraphLaws.{other_than}
use Rattle.solving.proofs.RoundsLaws.{settling_none, settling_same, settling_back, settles_same, settles_changed}
use Rattle.solving.proofs.rounds.settle.Goals as goal
use Rattle.solving.proofs.rounds.settle.Goals.{then-is_greatest-sign, else-is_greatest-sign}

pub returns-then-not-p : goal.returns-then-not-p
returns-then-not-p c =
    settles_same (record { truth = refl; dirty = refl; left = refl; unchanged = refl }) (not-true _ c.if-not-p.true)

pub loop-m-init : goal.loop-m-init
loop-m-init c = settling_none refl

pub loop-m-preserved : goal.loop-m-preserved
loop-m-preserved c =
    let before = c.loop-m.invariant in
    let mine = c.is_greatest in
    let sign = c.is_greatest-sign in
    elim c.if-is_greatest-sign.branch [
      | then-is_greatest-sign w ↦
          rw w.s-is (settling_back before (omega arith) (omega arith)
          (sym mine.ensures ∙ other_than mine.result sign.result w.if-is_greatest-sign.true ∙ ap not sign.ensures)
          (rw sign.ensures at w.set_back-s.ensures))
      | else-is_greatest-sign w ↦
          rw w.s-is (settling_same before (omega arith)
          (sym mine.ensures ∙ beq_eq mine.result sign.result (not-false _ w.if-is_greatest-sign.false) ∙ sign.ensures))
    ]

pub returns : goal.returns
returns c =
    settles_changed (record { truth = refl; dirty = refl; left = refl; unchanged = refl }) c.loop-m.invariant (omega arith)
