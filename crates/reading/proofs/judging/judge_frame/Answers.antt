-- `reading::judge_frame` meets its contract.
-- One branch for each first byte.
use native.Mathlib.Omega.{arith}
use mathlib.Core.Path.{refl}
use borrow.Author.Tests.{ne_eqb}
use Rattle.reading.specs.Reading.{frame_refusal}
use Rattle.reading.proofs.judging.judge_frame.Goals as goal

pub returns-in_default : goal.returns-in_default
unfolding frame_refusal
returns-in_default c =
    rw (
      ← c.element.ensures,
      ne_eqb c.element.result 1 (λ h. omega arith),
      ne_eqb c.element.result 2 (λ h. omega arith),
      ne_eqb c.element.result 3 (λ h. omega arith),
    ) refl

pub returns-in-1 : goal.returns-in-1
unfolding frame_refusal
returns-in-1 c = rw (← c.element.ensures, c.in-1.is) c.judge_equation.ensures

pub returns-in-2 : goal.returns-in-2
unfolding frame_refusal
returns-in-2 c = rw (← c.element.ensures, c.in-2.is) c.judge_start.ensures

pub returns-in-3 : goal.returns-in-3
unfolding frame_refusal
returns-in-3 c = rw (← c.element.ensures, c.in-3.is) refl
