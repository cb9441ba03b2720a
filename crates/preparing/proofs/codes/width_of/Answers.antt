-- `codes::width_of` meets its contract.
-- Each arm is a branch of `width_of`; of the other codes those of formulas stand alone.
use mathlib.Core.Path.{sym, ap}
use native.Mathlib.Omega.{arith}
use borrow.Author.Tests.{ne_eqb, lt-ltb, le-ltb}
use Rattle.preparing.specs.Ends.{width_of}
use Rattle.preparing.proofs.codes.width_of.Goals as goal

pub returns-then-code-lt32 : goal.returns-then-code-lt32
unfolding width_of
returns-then-code-lt32 c =
    simp (
      ne_eqb c.args.code 0x14 (λ h. omega arith),
      ne_eqb c.args.code 0x15 (λ h. omega arith),
      ne_eqb c.args.code 0x1a (λ h. omega arith),
      lt-ltb _ 0x20 c.if-code-lt32.true,
    )

pub returns-else-code-lt32 : goal.returns-else-code-lt32
unfolding width_of
returns-else-code-lt32 c =
    simp (
      ne_eqb c.args.code 0x14 (λ h. omega arith),
      ne_eqb c.args.code 0x15 (λ h. omega arith),
      ne_eqb c.args.code 0x1a (λ h. omega arith),
      le-ltb _ 0x20 c.if-code-lt32.false,
    )

pub returns-in-20 : goal.returns-in-20
unfolding width_of
returns-in-20 c = ap width_of (sym c.in-20.is)

pub returns-in-21 : goal.returns-in-21
unfolding width_of
returns-in-21 c = ap width_of (sym c.in-21.is)

pub returns-in-26 : goal.returns-in-26
unfolding width_of
returns-in-26 c = ap width_of (sym c.in-26.is)
