-- `codes::parts_of` meets its contract.
-- Each arm is a branch of `parts_of`; every other code has two parts.
use Prim.Native.Nat.{ℕ, min}
use mathlib.Core.Path.{◌≡◌, sym, ap, ◌∙◌, refl}
use native.Mathlib.Omega.{arith}
use borrow.Author.Tests.{ne_eqb}
use Rattle.preparing.specs.Ends.{parts_of}
use Rattle.preparing.proofs.codes.parts_of.Goals as goal

-- the code is known
known : {code key : ℕ} (n : ℕ) → code ≡ key → parts_of key n ≡ parts_of code n
known n h = ap (λ (x : ℕ). parts_of x n) (sym h)

pub returns-in-26 : goal.returns-in-26
unfolding parts_of
returns-in-26 c =
    c.min.ensures ∙ ap (λ (x : ℕ). min x 4) c.from.ensures ∙
    known c.args.n c.in-26.is

pub returns-in_default : goal.returns-in_default
unfolding parts_of
returns-in_default c =
    simp (
      ne_eqb c.args.code 0x10 (λ h. omega arith),
      ne_eqb c.args.code 0x11 (λ h. omega arith),
      ne_eqb c.args.code 0x14 (λ h. omega arith),
      ne_eqb c.args.code 0x15 (λ h. omega arith),
      ne_eqb c.args.code 0x1a (λ h. omega arith),
      ne_eqb c.args.code 0x20 (λ h. omega arith),
      ne_eqb c.args.code 0x21 (λ h. omega arith),
    )
    refl

pub returns-in-16 : goal.returns-in-16
unfolding parts_of
returns-in-16 c = known c.args.n c.in-16.is

pub returns-in-17 : goal.returns-in-17
unfolding parts_of
returns-in-17 c = known c.args.n c.in-17.is

pub returns-in-20 : goal.returns-in-20
unfolding parts_of
returns-in-20 c = known c.args.n c.in-20.is

pub returns-in-21 : goal.returns-in-21
unfolding parts_of
returns-in-21 c = known c.args.n c.in-21.is

pub returns-in-32 : goal.returns-in-32
unfolding parts_of
returns-in-32 c = known c.args.n c.in-32.is

pub returns-in-33 : goal.returns-in-33
unfolding parts_of
returns-in-33 c = known c.args.n c.in-33.is
