-- `reading::first_misfit` meets its contract.
-- All before the present one fit.
use Prim.Native.Nat.{◌+◌, ◌-◌, ◌*◌}
use native.Mathlib.Omega.{arith}
use native.Mathlib.Decide.{ℕ_discrete}
use mathlib.Core.Path.{◌≡◌, sym, ◌∙◌}
use lib.ListN.{get_or}
use Rattle.formulas.specs.Bodies.{blank}
use Rattle.reading.specs.Contract.{fits_at, all_fit, misfit}
use Rattle.reading.specs.Records.{model_told}
use Rattle.reading.proofs.ending.first_misfit.Goals as goal

pub loop-j-preserved : goal.loop-j-preserved
unfolding fits_at
loop-j-preserved c =
    let said : let a = c.args in c.is_fitting.result ≡ fits_at (model_told a.m) a.bodies.now c.loop-j.j =
    let a = c.args in
    let j = c.loop-j.j in
    let length = (get_or a.m.equations j blank).length in
    let n : 256 * j + length - 256 * j ≡ length = omega arith in
    rw n at c.is_fitting.ensures in
    let loop = c.loop-j in
    let fit = sym said ∙ c.if-not-is_fitting.false in
    λ i h. elim (ℕ_discrete i loop.j) [
      | yes e ↦ rw e fit
      | no d ↦ loop.invariant i (omega (arith, d))
    ]

pub returns-then-not-is_fitting : goal.returns-then-not-is_fitting
unfolding fits_at
returns-then-not-is_fitting c =
    let said : let a = c.args in c.is_fitting.result ≡ fits_at (model_told a.m) a.bodies.now c.loop-j.j =
    let a = c.args in
    let j = c.loop-j.j in
    let length = (get_or a.m.equations j blank).length in
    let n : 256 * j + length - 256 * j ≡ length = omega arith in
    rw n at c.is_fitting.ensures in
    misfit c.loop-j-test.true c.loop-j.invariant (sym said ∙ c.if-not-is_fitting.true)

pub returns : goal.returns
returns c = all_fit (λ j l. c.loop-j.invariant j (omega arith))
