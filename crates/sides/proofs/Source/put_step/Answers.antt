-- `sides::Source::put_step` meets its contract.
-- Quantifiers, a code and the condition, each behind the one before; the step is written before the condition is put.
use Prim.Native.Nat.{ℕ, ◌+◌, ◌≤◌}
use native.Mathlib.Omega.{arith}
use mathlib.Core.Path.{◌≡◌, ap}
use lib.Dec.{eqb}
use lib.ListN.{length, set}
use borrow.Author.Rules.{rules}
use Rattle.sides.specs.Steps.{listed}
use Rattle.sides.proofs.EmittedLaws.{puts_full}
use Rattle.sides.proofs.SidesTold.{byte_as, step_fifth, step_long, step_told}
use Rattle.sides.proofs.Source.put_step.Goals as goal

pub returns-then-from-gt4 : goal.returns-then-from-gt4
returns-then-from-gt4 c =
    record {
      few = tt;
      told = step_fifth _ _ _ _ c.own-own.result _ _ _ c.own-own.ensures
          (omega (arith, c.if-from-gt4.true, c.from.ensures, c.from-2.ensures));
    }

pub returns-in_err-c : goal.returns-in_err-c
returns-in_err-c c =
    let few : c.args.spot.q + c.own-own.result ≤ 4 = omega (arith, c.if-from-gt4.false, c.from.ensures, c.from-2.ensures) in
    rw c.from_residual.ensures (record {
      few = tt;
      told = step_long _ _ _ _ c.own-own.result _ _ _ c.own-own.ensures (eqb c.code-all.result 0x30) few
          (omega (arith, c.requires.most)) (ap (λ (b : ℕ). eqb b 0x30) c.code-all.ensures) c.in_err-c.ensures.told
          (puts_full (omega arith) (omega arith)) (omega arith);
    })

pub returns-in_err-c-2 : goal.returns-in_err-c-2
returns-in_err-c-2 c =
    let few : c.args.spot.q + c.own-own.result ≤ 4 = omega (arith, c.if-from-gt4.false, c.from.ensures, c.from-2.ensures) in
    rw c.from_residual-in_err-c-2.ensures (record {
      few = tt;
      told = step_long _ _ _ _ c.own-own.result _ _ _ c.own-own.ensures (eqb c.code-all.result 0x30) few
          (omega (arith, c.requires.most)) (ap (λ (b : ℕ). eqb b 0x30) c.code-all.ensures) c.in_ok-c.ensures.told
          (byte_as c.either_code.ensures c.in_err-c-2.ensures.told) (omega arith);
    })

pub returns : goal.returns
returns c =
    let few : c.args.spot.q + c.own-own.result ≤ 4 = omega (arith, c.if-from-gt4.false, c.from.ensures, c.from-2.ensures) in
    let long : length c.args.steps.now ≡ 128 = search rules in
    record {
      few = c.put_part.ensures.few;
      told = step_told _ _ _ _ c.own-own.result _ _ _ c.own-own.ensures (eqb c.code-all.result 0x30) few
          (omega (arith, c.requires.most)) (ap (λ (b : ℕ). eqb b 0x30) c.code-all.ensures) c.in_ok-c.ensures.told
          (byte_as c.either_code.ensures c.in_ok-c-2.ensures.told) c.requires long c.in_ok-c-2.ensures.few
          (ap (λ (n : ℕ). set c.args.steps.now n (listed c.args.slot c.args.spot.q)) c.from-3.ensures)
          c.put_part.ensures.told;
    }
