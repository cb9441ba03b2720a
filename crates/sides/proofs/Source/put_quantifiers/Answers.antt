-- `sides::Source::put_quantifiers` meets its contract.
-- Before turn i the quantifiers from number i on are still to be put.
use native.Mathlib.Omega.{arith}
use Prim.Native.Nat.{ℕ, ◌+◌, ◌*◌}
use mathlib.Core.Path.{refl, ◌∙◌, ap}
use lib.ListN.{get_or}
use Rattle.sides.proofs.Quantifying.{quantifying_start, quantifying_more, quantified, quantified_full}
use Rattle.sides.proofs.Source.put_quantifiers.Goals as goal

pub loop-i-init : goal.loop-i-init
loop-i-init c = (quantifying_start _ _ _ _ _ _, c.requires)

pub returns-in_err-c : goal.returns-in_err-c
returns-in_err-c c =
    let place = ap (λ (n : ℕ). get_or c.args.self.sheet.now (n + 2 + c.loop-i.i) 0) (ap (λ (n : ℕ). 256 * n) c.from.ensures) in
    let more = quantifying_more c.loop-i.invariant.0 c.loop-i-test.true c.either_code-code.ensures
    (c.element.ensures ∙ place) c.in_err-c.ensures.told in
    rw c.from_residual.ensures
    (record { few = tt; told = quantified_full more c.args.slot refl (c.from-own.ensures ∙ c.own.ensures) (omega arith) })

pub loop-i-preserved : goal.loop-i-preserved
loop-i-preserved c =
    let place = ap (λ (n : ℕ). get_or c.args.self.sheet.now (n + 2 + c.loop-i.i) 0) (ap (λ (n : ℕ). 256 * n) c.from.ensures) in (
      quantifying_more c.loop-i.invariant.0 c.loop-i-test.true c.either_code-code.ensures
          (c.element.ensures ∙ place) c.in_ok-c.ensures.told,
      c.in_ok-c.ensures.few,
    )

pub returns : goal.returns
returns c =
    record {
      few = c.loop-i.invariant.1;
      told = quantified c.loop-i.invariant.0 c.args.slot refl (c.from-own.ensures ∙ c.own.ensures) c.loop-i-test.false;
    }
