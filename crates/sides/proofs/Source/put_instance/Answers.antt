-- `sides::Source::put_instance` meets its contract.
-- Before turn i the arguments from number i on are still to be put.
use native.Mathlib.Omega.{arith}
use Rattle.sides.proofs.EmittedLaws.{puts_full}
use Rattle.sides.proofs.Instancing.{instancing_start, instancing_more, instanced, instanced_full}
use Rattle.sides.proofs.Source.put_instance.Goals as goal

pub returns-in_err-c : goal.returns-in_err-c
returns-in_err-c c =
    let none = instancing_start _ _ _ _ _ 257 _ c.element-k.ensures (omega arith) in
    rw c.from_residual.ensures (record {
      few = tt;
      told = instanced_full none c.in_err-c.ensures.told (puts_full (omega arith) (omega arith)) (omega arith);
    })

pub returns-in_err-c-2 : goal.returns-in_err-c-2
returns-in_err-c-2 c =
    let none = instancing_start _ _ _ _ _ 257 _ c.element-k.ensures (omega arith) in
    rw c.from_residual-in_err-c-2.ensures
    (record { few = tt; told = instanced_full none c.in_ok-c.ensures.told c.in_err-c-2.ensures.told (omega arith) })

pub loop-i-init : goal.loop-i-init
loop-i-init c =
    (instancing_start _ _ _ _ _ _ _ c.element-k.ensures (omega (arith, c.in_ok-c-2.ensures.few)), c.in_ok-c-2.ensures.few)

pub returns-in_err-c-3 : goal.returns-in_err-c-3
returns-in_err-c-3 c =
    let more = instancing_more c.loop-i.invariant.0 c.loop-i-test.true c.in_err-c-3.ensures.told in
    rw c.from_residual-in_err-c-3.ensures
    (record { few = tt; told = instanced_full more c.in_ok-c.ensures.told c.in_ok-c-2.ensures.told (omega arith) })

pub loop-i-preserved : goal.loop-i-preserved
loop-i-preserved c =
    (instancing_more c.loop-i.invariant.0 c.loop-i-test.true c.in_ok-c-3.ensures.told, c.in_ok-c-3.ensures.few)

pub returns : goal.returns
returns c =
    record {
      few = c.loop-i.invariant.1;
      told = instanced c.loop-i.invariant.0 c.in_ok-c.ensures.told c.in_ok-c-2.ensures.told c.loop-i-test.false;
    }
