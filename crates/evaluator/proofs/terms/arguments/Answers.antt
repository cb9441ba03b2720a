-- `evaluator::terms::arguments` meets its contract.
-- What is still to be put behind the terms that are there makes the whole.
use Prim.Native.Nat.{◌+◌, ◌-◌}
use native.Mathlib.Omega.{arith}
use mathlib.Core.Path.{◌≡◌, ap}
use Rattle.formulas.specs.declared.Tuple.{Tuple}
use Rattle.looked.specs.declared.Looked.{Looked}
use Rattle.evaluator.proofs.TermLaws as law
use Rattle.evaluator.proofs.terms.arguments.Goals as goal

pub loop-init : goal.loop-init
loop-init c =
    let all : c.args.n - 0 ≡ c.args.n = omega arith in
    (omega (arith, ap (λ (x : Looked Tuple). x.value.count) c.alone-got.ensures), λ r t. rw all at t)

-- there is place for one more
pub loop-preserved : goal.loop-preserved
loop-preserved c =
    let n = c.args.n in
    let put = c.push.ensures.1 (omega arith) in
    let rest : n - (c.loop.counter + 1) ≡ n - c.loop.counter - 1 = omega arith in (
      omega (arith, put.0),
      λ r t. c.loop.invariant.1 r (law.one_more _ _ _ (omega arith) c.end_at-next.ensures c.term-a.ensures put.1
          c.both.ensures (rw rest at t)),
    )

pub returns : goal.returns
returns c =
    let all = rw c.alone-got.ensures at (c.loop.invariant.1 _ (law.no_terms _ _ c.loop.got (omega arith))) in
    (all.values, all.looked)
