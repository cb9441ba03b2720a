-- `processes::with_ranges` meets its contract.
-- What was put and what is left make the whole; four behind four find place.
use Prim.Native.Nat.{ℕ, min}
use native.Mathlib.Omega.{arith}
use mathlib.Core.Path.{◌≡◌, ap, ◌∙◌}
use mathlib.Core.List.{◌++◌}
use Rattle.formulas.specs.Contract.{part}
use Rattle.formulas.specs.Tuples.{items}
use Rattle.inputs.specs.Inputs.{count_of}
use Rattle.processes.proofs.CountedBytes.{put_start, put_more, put_end}
use Rattle.processes.proofs.summands.with_ranges.Goals as goal

pub loop-i-init : goal.loop-i-init
loop-i-init c = put_start _ _ (omega (arith, c.min-count.ensures))

pub loop-i-preserved : goal.loop-i-preserved
loop-i-preserved c =
    put_more c.loop-i.invariant c.requires c.loop-i-test.true
    c.element-in-loop-i.ensures c.push-all.ensures

pub returns : goal.returns
returns c =
    let inv = c.loop-i.invariant in
    let a = c.args in
    let same = c.from.ensures ∙ c.element.ensures in
    let number : c.min-count.result ≡ min (count_of a.frame.now) 4 =
    c.min-count.ensures ∙ ap (λ (x : ℕ). min x 4) same in (
      put_end inv c.loop-i-test.false ∙ ap (λ (x : ℕ). items a.got ++ part a.frame.now 2 x) number,
      omega (arith, inv.near, inv.few, inv.number),
    )
