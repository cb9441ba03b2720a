-- `replacer::command::named_by` meets its contract.
-- What the digits say that are left, behind the number so far, is what all of them say.
use Prim.Native.Nat.{ℕ, ◌+◌, ◌*◌, min}
use native.Mathlib.Omega.{arith}
use mathlib.Core.Path.{sym, ap, ◌∙◌}
use Rattle.replacer.proofs.CommandWords.{number_none, number_more}
use Rattle.replacer.proofs.command.named_by.Goals as goal

pub loop-c-preserved : goal.loop-c-preserved
loop-c-preserved c =
    let loop = c.loop-c in
    let digit = c.from-digit.ensures ∙ c.saturating_sub.ensures in
    let next = c.min-n.ensures ∙ ap (λ (d : ℕ). min (10 * loop.n + d) 8) digit in
    record {
      low = omega (arith, next);
      left = rw next (number_more loop.n _ loop.c-index c.loop-c-test.true ∙ loop.invariant.left);
    }

pub returns : goal.returns
returns c =
    let loop = c.loop-c in
    sym (number_none _ _ _ loop.invariant.low c.loop-c-test.false) ∙ loop.invariant.left
