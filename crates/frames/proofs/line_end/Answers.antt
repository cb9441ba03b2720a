-- `frames::line_end` meets its contract.
-- The first 0a of what is left ends the line.
use Prim.Native.Nat.{◌-◌}
use native.Mathlib.Omega.{arith}
use mathlib.Core.Path.{◌≡◌, refl, sym, ap, ◌∙◌}
use lib.ListN.{length, take, drop, length-drop}
use lib.Seq.{take_all}
use borrow.Author.Tests.{tests}
use Rattle.std.proofs.Common.{rules}
use Rattle.std.proofs.lemmas.Iterator.{IsFirst-from_position, YieldsList-from_slice, index_from_first}
use Rattle.frames.specs.FrameAt.{first_length}
use Rattle.frames.proofs.Ends.{size_hit, size_past}
use Rattle.frames.proofs.At.{first_length_most}
use Rattle.frames.proofs.line_end.Goals as goal

pub returns : goal.returns
unfolding first_length
returns c =
    let t = c.args.text.now in
    let left : take (length t - c.args.at) (drop c.args.at t) ≡ drop c.args.at t =
    take_all _ (drop c.args.at t) (omega (arith, length-drop c.args.at t)) in
    let first = IsFirst-from_position _ _ _ (λ x. x ≡ 10) (λ x. x ≡ 10 → ⊥) c.position.ensures.ran
    (YieldsList-from_slice (take (length t - c.args.at) (drop c.args.at t)) cc)
    (λ x q k. search (rules, tests)) (λ x q k. search (rules, tests)) in
    let size = index_from_first first_length _ _ refl size_hit size_past _ _ first in
    let same = c.unwrap_or.ensures ∙ sym size ∙ ap first_length left in
    omega (arith, same, first_length_most (drop c.args.at t), length-drop c.args.at t)
