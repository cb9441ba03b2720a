-- `truth::put` meets its contract: where the bit is not b already, xor with 2 ^ (j % 64) turns it over and leaves the others.
-- From 512 on both sides are the set itself.
use mathlib.Core.Path.{◌≡◌, refl, sym, ◌∙◌}
use Prim.Native.Nat.{◌*◌, ◌%◌, ◌^◌}
use native.Mathlib.Nat.{one-mul}
use native.Mathlib.Omega.{arith}
use lib.Dec.{lit<}
use lib.Pow.{shl_exact}
use lib.ListN.{length}
use borrow.Author.Rules.{rules}
use borrow.Author.Tests.{lt-ltb, le-ltb}
use Rattle.truth.proofs.Flips.{put_flips, put_keeps, beq_same, beq_other}
use Rattle.truth.proofs.put.Goals as goal

pub returns-then-has-b : goal.returns-then-has-b
returns-then-has-b c =
    let a = c.args in
    let n : length a.t ≡ 8 = search rules in
    let e : 1 * 2 ^ (a.j % 64) % 2 ^ 64 ≡ 2 ^ (a.j % 64) = shl_exact 1 (a.j % 64) 64 (lit< tt) (omega arith)
    ∙ one-mul (2 ^ (a.j % 64)) in
    rw (e, lt-ltb a.j 512 (omega arith)) (put_flips a.t a.j a.b (omega arith)
    (λ q. beq_other c.has.result a.b c.if-has-b.true (c.has.ensures ∙ q)))

pub returns-else-has-b : goal.returns-else-has-b
returns-else-has-b c =
    let a = c.args in
    rw (lt-ltb a.j 512 (omega arith))
    (put_keeps _ a.j a.b (sym c.has.ensures ∙ beq_same c.has.result a.b c.if-has-b.false))

pub returns-then-j-ge512 : goal.returns-then-j-ge512
returns-then-j-ge512 c = rw (le-ltb _ _ c.if-j-ge512.true) refl
