-- `rows::row_has` meets its contract: below 512 the code is the definition, at word i * 8 + k / 64.
-- From 512 on, and in a row that begins past the last word, there is nothing.
use mathlib.Core.Path.{◌≡◌, refl, sym}
use Prim.Native.Nat.{◌+◌, ◌*◌, ◌/◌, ◌%◌, ◌<◌, ◌≤◌}
use native.Mathlib.Omega.{arith}
use borrow.Author.Tests.{lt-ltb, le-ltb}
use Rattle.truth.specs.Bits.{bit_of}
use Rattle.truth.specs.Rows.{row_of}
use Rattle.truth.proofs.RowLaws.{row_past}
use Rattle.truth.proofs.rows.row_has.Goals as goal

pub returns-then-k-ge512 : goal.returns-then-k-ge512
unfolding row_of
returns-then-k-ge512 c =
    let k = c.args.k in
    let big : 512 ≤ k = omega arith in
    rw (le-ltb k 512 big) refl

pub returns-then-rows-i : goal.returns-then-rows-i
returns-then-rows-i c = sym (row_past _ _ _ c.if-rows-i.true)

pub returns : goal.returns
unfolding row_of bit_of
returns c =
    let a = c.args in
    let w : (a.i * 512 + a.k) / 64 ≡ a.i * 8 + a.k / 64 = omega arith in
    let m : (a.i * 512 + a.k) % 64 ≡ a.k % 64 = omega arith in
    let small : a.k < 512 = omega arith in
    rw (lt-ltb a.k 512 small, w, m, ← c.word_at.ensures) refl
