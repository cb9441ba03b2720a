-- `looked::only` meets its contract.
-- The eighth power of 2 is the first that a byte does not hold.
use Prim.Native.Nat.{◌^◌, ◌<◌}
use native.Mathlib.Nat.{mod-eq_of_lt, one-mul}
use mathlib.Core.Path.{refl}
use lib.Pow.{pow-lt}
use borrow.Author.Tests.{lt-ltb, le-ltb}
use Rattle.looked.specs.Looked.{only}
use Rattle.looked.proofs.only.Goals as goal

pub returns-then-i-lt8 : goal.returns-then-i-lt8
unfolding only
returns-then-i-lt8 c =
    let small : 2 ^ c.args.i < 256 = pow-lt c.if-i-lt8.true in
    rw (one-mul (2 ^ c.args.i), lt-ltb _ 8 c.if-i-lt8.true) (mod-eq_of_lt small)

pub returns-else-i-lt8 : goal.returns-else-i-lt8
unfolding only
returns-else-i-lt8 c = rw (le-ltb _ 8 c.if-i-lt8.false) refl
