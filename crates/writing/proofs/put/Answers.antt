-- `writing::put` meets its contract.
-- What is still to be put from a place on, over what is there, is all the bytes over what was there.
use Prim.Native.Nat.{ℕ, suc, ◌+◌, ◌<◌}
use native.Mathlib.Omega.{arith}
use native.Mathlib.Nat.{add-zero}
use native.Mathlib.Numerals.{add-one}
use mathlib.Core.Path.{◌≡◌, refl, sym, ◌∙◌}
use mathlib.Core.List.{List}
use lib.ListN.{length, drop, get_or, set, length-set, drop_of_length-le}
use lib.Seq.{sets, drop-cons}
use borrow.Author.Tests.{leb-true}
use Rattle.writing.proofs.Laws.{no_room, with_room}
use Rattle.writing.proofs.put.Goals as goal

step : (out bytes : List ℕ) (at i : ℕ) → i < length bytes
    → sets (set out (at + i) (get_or bytes i 0)) (at + (i + 1)) (drop (i + 1) bytes) ≡ sets out (at + i) (drop i bytes)
step out bytes at i h =
    let next : at + suc i ≡ suc (at + i) = omega arith in
    rw (drop-cons bytes i 0 h, add-one i, next) refl

pub returns-then-not-fits : goal.returns-then-not-fits
returns-then-not-fits c = no_room _ _ _ (sym c.fits.ensures ∙ c.if-not-fits.true)

pub loop-i-init : goal.loop-i-init
loop-i-init c =
    record {
      near = omega arith;
      room = leb-true _ _ (sym c.fits.ensures ∙ c.if-not-fits.false);
      same = refl;
      left = rw add-zero refl;
    }

pub loop-i-preserved : goal.loop-i-preserved
loop-i-preserved c =
    let loop = c.loop-i in
    record {
      near = omega arith;
      room = loop.invariant.room;
      same = length-set loop.out _ _ ∙ loop.invariant.same;
      left = step loop.out _ _ loop.i c.loop-i-test.true ∙ loop.invariant.left;
    }

pub returns : goal.returns
returns c =
    let loop = c.loop-i in
    with_room loop.invariant.room (refl, rw (drop_of_length-le _ c.loop-i-test.false) at loop.invariant.left)
