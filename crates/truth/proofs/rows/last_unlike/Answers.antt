-- `rows::last_unlike` meets its contract: the last number below 512 is the last below the words that were passed.
-- A word that is 0 has none, and the highest digit of any other word is the last.
use Prim.Native.Nat.{◌<◌, ◌≤◌}
use native.Mathlib.Omega.{arith}
use mir.Syntax.{w64}
use mir.Val.{Fits}
use lib.Count.{count_leading_zeros}
use borrow.Author.Rules.{rules}
use Rattle.truth.specs.Bits.{bit_of}
use Rattle.truth.proofs.RowWords.{passed_none, passed_all, passed_more, passed_top, leading_small}
use Rattle.truth.proofs.RowWords.{word_unlike, past_unlike}
use Rattle.truth.proofs.RowWords.{none_last}
use Rattle.truth.proofs.rows.last_unlike.Goals as goal

pub returns-then-rows-i : goal.returns-then-rows-i
returns-then-rows-i c =
    let a = c.args in
    none_last _ (λ k l. past_unlike a.rows.now a.i (bit_of a.t) a.b k c.if-rows-i.true)

-- the bits of a turn's word are not all 0
found : (c : goal.Then-bits-ne0) → 0 < c.unlike-bits.result
found c = let h = c.if-bits-ne0.true in omega (arith, h)

bits_fit : (c : goal.Then-bits-ne0) → Fits w64 c.unlike-bits.result
bits_fit c = search rules

zeros : (c : goal.Then-bits-ne0) → count_leading_zeros 64 c.unlike-bits.result ≤ 63
zeros c = leading_small _ (found c) (bits_fit c).fits

pub returns-then-bits-ne0 : goal.returns-then-bits-ne0
returns-then-bits-ne0 c =
    passed_top c.loop-word.invariant (omega arith)
    (word_unlike _ _ _ _ _ _ _ (omega arith) c.word_at.ensures c.unlike-bits.ensures) (found c) (bits_fit c).fits

pub loop-word-preserved : goal.loop-word-preserved
loop-word-preserved c =
    passed_more c.loop-word.invariant (omega arith)
    (word_unlike _ _ _ _ _ _ _ (omega arith) c.word_at.ensures c.unlike-bits.ensures) c.if-bits-ne0.false

pub loop-word-init : goal.loop-word-init
loop-word-init c = passed_none

pub overflow_cast-result : goal.overflow_cast-result
overflow_cast-result c = omega (arith, zeros c)

pub overflow_sub-result : goal.overflow_sub-result
overflow_sub-result c = omega (arith, zeros c)

pub overflow_add-result : goal.overflow_add-result
overflow_add-result c = omega (arith, zeros c)

pub returns : goal.returns
returns c = passed_all c.loop-word.invariant (omega arith)
