-- `rows::with_unlike` meets its contract: each turn joins one word.
-- The eight words are those of the set that is promised, and it has nothing from 512 on.
use mathlib.Core.Path.{◌≡◌, refl, ap, ◌∙◌}
use Prim.Native.Nat.{ℕ}
use native.Mathlib.Omega.{arith}
use lib.Bits.{bit_or}
use lib.ListN.{length}
use borrow.Author.Rules.{rules}
use Rattle.truth.specs.Bits.{bit_of}
use Rattle.truth.proofs.RowWords.{fill_none, fill_more, by_words}
use Rattle.truth.proofs.RowWords.{word_unlike, past_unlike, word_joined, joined_none, joined_past}
use Rattle.truth.proofs.rows.with_unlike.Goals as goal

pub returns-then-rows-i : goal.returns-then-rows-i
returns-then-rows-i c =
    let a = c.args in
    joined_none _ _ (λ k. past_unlike a.rows.now a.i (bit_of a.t) a.b k c.if-rows-i.true)

pub loop-word-preserved : goal.loop-word-preserved
loop-word-preserved c =
    let t = c in
    let f = t.loop-word.invariant.1 in
    let kept = f.after t.loop-word.word (omega arith) in (
      omega arith,
      fill_more f (omega arith) (search rules) _ _ refl
          (word_joined _ _ _ _ _
          (word_unlike _ _ _ _ _ _ _ (omega arith) c.word_at.ensures c.unlike.ensures)
          (ap (λ (x : ℕ). bit_or x c.unlike.result) kept)) (omega arith),
    )

pub returns : goal.returns
returns c =
    let f = c.loop-word.invariant.1 in
    let a = c.args in
    let n : length a.d ≡ 8 = search rules in
    by_words _ _ (f.size ∙ n) (λ w l. f.done w (omega arith) (omega arith))
    (λ k l. joined_past a.d a.rows.now a.i (bit_of a.t) a.b k n l)

pub loop-word-init : goal.loop-word-init
loop-word-init c = (omega arith, fill_none)
