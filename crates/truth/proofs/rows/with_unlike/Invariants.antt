-- `rows::with_unlike` meets its contract: each turn joins one word.
-- The eight words are those of the set that is promised, and it has nothing from 512 on.
use Prim.Native.Nat.{◌≤◌}
use Rattle.truth.specs.Bits.{bit_of}
use Rattle.truth.specs.Rows.{row_of, unlike_in, joined}
use Rattle.truth.proofs.RowWords.{Word, Filled}
use Rattle.truth.proofs.rows.with_unlike.Given as goal

abbrev pub invariant-loop-word : goal.invariant-loop-word
invariant-loop-word l =
    (l.word ≤ 8)
    × Filled (Word (joined (bit_of l.initial.s) (unlike_in (row_of l.rows l.i) (bit_of l.t) l.b))) l.initial.s 0 l.word l.s
