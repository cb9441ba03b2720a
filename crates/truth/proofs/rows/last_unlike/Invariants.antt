-- `rows::last_unlike` meets its contract: the last number below 512 is the last below the words that were passed.
-- A word that is 0 has none, and the highest digit of any other word is the last.
use Rattle.truth.specs.Bits.{bit_of}
use Rattle.truth.specs.Rows.{row_of, unlike_in}
use Rattle.truth.proofs.RowWords.{Passed}
use Rattle.truth.proofs.rows.last_unlike.Given as goal

abbrev pub invariant-loop-word : goal.invariant-loop-word
invariant-loop-word l = Passed (unlike_in (row_of l.rows l.i) (bit_of l.t) l.b) l.word
