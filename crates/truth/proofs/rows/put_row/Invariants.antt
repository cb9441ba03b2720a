-- `rows::put_row` meets its contract: each turn writes one word of the row.
-- Where the row is not there with all of its words both sides are the list itself.
use Prim.Native.Nat.{◌+◌, ◌*◌, ◌≤◌}
use Rattle.truth.proofs.RowWords.{FromRow, Filled}
use Rattle.truth.proofs.rows.put_row.Given as goal

abbrev pub invariant-loop-word : goal.invariant-loop-word
invariant-loop-word l =
    (l.word ≤ 8) × Filled (FromRow l.t l.i) l.initial.ws (l.i * 8) (l.i * 8 + l.word) l.ws
