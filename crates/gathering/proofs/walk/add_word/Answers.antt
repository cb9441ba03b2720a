-- A word is added to a table: each way out is a law of `Adding`.
-- The lookup tells whether the word stands among those found.
use native.Mathlib.Omega.{arith}
use mathlib.Core.Path.{sym}
use lib.Seq.{length-take-le}
use Rattle.gathering.proofs.Adding.{New, adds_full, adds_there, adds_past, adds_behind}
use Rattle.gathering.proofs.walk.add_word.Goals as goal

pub returns-then-table-n : goal.returns-then-table-n
returns-then-table-n c = adds_full c.args.table.now c.args.found.now c.args.w c.requires c.if-table-n.true

pub returns-then-at-n : goal.returns-then-at-n
returns-then-at-n c =
    let a = c.args in
    adds_there a.table.now a.found.now a.w c.if-table-n.false c.lookup-at.ensures c.if-at-n.true

pub slice_bounds-lookup-end-2 : goal.slice_bounds-lookup-end-2
slice_bounds-lookup-end-2 c = sym (length-take-le _ _ (omega arith))

pub returns-else-n-table : goal.returns-else-n-table
returns-else-n-table c =
    let new : let a = c.args in New a.table.now a.found.now a.w c.lookup-at.result =
    record { fits = c.if-table-n.false; looked = c.lookup-at.ensures; absent = c.if-at-n.false } in
    adds_past new c.if-n-table.false

pub returns-then-n-table : goal.returns-then-n-table
returns-then-n-table c =
    let new : let a = c.args in New a.table.now a.found.now a.w c.lookup-at.result =
    record { fits = c.if-table-n.false; looked = c.lookup-at.ensures; absent = c.if-at-n.false } in
    adds_behind new c.if-n-table.true
