-- `evaluator::tables::lookup` meets its contract: the search ends at the first match, or at the end.
-- Until then what is left to look through says how far past i the word stands.
use borrow.Author.Tests.{eq-eqb, ne_eqb}
use native.Mathlib.Omega.{arith}
use native.Mathlib.Numerals.{add-one}
use Prim.Native.Nat.{ℕ, suc, ◌+◌, ◌≤◌, ◌<◌}
use mathlib.Core.Path.{◌≡◌}
use mathlib.Core.List.{List}
use lib.ListN.{length, get_or, drop, drop_of_length-le}
use lib.Seq.{drop-cons}
use Rattle.evaluator.specs.Values.{index_of}
use Rattle.evaluator.proofs.tables.lookup.Goals as goal

module _ (t : List ℕ) (w i : ℕ) where
  past : i < length t → (get_or t i 0 ≡ w → ⊥) → index_of (drop i t) w ≡ suc (index_of (drop (i + 1) t) w)
  unfolding index_of
  past lt ne = rw (add-one, drop-cons t i 0 lt, ne_eqb (get_or t i 0) w ne)

  hit : i < length t → get_or t i 0 ≡ w → index_of (drop i t) w ≡ 0
  unfolding index_of
  hit lt eq = rw (drop-cons t i 0 lt, eq-eqb (get_or t i 0) w eq)

  end : length t ≤ i → index_of (drop i t) w ≡ 0
  unfolding index_of
  end le = rw (drop_of_length-le t le)

pub loop-i-preserved : goal.loop-i-preserved
loop-i-preserved c =
    let a = c.args in
    let l = c.loop-i in
    omega (arith, past a.table.now a.w l.i c.if-table-i.false c.if-table-i-2.false)

pub returns-then-table-i : goal.returns-then-table-i
returns-then-table-i c =
    let a = c.args in
    omega (arith, end a.table.now a.w c.loop-i.i c.if-table-i.true)

pub returns-then-table-i-2 : goal.returns-then-table-i-2
returns-then-table-i-2 c =
    let a = c.args in
    let l = c.loop-i in
    omega (arith, hit a.table.now a.w l.i c.if-table-i.false c.if-table-i-2.true)
