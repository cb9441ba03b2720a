-- `rows::mark` meets its contract: the word at / 64 gets bit at % 64 by `|`, and there are as many words as before.
-- Past the last word both sides are the list itself.
use mathlib.Core.Path.{◌≡◌, refl, ◌∙◌}
use Prim.Native.Nat.{◌*◌, ◌/◌, ◌%◌, ◌^◌}
use native.Mathlib.Nat.{one-mul}
use native.Mathlib.Omega.{arith}
use lib.Dec.{lit<}
use lib.Pow.{shl_exact}
use lib.ListN.{length-set}
use borrow.Author.Tests.{lt-ltb, le-ltb}
use Rattle.truth.proofs.RowWords.{marked}
use Rattle.truth.proofs.rows.mark.Goals as goal

pub returns-then-at-rows : goal.returns-then-at-rows
returns-then-at-rows c =
    let a = c.args in
    let e : 1 * 2 ^ (a.at % 64) % 2 ^ 64 ≡ 2 ^ (a.at % 64) = shl_exact 1 (a.at % 64) 64 (lit< tt) (omega arith)
    ∙ one-mul (2 ^ (a.at % 64)) in
    record {
      bits = rw (e, lt-ltb _ _ c.if-at-rows.true) (marked a.rows.now a.at c.if-at-rows.true);
      size = length-set a.rows.now (a.at / 64) _;
    }

pub returns-else-at-rows : goal.returns-else-at-rows
returns-else-at-rows c = record { bits = rw (le-ltb _ _ c.if-at-rows.false) refl; size = refl }
