-- `rows::put_row` meets its contract: each turn writes one word of the row.
-- Where the row is not there with all of its words both sides are the list itself.
use mathlib.Core.Path.{◌≡◌, refl, ap}
use Prim.Native.Nat.{ℕ, ◌+◌, ◌-◌, ◌*◌, ◌≤◌, ◌<◌}
use native.Mathlib.Nat.{add-zero}
use native.Mathlib.Omega.{arith}
use lib.ListN.{length, get_or}
use borrow.Author.Tests.{le-leb, lt-leb}
use Rattle.truth.proofs.RowWords.{fill_none, fill_more, row_put}
use Rattle.truth.proofs.rows.put_row.Goals as goal

pub returns-then-ws-i : goal.returns-then-ws-i
returns-then-ws-i c =
    let a = c.args in
    let short : length a.ws.now < a.i * 8 + 8 = omega arith in
    record { bits = rw (lt-leb _ _ short) refl; size = refl }

pub loop-word-init : goal.loop-word-init
loop-word-init c = (omega arith, rw (add-zero (c.args.i * 8)) fill_none)

pub loop-word-preserved : goal.loop-word-preserved
loop-word-preserved c =
    let f = c.loop-word.invariant.1 in
    let a = c.args in
    let e : c.loop-word.word ≡ a.i * 8 + c.loop-word.word - a.i * 8 = omega arith in (
      omega arith,
      fill_more f (omega arith) (omega (arith, f.size)) _ _ (omega arith) (ap (λ (k : ℕ). get_or a.t k 0) e) (omega arith),
    )

pub returns : goal.returns
returns c =
    let f = c.loop-word.invariant.1 in
    let a = c.args in
    let whole : a.i * 8 + 8 ≤ length a.ws.now = omega arith in
    let e : c.loop-word.word ≡ 8 = omega arith in
    record { bits = rw (le-leb _ _ whole) (row_put _ _ _ _ (rw e at f)); size = f.size }
