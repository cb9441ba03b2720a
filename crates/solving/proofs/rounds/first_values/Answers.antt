-- `rounds::first_values` meets its contract.
-- Equation by equation: those below e are begun.
use mathlib.Core.Bool.{Bool, true, false, ◌&&◌, ◌||◌}
use mathlib.Core.List.{List}
use mathlib.Core.Path.{◌≡◌, refl, sym, ◌∙◌}
use Prim.Native.Nat.{ℕ}
use native.Mathlib.Omega.{arith}
use Rattle.truth.specs.Bits.{bit_of}
use Rattle.truth.specs.Rows.{row_of, unlike_in, joined}
use Rattle.instances.specs.Sides.{is_greatest}
use Rattle.instances.specs.Graph.{members_row}
use Rattle.solving.proofs.RoundsLaws.{beginning_none, beginning_more, row_added, row_left}
use Rattle.solving.proofs.rounds.first_values.Goals as goal

pub loop-e-init : goal.loop-e-init
loop-e-init c = beginning_none _ _ _ c.none-none.ensures

pub loop-e-preserved : goal.loop-e-preserved
loop-e-preserved c =
    let l = c.loop-e in
    let none = c.none-none.ensures in
    let row = row_of c.args.graph.now (members_row l.e) in
    let greatest = c.is_greatest.ensures in
    let with_row : ℕ → Bool =
    λ k. bit_of l.truth k || (is_greatest c.args.equations l.e && row k) in
    let added : (t : List ℕ) → c.is_greatest.result ≡ true
    → bit_of t ≡ joined (bit_of l.truth) (unlike_in row (bit_of c.none-none.result) true)
    → (k : ℕ) → bit_of t k ≡ with_row k =
    λ t yes x. row_added (bit_of l.truth) row _ (sym greatest ∙ yes) none x in
    let kept : c.is_greatest.result ≡ false → (k : ℕ) → bit_of l.truth k ≡ with_row k =
    λ no. row_left (bit_of l.truth) row (sym greatest ∙ no) in
    beginning_more l.invariant (omega arith) (omega arith) (λ k. grind (arith, added, kept))
    (row_added (bit_of l.dirty) row _ refl none c.with_unlike-d.ensures)

pub returns : goal.returns
returns c =
    let l = c.loop-e in
    let all : l.e ≡ c.args.count = omega (arith, l.invariant.most) in
    record { begun = λ bodies table g. rw all at (l.invariant.begun bodies table g); unchanged = refl }
