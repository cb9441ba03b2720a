-- `emitter::put_head` meets its contract.
-- The ranges that are still to be put, over what is there, are all of them over what was there.
use Prim.Native.Nat.{ℕ, suc, ◌+◌, ◌-◌, ◌≤◌, ◌<◌}
use native.Mathlib.Omega.{arith}
use mathlib.Core.Path.{◌≡◌, refl, sym, ◌∙◌}
use mathlib.Core.List.{List}
use lib.ListN.{length, get_or, set, length-set}
use lib.Seq.{sets}
use borrow.Author.Rules.{rules}
use Rattle.formulas.specs.Contract.{part}
use Rattle.emitter.proofs.SheetHeads.{parameters, few_parameters, ranges_read}
use Rattle.emitter.proofs.put_head.Invariants.{Putting}
use Rattle.emitter.proofs.put_head.Goals as goal

-- one range more
step : (sheet frame : List ℕ) (k i : ℕ) → i < k
    → sets (set frame (3 + i) (get_or sheet (2 + i) 0)) (3 + (i + 1)) (part sheet (2 + (i + 1)) (k - (i + 1)))
    ≡ sets frame (3 + i) (part sheet (2 + i) (k - i))
unfolding part
step sheet frame k i h =
    let e : k - i ≡ suc (k - (i + 1)) = omega arith in
    let a : 3 + (i + 1) ≡ suc (3 + i) = omega arith in
    let b : 2 + (i + 1) ≡ 2 + i + 1 = omega arith in
    rw (e, a, b) refl

putting_start : (sheet frame : List ℕ) (k : ℕ) → k ≤ 4 → length frame ≡ 256 → Putting sheet frame k frame 0
putting_start sheet frame k h long =
    let e : k - 0 ≡ k = omega arith in
    record { few = h; near = omega arith; long = long; left = rw e refl }

module _ {sheet frame₀ : List ℕ} {k : ℕ} {frame : List ℕ} {i : ℕ} (p : Putting sheet frame₀ k frame i) where
  all_put : k ≤ i → frame ≡ sets frame₀ 3 (part sheet 2 k)
  unfolding part
  all_put h =
      let e : k - i ≡ 0 = omega arith in
      rw e at p.left

pub loop-i-preserved : goal.loop-i-preserved
loop-i-preserved c =
    let sheet = c.args.sheet.now in
    let inv = c.loop-i.invariant in
    record {
      few = inv.few;
      near = omega arith;
      long = rw length-set inv.long;
      left = rw c.element.ensures (step sheet c.loop-i.frame _ c.loop-i.i c.loop-i-test.true ∙ inv.left);
    }

pub returns : goal.returns
returns c =
    let inv = c.loop-i.invariant in
    let long : length c.args.frame.now ≡ 256 = search rules in
    record {
      size = inv.long ∙ sym long;
      few = omega arith;
      told = λ process f g.
          let k : c.from-count.result ≡ length process.ranges =
          omega (arith, c.from-count.ensures, c.parameters-k.ensures, parameters g, few_parameters g) in
          (omega (arith, k), all_put inv c.loop-i-test.false ∙ rw (← c.from-count.ensures, k, ranges_read g) refl);
    }
