-- How far a formula is skipped: the formulas that are still to come stand at the next place.
-- In each turn the first of them is replaced by the formulas inside it; the end and the count stay.
use Prim.Native.Nat.{ℕ, ◌+◌, ◌-◌, ◌≤◌, ◌<◌}
use native.Mathlib.Omega.{arith}
use mathlib.Core.Path.{◌≡◌, refl, sym, ap, ◌∙◌, subst}
use mathlib.Core.Bool.{Bool, true, false, cond}
use mathlib.Core.List.{List, [], ◌∷◌, ◌++◌}
use lib.ListN.{length, length-append}
use Rattle.meaning.specs.Logic.{cases}
use Rattle.spelling.specs.Stands.{Stands}
use Rattle.translation.specs.Modal.{Modal, fixed_points}
use Rattle.inputs.specs.InputFrames.{spelled_modal}
use Rattle.scans.specs.Equations.{fixed_count}
use Rattle.scans.specs.Formulas.{is_fixed, parts_of, width_at, Skips}
use Rattle.scans.specs.declared.Skipped.{Skipped}
use Rattle.scans.proofs.ScannedFormulas.{spelled_modals, fixed_in_all, modals_in, one_alone, one_fixed}
use Rattle.scans.proofs.ScannedFormulas.{Turn, turn, none_past, code_at, parts_few, width_small}

-- of the formulas fs: the skipped formula ends at `end` and has n fixed points
pub record Pending (s : List ℕ) (end n next count pending : ℕ) (fs : List Modal) : Type 0 where
  pub as_many : length fs ≡ pending
  pub there : Stands s (4352 + next) (spelled_modals fs)
  pub ends : next + length (spelled_modals fs) ≡ end
  pub counted : count + length (fixed_in_all fs) ≡ n

pub pending_start : (s : List ℕ) (at : ℕ) (f : Modal) → Stands s (4352 + at) (spelled_modal f)
    → Pending s (at + length (spelled_modal f)) (fixed_points f) at 0 1 (f ∷ [])
pending_start s at f h = record {
  as_many = refl;
  there = subst (Stands s (4352 + at)) (sym (one_alone f)) h;
  ends = ap (λ (l : List ℕ). at + length l) (one_alone f);
  counted = omega (arith, ap length (one_fixed f), fixed_count f);
}

abbrev Left : List ℕ → ℕ → ℕ → ℕ → ℕ → ℕ → Type 0
Left s end n next count pending = (fs : List Modal) × Pending s end n next count pending fs

counted_on : (s : List ℕ) (next count n : ℕ) (f : Modal) (fs : List Modal) → Turn s next f fs → {count' : ℕ}
    → count' ≡ cond (is_fixed (code_at s next)) (count + 1) count
    → count + length (fixed_in_all (f ∷ fs)) ≡ n → count' + length (fixed_in_all (modals_in f ++ fs)) ≡ n
counted_on s next count n f fs t e q =
    let one : Bool → ℕ = λ b. cond b (count + 1) count in
    cases (is_fixed (code_at s next))
    (λ b. omega (arith, e ∙ ap one b, ap length (t.fixed b).follow, q))
    (λ b. omega (arith, e ∙ ap one b, ap length (t.other b), q))

module _ {s : List ℕ} {end n next count pending : ℕ} where
  pub pending_turn : (fs : List Modal) → Pending s end n next count pending fs → 0 < pending → {count' : ℕ}
      → count' ≡ cond (is_fixed (code_at s next)) (count + 1) count
      → Left s end n (next + width_at s next) count' (pending + parts_of (code_at s next) - 1)
  pending_turn [] p l e = absurd (omega (arith, p.as_many))
  pending_turn (f ∷ fs) p l e =
      let t = turn s next f fs p.there in (
        modals_in f ++ fs,
        record {
          as_many = omega (arith, p.as_many, t.parts, length-append (modals_in f) fs);
          there = t.rest;
          ends = omega (arith, p.ends, t.size);
          counted = counted_on s next count n f fs t e p.counted;
        },
      )

  pub pending_end : (fs : List Modal) → Pending s end n next count pending fs → length s ≡ 4608
      → (0 < pending → next < 256 → ⊥) → (next ≡ end) × (count ≡ n)
  unfolding spelled_modals fixed_in_all
  pending_end [] p size e = (omega (arith, p.ends), omega (arith, p.counted))
  pending_end (f ∷ fs) p size e =
      absurd (e (omega (arith, p.as_many)) (none_past s next f fs size p.there))

-- the whole: the numbers stay small on every sheet
pub record Skipping (s : List ℕ) (at next count pending : ℕ) : Type 0 where
  pub onward : at ≤ next
  pub near : next ≤ 258
  pub few_pending : pending + at ≤ next + 1
  pub few_counted : count + at ≤ next
  pub few : count ≤ 256
  pub so_far : (f : Modal) → Stands s (4352 + at) (spelled_modal f)
      → Left s (at + length (spelled_modal f)) (fixed_points f) next count pending

pub skipping_start : (s : List ℕ) (at next : ℕ) → next ≡ at → next < 256 → Skipping s at next 0 1
skipping_start s at next e l = record {
  onward = omega (arith, e);
  near = omega arith;
  few_pending = omega (arith, e);
  few_counted = omega (arith, e);
  few = omega arith;
  so_far = λ f h. rw e (f ∷ [], pending_start s at f h);
}

counts_one : (b : Bool) (n : ℕ) → (cond b (n + 1) n ≤ n + 1)
counts_one true n = omega arith
counts_one false n = omega arith

module _ {s : List ℕ} {at next count pending : ℕ} (k : Skipping s at next count pending) where
  pub skipping_turn : 0 < pending → next < 256 → {count' parts width : ℕ}
      → count' ≡ cond (is_fixed (code_at s next)) (count + 1) count → parts ≡ parts_of (code_at s next)
      → width ≡ width_at s next → Skipping s at (next + width) count' (pending + parts - 1)
  skipping_turn some inside {count'} {parts} {width} ec ep ew =
      let wide = width_small s next in
      let few = parts_few (code_at s next) in
      let one = counts_one (is_fixed (code_at s next)) count in
      record {
        onward = omega (arith, k.onward);
        near = omega (arith, wide.1, ew);
        few_pending = omega (arith, k.few_pending, few, ep, ew, wide.0);
        few_counted = omega (arith, k.few_counted, one, ec, ew, wide.0);
        few = omega (arith, k.few_counted, one, ec);
        so_far = λ f h. rw (ep, ew) (pending_turn (k.so_far f h).0 (k.so_far f h).1 some ec);
      }

  pub skipping_end : (0 < pending → next < 256 → ⊥) → {r : Skipped} → r.next ≡ next → r.count ≡ count → Skips s at r
  skipping_end e en ec = record {
    near = (omega (arith, k.onward, en), omega (arith, k.near, en));
    few = omega (arith, k.few, ec);
    skipped = λ f size h.
        let done = pending_end (k.so_far f h).0 (k.so_far f h).1 size e in (en ∙ done.0, ec ∙ done.1);
  }
