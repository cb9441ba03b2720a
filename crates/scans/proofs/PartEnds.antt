-- Where a condition or a term ends: the items that are still to come stand at the next place.
-- In each turn the first of them is replaced by the items inside it; the end stays.
use Prim.Native.Nat.{ℕ, ◌+◌, ◌*◌, ◌-◌, ◌≤◌, ◌<◌}
use native.Mathlib.Omega.{arith}
use mathlib.Core.Path.{◌≡◌, refl, sym, ap, ◌∙◌, subst}
use mathlib.Core.List.{List, [], ◌∷◌, ◌++◌}
use lib.ListN.{length, length-append, get_or}
use Rattle.meaning.specs.Logic.{Is}
use Rattle.spelling.specs.Stands.{Stands, moved}
use Rattle.scans.specs.Items.{Item, plain_item, spelled_item, spelled_items, items_in, part_parts, part_width}
use Rattle.scans.specs.Summands.{EndsPart}
use Rattle.scans.proofs.ScannedItems.{plain_items, item_code, item_turn, item_alone, plain_alone}
use Rattle.scans.proofs.ScannedItems.{part_parts_few, part_width_small}

-- of the items js, in the frame that begins at `base`: the whole ends at `end`
pub record Pending (s : List ℕ) (base end next pending : ℕ) (js : List Item) : Type 0 where
  pub as_many : length js ≡ pending
  pub all_plain : Is (plain_items js)
  pub there : Stands s (base + next) (spelled_items js)
  pub ends : next + length (spelled_items js) ≡ end

abbrev Left : List ℕ → ℕ → ℕ → ℕ → ℕ → Type 0
Left s base end next pending = (js : List Item) × Pending s base end next pending js

module _ {s : List ℕ} {base end next pending : ℕ} where
  pending_turn : (js : List Item) → Pending s base end next pending js → 0 < pending → {parts width : ℕ}
      → parts ≡ part_parts (get_or s (base + next) 0) → width ≡ part_width (get_or s (base + next) 0)
      → Left s base end (next + width) (pending + parts - 1)
  pending_turn [] p l ep ew = absurd (omega (arith, p.as_many))
  pending_turn (j ∷ js) p l {parts} {width} ep ew =
      let t = item_turn s (base + next) j js p.all_plain p.there in
      let wide = ew ∙ ap part_width t.code in
      let many = ep ∙ ap part_parts t.code ∙ t.parts in
      let place : base + next + part_width (item_code j) ≡ base + (next + width) = omega (arith, wide) in (
        items_in j ++ js,
        record {
          as_many = omega (arith, p.as_many, many, length-append (items_in j) js);
          all_plain = t.plain_rest;
          there = moved s _ _ (spelled_items (items_in j ++ js)) place t.rest;
          ends = omega (arith, p.ends, t.size, wide);
        },
      )

  pending_end : (js : List Item) → Pending s base end next pending js → end ≤ 256
      → (0 < pending → next < 256 → ⊥) → next ≡ end
  unfolding spelled_items
  pending_end [] p l none = omega (arith, p.ends)
  pending_end (j ∷ js) p l none =
      let t = item_turn s (base + next) j js p.all_plain p.there in
      absurd (none (omega (arith, p.as_many)) (omega (arith, p.ends, t.size, t.width)))

-- the whole: the numbers stay small on every sheet
pub record Ending (s : List ℕ) (slot at next pending : ℕ) : Type 0 where
  pub low : slot ≤ 16
  pub near : next ≤ 512
  pub few : pending ≤ next + 1
  pub so_far : (i : Item) → Is (plain_item i) → Stands s (256 * slot + at) (spelled_item i)
      → Left s (256 * slot) (at + length (spelled_item i)) next pending

pub ending_start : (s : List ℕ) (slot at : ℕ) → slot ≤ 16 → at ≤ 512 → Ending s slot at at 1
ending_start s slot at low near = record {
  low = low;
  near = near;
  few = omega arith;
  so_far = λ i p h. (
    i ∷ [],
    record {
      as_many = refl;
      all_plain = plain_alone i p;
      there = subst (Stands s (256 * slot + at)) (sym (item_alone i)) h;
      ends = ap (λ (l : List ℕ). at + length l) (item_alone i);
    },
  );
}

module _ {s : List ℕ} {slot at next pending : ℕ} (k : Ending s slot at next pending) where
  pub ending_turn : 0 < pending → next < 256 → {parts width : ℕ} → parts ≡ part_parts (get_or s (256 * slot + next) 0)
      → width ≡ part_width (get_or s (256 * slot + next) 0) → Ending s slot at (next + width) (pending + parts - 1)
  ending_turn some inside ep ew =
      let code = get_or s (256 * slot + next) 0 in
      record {
        low = k.low;
        near = omega (arith, ew, (part_width_small code).1);
        few = omega (arith, k.few, ep, part_parts_few code, ew, (part_width_small code).0);
        so_far = λ i p h. pending_turn (k.so_far i p h).0 (k.so_far i p h).1 some ep ew;
      }

  pub ending_end : (0 < pending → next < 256 → ⊥) → EndsPart s slot at next
  ending_end none = record {
    ended = λ i p l h. pending_end (k.so_far i p h).0 (k.so_far i p h).1 l none;
  }
