-- The bytes behind the count of a frame, tested and taken one by one.
-- What is left from a place on has its first byte in front, so a test of all places is a test of all bytes there.
use Prim.Native.Nat.{ℕ, zero, suc, ◌+◌, ◌-◌, ◌≤◌, ◌<◌}
use native.Mathlib.Omega.{arith}
use mathlib.Core.Path.{◌≡◌, refl, sym, ap, ap₂, ◌∙◌}
use mathlib.Core.Bool.{Bool, true, false, ◌&&◌}
use mathlib.Core.List.{List, [], ◌∷◌, ◌++◌, append-nil}
use lib.Dec.{ltb}
use lib.ListN.{get_or}
use lib.Seq.{append_snoc}
use Rattle.std.specs.List.{list_all, range_with_len}
use Rattle.meaning.specs.Logic.{◌and◌}
use Rattle.meaning.specs.Ranges.{is_range, all_ranges, within}
use Rattle.formulas.specs.declared.Tuple.{Tuple}
use Rattle.formulas.specs.Tuples.{items, Pushes}
use Rattle.formulas.specs.Contract.{part}

module _ (f : List ℕ) (count : ℕ) where
  -- those from place j on, the first i of them left out
  abbrev pub left : ℕ → ℕ → List ℕ
  left j i = part f (j + i) (count - i)

  pub left_all : (j : ℕ) → left j 0 ≡ part f j count
  left_all j =
      let place : j + 0 ≡ j = omega arith in
      let number : count - 0 ≡ count = omega arith in
      rw (place, number) refl

  left_next : (j i : ℕ) → i < count → left j i ≡ get_or f (j + i) 0 ∷ left j (i + 1)
  unfolding part
  left_next j i h =
      let more : count - i ≡ suc (count - (i + 1)) = omega arith in
      let after : j + i + 1 ≡ j + (i + 1) = omega arith in
      rw more (ap (λ (x : ℕ). get_or f (j + i) 0 ∷ part f x (count - (i + 1))) after)

  pub left_none : (j i : ℕ) → count ≤ i → left j i ≡ []
  unfolding part
  left_none j i h = let none : count - i ≡ 0 = omega arith in rw none refl

-- ---- a test of all
both : (a : Bool) {b c : Bool} → b ≡ c → a && b ≡ a and c
unfolding ◌and◌
both true e = e
both false e = refl

pub ranges_told : (f : List ℕ) (i n : ℕ) → list_all (λ i. is_range (get_or f (2 + i) 0)) (range_with_len i n)
    ≡ all_ranges (part f (2 + i) n)
unfolding part all_ranges
ranges_told f i zero = refl
ranges_told f i (suc n) =
    let next : 2 + (i + 1) ≡ 2 + i + 1 = omega arith in
    both (is_range (get_or f (2 + i) 0)) (ranges_told f (i + 1) n ∙ ap (λ (j : ℕ). all_ranges (part f j n)) next)

pub below_told : (f : List ℕ) (count i n : ℕ)
    → list_all (λ i. ltb (get_or f (2 + count + i) 0) (get_or f (2 + i) 0)) (range_with_len i n)
    ≡ within (part f (2 + count + i) n) (part f (2 + i) n)
unfolding part within
below_told f count i zero = refl
below_told f count i (suc n) =
    let next : 2 + (i + 1) ≡ 2 + i + 1 = omega arith in
    let behind : 2 + count + (i + 1) ≡ 2 + count + i + 1 = omega arith in
    both (ltb (get_or f (2 + count + i) 0) (get_or f (2 + i) 0))
    (below_told f count (i + 1) n ∙ ap₂ (λ (j k : ℕ). within (part f j n) (part f k n)) behind next)

-- ---- put behind others: what was put and what is left make the whole
pub record Putting (f : List ℕ) (count : ℕ) (got all : Tuple) (i : ℕ) : Type 0 where
  pub near : i ≤ count
  pub few : count ≤ 4
  pub number : all.count ≡ got.count + i
  pub same : items all ++ left f count 2 i ≡ items got ++ part f 2 count

pub put_start : (f : List ℕ) {count : ℕ} (got : Tuple) → count ≤ 4 → Putting f count got got 0
put_start f {count} got h = record {
  near = omega arith;
  few = h;
  number = omega arith;
  same = ap (λ l. items got ++ l) (left_all f count 2);
}

module _ {f : List ℕ} {count : ℕ} {got all : Tuple} {i : ℕ} (p : Putting f count got all i) where
  pub put_more : {r : Tuple} {v : ℕ} → got.count ≤ 4 → i < count → v ≡ get_or f (2 + i) 0 → Pushes all v r
      → Putting f count got r (i + 1)
  put_more {r} {v} four h e pushed =
      let now = pushed.1 (omega (arith, p.number, p.few)) in
      record {
        near = omega arith;
        few = p.few;
        number = omega (arith, now.0, p.number);
        same = ap (λ l. l ++ left f count 2 (i + 1)) now.1 ∙ append_snoc (items all) v (left f count 2 (i + 1)) ∙
            ap (λ (x : ℕ). items all ++ x ∷ left f count 2 (i + 1)) e ∙
            ap (λ l. items all ++ l) (sym (left_next f count 2 i h)) ∙ p.same;
      }

  pub put_end : count ≤ i → items all ≡ items got ++ part f 2 count
  put_end h = sym (append-nil (items all)) ∙ ap (λ l. items all ++ l) (sym (left_none f count 2 i h)) ∙ p.same
