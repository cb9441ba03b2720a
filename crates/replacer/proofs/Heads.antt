-- The frame of an equation with another right side: its head is as it was, and its body is the new one.
-- What stands within the head is the same in both, and all that is read of a head stands within it.
use Rattle.std.specs.Prelude.{ℕ, ◌+◌, ◌≤◌, ◌<◌, ◌≡◌, refl, true, cond, List, ltb, length, get_or, take}
use Rattle.std.proofs.Common.{arith, ap, ◌∙◌, length-append, length-take-le, get_or-take, drop_at, leb-true, le-leb, ltb-true}
use Rattle.std.proofs.Math.ListN.{get_or-append}
use Rattle.meaning.specs.Logic.{cases}
use Rattle.reading.specs.Equations.{range_of, four_ranges, ranges_in, body_in, is_valid_head}
use Rattle.reading.proofs.Refusals.{&&-left}
use Rattle.replacer.specs.Replaced.{head_size}
use Rattle.replacer.specs.Heads.{frame_with}

-- ---- a frame that has a whole head
module _ (f side : List ℕ) (whole : head_size f ≤ length f) where
  head_long : length (take (head_size f) f) ≡ head_size f
  head_long = length-take-le (head_size f) f whole

  pub frame_length : length (frame_with f side) ≡ head_size f + length side
  frame_length = length-append (take (head_size f) f) side ∙ ap (λ (n : ℕ). n + length side) head_long

  within_head : (i : ℕ) → i < head_size f → get_or (frame_with f side) i 0 ≡ get_or f i 0
  within_head i h =
      get_or-append (take (head_size f) f) side 0 i (omega (arith, head_long)) ∙
      get_or-take (head_size f) f i 0 h

  pub same_code : get_or (frame_with f side) 0 0 ≡ get_or f 0 0
  same_code = within_head 0 (omega arith)

  pub same_sign : get_or (frame_with f side) 1 0 ≡ get_or f 1 0
  same_sign = within_head 1 (omega arith)

  pub same_count : get_or (frame_with f side) 2 0 ≡ get_or f 2 0
  same_count = within_head 2 (omega arith)

  same_range : (i : ℕ) → range_of (frame_with f side) i ≡ range_of f i
  same_range i =
      ap (λ (k : ℕ). cond (ltb i k) (get_or (frame_with f side) (3 + i) 0) 1) same_count ∙
      cases (ltb i (get_or f 2 0))
      (λ e. rw e (within_head (3 + i) (omega (arith, ltb-true i (get_or f 2 0) e)))) (λ e. rw e refl)

  same_four : four_ranges (frame_with f side) ≡ four_ranges f
  same_four = rw (same_range 0, same_range 1, same_range 2, same_range 3) refl

  pub same_ranges : ranges_in (frame_with f side) ≡ ranges_in f
  same_ranges = rw (same_four, same_count) refl

  pub new_body : body_in (frame_with f side) ≡ side
  new_body = rw same_count (drop_at (take (head_size f) f) side (head_size f) head_long)

-- ---- a valid head
pub head_whole : (f : List ℕ) → is_valid_head f ≡ true → head_size f ≤ length f
unfolding is_valid_head
head_whole f h = leb-true (3 + get_or f 2 0) (length f) (&&-left _ _ h)

pub head_stays : (f side : List ℕ) → is_valid_head f ≡ true → is_valid_head (frame_with f side) ≡ true
unfolding is_valid_head
head_stays f side h =
    let whole = head_whole f h in
    let long = le-leb (head_size f) (length (frame_with f side)) (omega (arith, frame_length f side whole)) in
    rw (same_four f side whole, same_count f side whole, same_sign f side whole, long)
    (rw (le-leb (head_size f) (length f) whole) at h)
