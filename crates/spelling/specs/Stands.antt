-- Bytes that stand at a place of other bytes: what is known of their parts, and how parts make the whole.
-- The other bytes are taken apart there: those in front, these, and those behind.
use Rattle.std.specs.Prelude.{ℕ, suc, ◌+◌, ◌≤◌, ◌<◌, ◌≡◌, refl, List, [], ◌∷◌, ◌++◌, length, get_or, take}
use Rattle.std.specs.Prelude.{drop}
use Rattle.std.proofs.Common.{arith, sym, ◌∙◌, ap, ap₂, append-nil, append_assoc, length-append}
use Rattle.std.proofs.Common.{take-append-drop, drop-cons, length-take-le}
use Rattle.std.proofs.Math.Seq.{get_or-append_seam, drop-append_seam}

-- the bytes w stand at place `at` of s
pub record Stands (s : List ℕ) (at : ℕ) (w : List ℕ) : Type 0 where
  pub front : List ℕ
  pub back : List ℕ
  pub place : length front ≡ at
  pub whole : s ≡ front ++ (w ++ back)

-- the first byte, and what follows it
pub first : (s : List ℕ) (at b : ℕ) (w : List ℕ) → Stands s at (b ∷ w) → get_or s at 0 ≡ b
first s at b w h = rw (h.whole, ← h.place) (get_or-append_seam h.front b (w ++ h.back) 0)

pub after_one : (s : List ℕ) (at b : ℕ) (w : List ℕ) → Stands s at (b ∷ w) → Stands s (at + 1) w
after_one s at b w h = record {
  front = h.front ++ (b ∷ []);
  back = h.back;
  place = omega (arith, length-append h.front (b ∷ []), h.place);
  whole = h.whole ∙ sym (append_assoc h.front (b ∷ []) (w ++ h.back));
}

-- two parts of what stands there
pub left_part : (s : List ℕ) (at : ℕ) (u w : List ℕ) → Stands s at (u ++ w) → Stands s at u
left_part s at u w h = record {
  front = h.front;
  back = w ++ h.back;
  place = h.place;
  whole = h.whole ∙ ap (λ (l : List ℕ). h.front ++ l) (append_assoc u w h.back);
}

pub right_part : (s : List ℕ) (at : ℕ) (u w : List ℕ) → Stands s at (u ++ w) → Stands s (at + length u) w
right_part s at u w h = record {
  front = h.front ++ u;
  back = h.back;
  place = omega (arith, length-append h.front u, h.place);
  whole = h.whole ∙ ap (λ (l : List ℕ). h.front ++ l) (append_assoc u w h.back) ∙
      sym (append_assoc h.front u (w ++ h.back));
}

pub moved : (s : List ℕ) (p m : ℕ) (w : List ℕ) → p ≡ m → Stands s p w → Stands s m w
moved s p m w e h = record { front = h.front; back = h.back; place = h.place ∙ e; whole = h.whole }

-- they stand inside
pub stands_inside : (s : List ℕ) (at : ℕ) (w : List ℕ) → Stands s at w → at + length w ≤ length s
stands_inside s at w h =
    let parts = length-append h.front (w ++ h.back) in
    let rest = length-append w h.back in
    omega (arith, parts, rest, ap length h.whole, h.place)

-- bytes that stand there from the first to the last are all
nothing : (l : List ℕ) → length l ≡ 0 → l ≡ []
nothing [] e = refl
nothing (b ∷ l) e = absurd (omega arith)

pub stands_alone : (s w : List ℕ) → Stands s 0 w → length s ≡ length w → s ≡ w
stands_alone s w h e =
    let no_front = nothing h.front h.place in
    let parts = length-append h.front (w ++ h.back) in
    let rest = length-append w h.back in
    let no_back = nothing h.back (omega (arith, parts, rest, ap length h.whole, h.place)) in
    h.whole ∙ ap (λ (l : List ℕ). l ++ (w ++ h.back)) no_front ∙ ap (λ (l : List ℕ). w ++ l) no_back ∙
    append-nil w

-- ---- and back: what stands somewhere, from its parts

-- bytes stand behind those that are written before them
pub stands_between : (front w back : List ℕ) → Stands (front ++ (w ++ back)) (length front) w
stands_between front w back = record { front = front; back = back; place = refl; whole = refl }

pub stands_last : (front w : List ℕ) → Stands (front ++ w) (length front) w
stands_last front w = record {
  front = front;
  back = [];
  place = refl;
  whole = ap (λ (l : List ℕ). front ++ l) (sym (append-nil w));
}

pub stands_whole : (w : List ℕ) → Stands w 0 w
stands_whole w = stands_last [] w

-- w stands at a place where w and more are left from there on
pub stands_from : (s : List ℕ) (at : ℕ) (w back : List ℕ) → at ≤ length s → drop at s ≡ w ++ back →
    Stands s at w
stands_from s at w back l e = record {
  front = take at s;
  back = back;
  place = length-take-le at s l;
  whole = sym (take-append-drop at s) ∙ ap (λ (r : List ℕ). take at s ++ r) e;
}

pub left_from : (s : List ℕ) (at : ℕ) (w : List ℕ) (h : Stands s at w) → drop at s ≡ w ++ h.back
left_from s at w h = rw (h.whole, ← h.place) (drop-append_seam h.front (w ++ h.back))

pub stands_nothing : (s : List ℕ) (at : ℕ) → at ≤ length s → Stands s at []
stands_nothing s at l = stands_from s at [] (drop at s) l refl

-- one byte before others
pub before_one : (s : List ℕ) (at b : ℕ) (w : List ℕ) → get_or s at 0 ≡ b → Stands s (at + 1) w →
    Stands s at (b ∷ w)
before_one s at b w e h =
    let inside : at < length s = omega (arith, stands_inside s (at + 1) w h) in
    let next : at + 1 ≡ suc at = omega arith in
    stands_from s at (b ∷ w) h.back (omega arith) (drop-cons s at 0 inside ∙
    ap₂ ◌∷◌ e (ap (λ (n : ℕ). drop n s) (sym next) ∙ left_from s (at + 1) w h))

-- and one part before another
pub both_parts : (s : List ℕ) (at : ℕ) (u w : List ℕ) → Stands s at u → Stands s (at + length u) w →
    Stands s at (u ++ w)
both_parts s at [] w g h = moved s (at + 0) at w (omega arith) h
both_parts s at (b ∷ u) w g h =
    let next : at + suc (length u) ≡ at + 1 + length u = omega arith in
    let behind = moved s (at + suc (length u)) (at + 1 + length u) w next h in
    before_one s at b (u ++ w) (first s at b u g) (both_parts s (at + 1) u w (after_one s at b u g) behind)
