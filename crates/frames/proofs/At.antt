-- The line that begins at a place, as the code sees it: a part of the text between two places.
-- Where it ends is known, so its characters and its length are; then the tests are rewritten in their order.
use Prim.Native.Nat.{ℕ, suc, ◌+◌, ◌-◌, ◌≤◌, ◌<◌, min}
use native.Mathlib.Omega.{arith}
use native.Mathlib.Decide.{dec_le}
use mathlib.Core.Path.{◌≡◌, refl, sym, ap, ap₂, ◌∙◌}
use mathlib.Core.Bool.{Bool, true, false, cond}
use mathlib.Core.List.{List, [], ◌∷◌}
use lib.Dec.{eqb, leb, ltb}
use lib.ListN.{length, take, drop, length-drop, drop_of_length-le}
use lib.Seq.{length-take-le}
use borrow.Author.Tests.{le-leb, lt-leb}
use Rattle.frames.specs.declared.FrameAt.{FrameAt}
use Rattle.frames.specs.FrameAt.{first_length, line_at, told_at, told, frame_in, frame_of, frame_at}

pub first_length_most : (s : List ℕ) → first_length s ≤ length s
unfolding first_length
first_length_most [] = omega arith
first_length_most (c ∷ s) = one (eqb c 0x0a) (first_length_most s)
  where
    one : (b : Bool) → first_length s ≤ length s → cond b 0 (suc (first_length s)) ≤ suc (length s)
    one true h = omega arith
    one false h = omega arith

pub same_leb : (a b c d : ℕ) → (a ≤ b → c ≤ d) → (b < a → d < c) → leb a b ≡ leb c d
same_leb a b c d f g = elim (dec_le a b) [
  | yes h ↦ le-leb a b h ∙ sym (le-leb c d (f h))
  | no h ↦ lt-leb a b (omega arith) ∙ sym (lt-leb c d (g (omega arith)))
]

same_rest : (t : List ℕ) (at : ℕ) → drop (min at (length t)) t ≡ drop at t
same_rest t at = elim (dec_le at (length t)) [
  | yes h ↦ let e : min at (length t) ≡ at = omega arith in rw e refl
  | no h ↦ drop_of_length-le t {i = min at (length t)} (omega arith) ∙ sym (drop_of_length-le t {i = at} (omega arith))
]

module _ (t : List ℕ) (at : ℕ) {from end : ℕ} (f : from ≡ min at (length t))
    (e : end ≡ from + first_length (drop from t)) where
  rest : drop from t ≡ drop at t
  rest = rw f (same_rest t at)

  abbrev size : ℕ
  size = first_length (drop at t)

  ends : end ≡ from + size
  ends = e ∙ ap (λ (l : List ℕ). from + first_length l) rest

  pub characters_are : take (end - from) (drop from t) ≡ (line_at t at).characters
  characters_are = let n : end - from ≡ size = omega (arith, ends) in rw (rest, n) refl

  size_is : end - from ≡ length (line_at t at).characters
  size_is = omega (arith, ends, length-take-le size (drop at t) (first_length_most (drop at t)))

  ended_is : ltb end (length t) ≡ (line_at t at).ended
  ended_is =
      let r = length-drop at t in
      same_leb (suc end) (length t) (suc size) (length (drop at t)) (λ h. omega (arith, ends)) (λ h. omega (arith, ends))

  line_is : record { characters = take (end - from) (drop from t); ended = ltb end (length t) } ≡ line_at t at
  line_is = ap₂ (λ (l : List ℕ) (b : Bool). record { characters = l; ended = b }) characters_are ended_is

  pub frame_there : (r : FrameAt) → r.end ≡ end
      → ((e : ℕ) → told_at e r.frame ≡ frame_of (take (end - from) (drop from t)) (ltb end (length t)) e)
      → told r ≡ frame_at t at
  unfolding frame_at
  frame_there r h k = k r.end ∙ ap₂ frame_in line_is (h ∙ rw (← f) ends)
