-- The frame of an equation: what it begins with and its right side, put one behind the other, are the frame.
-- There is none exactly where the frame has more than 256 bytes or a fifth quantifier.
use Prim.Native.Nat.{ℕ, ◌+◌, ◌≤◌}
use native.Mathlib.Omega.{arith}
use mathlib.Core.Path.{◌≡◌, refl, sym, ap, ◌∙◌}
use mathlib.Core.Bool.{Bool, true, false, false≢true, ◌&&◌, and-eq-true_iff}
use mathlib.Core.List.{List, ◌++◌}
use Rattle.std.specs.Prelude.{Option, Some, None, IfSome}
use lib.Dec.{leb}
use lib.ListN.{length, take, drop, length-append}
use lib.Seq.{sets, sets-eq, take-append_seam}
use borrow.Author.Tests.{leb-true, leb-false}
use Rattle.frames.proofs.Stores.{sets_append}
use Rattle.sides.specs.Emitted.{Emits, count_of}

-- bytes put from the first place on: in two parts
pub sets_parts : (l u v : List ℕ) → sets l 0 (u ++ v) ≡ sets (sets l 0 u) (length u) v
sets_parts l u v =
    let n : 0 + length u ≡ length u = omega arith in
    sets_append l 0 u v ∙ ap (λ (m : ℕ). sets (sets l 0 u) m v) n

-- and read again, where there is room for them
pub first_bytes : (l w : List ℕ) → length w ≤ length l → take (length w) (sets l 0 w) ≡ w
first_bytes l w room = ap (take (length w)) (sets-eq w l 0 (omega arith)) ∙ take-append_seam w (drop (0 + length w) l)

first_false : (a b : Bool) → a && b ≡ false → b ≡ true → a ≡ false
first_false true b t e = absurd (false≢true (sym t ∙ e))
first_false false b t e = refl

-- the count of a result: 257 says that there is none
some_counted : (r : Option ℕ) {n : ℕ} → IfSome r (λ m. m ≤ 256) → n ≤ 256 → count_of r ≡ n → r ≡ Some n
some_counted (Some m) few l e = ap Some e
some_counted None few l e = absurd (omega arith)

none_counted : (r : Option ℕ) → IfSome r (λ m. m ≤ 256) → count_of r ≡ 257 → r ≡ None
none_counted (Some m) few e = absurd (omega arith)
none_counted None few e = refl

-- ---- h and then w, put into a frame of 256 bytes
module _ (h w frame : List ℕ) {fits : Bool} {between left : List ℕ} {count : ℕ} (r : Option ℕ) (size : length frame ≡ 256)
    (head : (count ≡ length h) × (between ≡ sets frame 0 h)) (few : IfSome r (λ n. n ≤ 256))
    (side : Emits fits w between count left (count_of r)) where
  sum : length (h ++ w) ≡ length h + length w
  sum = length-append h w

  pub frame_whole : leb (length (h ++ w)) 256 && fits ≡ true
      → (r ≡ Some (length (h ++ w))) × (take (length (h ++ w)) left ≡ h ++ w)
  frame_whole t =
      let p = (and-eq-true_iff (leb (length (h ++ w)) 256) fits).0 t in
      let short = leb-true (length (h ++ w)) 256 p.0 in
      let e = side.put p.1 (omega (arith, sum, head.0, short)) in
      let bytes : left ≡ sets frame 0 (h ++ w) =
      e.1
      ∙ ap (λ (m : List ℕ). sets m count w) head.1
      ∙ ap (λ (n : ℕ). sets (sets frame 0 h) n w) head.0
      ∙ sym (sets_parts frame h w) in (
        some_counted r few short (e.0 ∙ omega (arith, sum, head.0)),
        ap (take (length (h ++ w))) bytes ∙ first_bytes frame (h ++ w) (omega (arith, size, short)),
      )

  pub frame_over : leb (length (h ++ w)) 256 && fits ≡ false → r ≡ None
  frame_over t =
      none_counted r few
      (side.over (λ e. omega (arith, sum, head.0, leb-false (length (h ++ w)) 256 (first_false _ fits t e))))
