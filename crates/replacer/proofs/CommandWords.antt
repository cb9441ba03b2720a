-- The words of the command, character by character: decimal digits, the number that they say, the bytes decoded.
-- A number that has reached 8 stays there, whatever follows.
use Prim.Native.Nat.{ℕ, ◌+◌, ◌-◌, ◌*◌, ◌/◌, ◌≤◌, ◌<◌, min}
use native.Mathlib.Omega.{arith}
use native.Mathlib.Decide.{dec_le}
use native.Mathlib.Numerals.{add-one}
use mathlib.Core.Path.{◌≡◌, refl, sym, ap, ◌∙◌}
use mathlib.Core.Bool.{Bool, ◌&&◌}
use mathlib.Core.List.{List, [], ◌∷◌}
use lib.ListN.{length, get_or, take, drop, set, drop_of_length-le}
use lib.Seq.{drop-cons, take-suc, take-suc-set}
use Rattle.std.specs.List.{list_all}
use Rattle.digits.specs.Digits.{bytes_of}
use Rattle.digits.proofs.Pairs.{length_bytes}
use Rattle.replacer.specs.Printed.{is_decimal, all_decimal, decimal_behind}

-- ---- decimal digits
pub all_told : (w : List ℕ) → list_all is_decimal w ≡ all_decimal w
unfolding all_decimal
all_told [] = refl
all_told (c ∷ w) = ap (λ (b : Bool). is_decimal c && b) (all_told w)

-- ---- the number
over_stays : (n : ℕ) (w : List ℕ) → 8 ≤ n → 8 ≤ decimal_behind n w
unfolding decimal_behind
over_stays n [] h = h
over_stays n (c ∷ w) h = over_stays (10 * n + (c - 48)) w (omega arith)

cut_same : (m : ℕ) (w : List ℕ) → min (decimal_behind (min m 8) w) 8 ≡ min (decimal_behind m w) 8
cut_same m w = elim (dec_le m 8) [
  | yes h ↦ let e : min m 8 ≡ m = omega arith in rw e refl
  | no h ↦
      let e : min m 8 ≡ 8 = omega arith in
      rw e (omega (arith, over_stays 8 w (omega arith), over_stays m w (omega arith)))
]

pub number_none : (n : ℕ) (w : List ℕ) (i : ℕ) → n ≤ 8 → length w ≤ i → min (decimal_behind n (drop i w)) 8 ≡ n
unfolding decimal_behind
number_none n w i small h = rw (drop_of_length-le w {i = i} h) (omega arith)

pub number_more : (n : ℕ) (w : List ℕ) (i : ℕ) → i < length w
    → min (decimal_behind (min (10 * n + (get_or w i 0 - 48)) 8) (drop (i + 1) w)) 8 ≡ min (decimal_behind n (drop i w)) 8
unfolding decimal_behind
number_more n w i h =
    cut_same (10 * n + (get_or w i 0 - 48)) (drop (i + 1) w) ∙ rw (drop-cons w i 0 h, add-one i) refl

-- ---- bytes put into a list
pub decoded_more : (w list : List ℕ) (i b : ℕ) → take i list ≡ take i (bytes_of w) → i < length list → i < length w / 2
    → b ≡ get_or (bytes_of w) i 0 → take (i + 1) (set list i b) ≡ take (i + 1) (bytes_of w)
decoded_more w list i b first room there e =
    rw (add-one i, take-suc-set list i b room, first, e) (sym (take-suc (bytes_of w) i 0 (omega (arith, length_bytes w))))
