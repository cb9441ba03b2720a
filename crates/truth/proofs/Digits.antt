-- LAWS of a word's digits: digit m of `a & b`, `a | b`, `a ^ b` and `!a` is told by digit m of a and of b; the digits of 2 ^ k.
-- Each operation passes through shifts and masks, so one law serves all; `!a` is `a ^ b` where all digits of b are 1.
use mathlib.Core.Path.{◌≡◌, refl, sym, ap, ap₂, ◌∙◌}
use mathlib.Core.Bool.{Bool, true, false, not, ◌&&◌, ◌||◌}
use Prim.Native.Nat.{ℕ, suc, ◌+◌, ◌-◌, ◌/◌, ◌%◌, ◌^◌, ◌<◌, ◌≤◌}
use native.Mathlib.Nat.{div-eq_of_lt, mod-eq_of_lt, one-mul, lt_of_lt_of_le}
use native.Mathlib.Decide.{dec_lt}
use native.Mathlib.Omega.{arith}
use lib.Dec.{eqb}
use lib.Bits.{bit_and, bit_or, bit_xor, and_shr, or_shr, xor_shr, and_mod, or_mod, xor_mod, and_mask, xor_add_and, shifted_even}
use lib.Pow.{pow-lt, pow_mono, pow-add, shl-shr, shr_lt, shr_mono, high, low, ones_lt, ones_split}
use Rattle.truth.specs.Bits.{digit, bit}
use Rattle.truth.proofs.Bits.{digit_two, digit_told}

-- digit m of w is 1
abbrev pub lit : ℕ → ℕ → Bool
lit w m = eqb (digit w m) 1

-- ---- digits under an operation
-- op does to each digit apart what f does to truth values
pub record Digitwise (op : ℕ → ℕ → ℕ) (f : Bool → Bool → Bool) : Type 0 where
  pub high_part : (a b k : ℕ) → op a b / 2 ^ k ≡ op (a / 2 ^ k) (b / 2 ^ k)
  pub low_part : (a b k : ℕ) → op a b % 2 ^ k ≡ op (a % 2 ^ k) (b % 2 ^ k)
  pub told : (x y : Bool) → eqb (op (bit x) (bit y)) 1 ≡ f x y

pub op_lit : {op : ℕ → ℕ → ℕ} {f : Bool → Bool → Bool} → Digitwise op f → (a b m : ℕ) → lit (op a b) m ≡ f (lit a m) (lit b m)
op_lit {op} d a b m =
    ap (λ (x : ℕ). eqb (x % 2) 1) (d.high_part a b m)
    ∙ ap (λ (x : ℕ). eqb x 1) (d.low_part (a / 2 ^ m) (b / 2 ^ m) 1
    ∙ ap₂ op (digit_told (digit a m) (digit_two a m)) (digit_told (digit b m) (digit_two b m)))
    ∙ d.told (lit a m) (lit b m)

four : (P : Bool → Bool → Type 0) → P true true → P true false → P false true → P false false → (x y : Bool) → P x y
four P a b c d true true = a
four P a b c d true false = b
four P a b c d false true = c
four P a b c d false false = d

-- one of two, and not the other
abbrev pub either : Bool → Bool → Bool
either x true = not x
either x false = x

pub and_digits : Digitwise bit_and ◌&&◌
and_digits = record {
  high_part = and_shr;
  low_part = and_mod;
  told = four (λ (x y : Bool). eqb (bit_and (bit x) (bit y)) 1 ≡ x && y) refl refl refl refl;
}

pub or_digits : Digitwise bit_or ◌||◌
or_digits = record {
  high_part = or_shr;
  low_part = or_mod;
  told = four (λ (x y : Bool). eqb (bit_or (bit x) (bit y)) 1 ≡ x || y) refl refl refl refl;
}

pub xor_digits : Digitwise bit_xor either
xor_digits = record {
  high_part = xor_shr;
  low_part = xor_mod;
  told = four (λ (x y : Bool). eqb (bit_xor (bit x) (bit y)) 1 ≡ either x y) refl refl refl refl;
}

-- ---- all digits 1, and `!a`
ones_digit : (d m : ℕ) → digit (2 ^ (suc d + m) - 1) m ≡ 1
ones_digit d m =
    let e : d + 1 ≡ suc d = omega arith in
    ap (λ (x : ℕ). x / 2 ^ m % 2) (ones_split (suc d) m) ∙ ap (λ (x : ℕ). x % 2) (high (2 ^ suc d - 1) m (ones_lt m))
    ∙ ap (λ (k : ℕ). (2 ^ k - 1) % 2) (sym e) ∙ ap (λ (x : ℕ). x % 2) (ones_split d 1) ∙ low (2 ^ d - 1) 1 (ones_lt 1)

ones_lit : (m : ℕ) → m < 64 → lit (2 ^ 64 - 1) m ≡ true
ones_lit m h =
    let e : suc (63 - m) + m ≡ 64 = omega arith in
    ap (λ (k : ℕ). lit (2 ^ k - 1) m) (sym e) ∙ ap (λ (x : ℕ). eqb x 1) (ones_digit (63 - m) m)

pub not_lit : (a m : ℕ) → a < 2 ^ 64 → m < 64 → lit ((2 ^ 64 - 1) - a) m ≡ not (lit a m)
not_lit a m h l =
    let ones : ℕ = 2 ^ 64 - 1 in
    let sum = xor_add_and a ones in
    let all : bit_and a ones ≡ a = and_mask a 64 ∙ mod-eq_of_lt h in
    let e : ones - a ≡ bit_xor a ones = omega (arith, sum, all, h) in
    ap (λ (x : ℕ). lit x m) e ∙ op_lit xor_digits a ones m ∙ ap (either (lit a m)) (ones_lit m l)

-- ---- the digits of 2 ^ k
pub pow_same : (k : ℕ) → lit (2 ^ k) k ≡ true
pow_same k = ap (λ (x : ℕ). lit x k) (sym (one-mul (2 ^ k))) ∙ ap (λ (x : ℕ). eqb (x % 2) 1) (shl-shr 1 k)

pow_below : (m d : ℕ) → digit (2 ^ (suc d + m)) m ≡ 0
pow_below m d =
    ap (λ (x : ℕ). x / 2 ^ m % 2) (pow-add 2 (suc d) m) ∙ ap (λ (x : ℕ). x % 2) (shl-shr (2 ^ suc d) m)
    ∙ ap (λ (x : ℕ). x % 2) (sym (one-mul (2 ^ suc d))) ∙ shifted_even 1 d

-- no digit is 1 from a number's length on
pub lit_above : (w n m : ℕ) → w < 2 ^ n → n ≤ m → lit w m ≡ false
lit_above w n m h l = ap (λ (x : ℕ). eqb (x % 2) 1) (div-eq_of_lt (lt_of_lt_of_le h (pow_mono l)))

pub pow_other : (k m : ℕ) → (m ≡ k → ⊥) → lit (2 ^ k) m ≡ false
pow_other k m ne =
    elim (dec_lt m k) [
      | yes l ↦ let e : suc (k - suc m) + m ≡ k = omega arith in
          ap (λ (x : ℕ). lit (2 ^ x) m) (sym e) ∙ ap (λ (x : ℕ). eqb x 1) (pow_below m (k - suc m))
      | no n ↦ lit_above (2 ^ k) (suc k) m (pow-lt (omega arith)) (omega arith)
    ]

-- the highest digit that is 1
pub lit_top : (w j : ℕ) → 2 ^ j ≤ w → w < 2 ^ suc j → lit w j ≡ true
lit_top w j l h =
    let e : 1 + j ≡ suc j = omega arith in
    let up : 2 ^ j / 2 ^ j ≡ 1 = ap (λ (x : ℕ). x / 2 ^ j) (sym (one-mul (2 ^ j))) ∙ shl-shr 1 j in
    let low : 2 ^ j / 2 ^ j ≤ w / 2 ^ j = shr_mono j l in
    let top : w / 2 ^ j < 2 = shr_lt 1 j (rw e h) in
    let one : w / 2 ^ j ≡ 1 = omega (arith, up, low, top) in
    ap (λ (x : ℕ). eqb (x % 2) 1) one
