-- What is written in digits is read back: a digit, the two digits of a byte, the characters of some bytes; and a
-- digit that is read is written in small letters. One test each, computed at all numbers there are.
use mathlib.Core.Path.{◌≡◌, refl, sym, ap, ap₂, subst, ◌∙◌}
use mathlib.Core.Bool.{Bool, true, cond}
use mathlib.Core.List.{List, [], ◌∷◌}
use Prim.Native.Nat.{ℕ, zero, suc, ◌+◌, ◌*◌, ◌/◌, ◌%◌, ◌≤◌, ◌<◌}
use native.Mathlib.Omega.{arith}
use native.Mathlib.Decide.{dec_lt}
use lib.Dec.{T, leb, eqb, eqb→eq}
use lib.ListN.{length, get_or, drop, replicate, length-append}
use lib.Seq.{drop-nil}
use borrow.Author.Tests.{le-leb, leb-true}
use Rattle.digits.specs.Digits.{worth_of, is_digit, pair_of, digit_of, digits_of, bytes_of, characters}
use Rattle.digits.specs.Digits.{small_letter}
use Rattle.digits.proofs.Table.{at}
use Rattle.digits.proofs.Letters.{past_bytes}

digit_back : ℕ → ℕ → Bool
digit_back n x = eqb (worth_of (digit_of n)) n

pub digit_read : (n : ℕ) → n < 16 → worth_of (digit_of n) ≡ n
unfolding digit_back
digit_read n h = eqb→eq (worth_of (digit_of n)) n (at digit_back (replicate 16 0) tt n h)

pub digit_is_digit : (n : ℕ) → n < 16 → is_digit (digit_of n) ≡ true
digit_is_digit n h = ap (λ (w : ℕ). leb w 15) (digit_read n h) ∙ le-leb n 15 (omega arith)

byte_back : ℕ → ℕ → Bool
byte_back b x = eqb (pair_of (worth_of (digit_of (b / 16))) (worth_of (digit_of (b % 16)))) b

pub digits_read : (b : ℕ) → b < 256 → pair_of (worth_of (digit_of (b / 16))) (worth_of (digit_of (b % 16))) ≡ b
unfolding byte_back
digits_read b h = eqb→eq _ b (at byte_back (replicate 256 0) tt b h)

pub bytes_read : (bs : List ℕ) → ((i : ℕ) → get_or bs i 0 < 256) → bytes_of (characters bs) ≡ bs
unfolding characters bytes_of
bytes_read [] h = refl
bytes_read (b ∷ bs) h = ap₂ (λ (c : ℕ) (cs : List ℕ). c ∷ cs) (digits_read b (h 0)) (bytes_read bs (λ i. h (suc i)))

-- ---- the other way round

-- written, a digit is in small letters
as_small : ℕ → ℕ → Bool
as_small c x = cond (is_digit c) (eqb (digit_of (worth_of c)) (small_letter c)) true

pub digit_written : (c : ℕ) → is_digit c ≡ true → digit_of (worth_of c) ≡ small_letter c
unfolding as_small
digit_written c d = elim (dec_lt c 256) [
  | yes h ↦
      let test : Bool → Type 0 = λ (b : Bool). T (cond b (eqb (digit_of (worth_of c)) (small_letter c)) true) in
      eqb→eq _ (small_letter c) (subst test d (at as_small (replicate 256 0) tt c h))
  | no h ↦ absurd (omega (arith, past_bytes c (omega arith), leb-true (worth_of c) 15 d))
]

-- the byte of two digits has these
pair_digits : (w v : ℕ) → w ≤ 15 → v ≤ 15 → digits_of (pair_of w v) ≡ digit_of w ∷ digit_of v ∷ []
pair_digits w v p q =
    let high : (w * 16 + v) / 16 ≡ w = omega arith in
    let low : (w * 16 + v) % 16 ≡ v = omega arith in
    let pair : pair_of w v ≡ w * 16 + v = simp (le-leb w 15 p, le-leb v 15 q) in
    ap digits_of pair ∙ rw (high, low) refl

pub pair_written : (c d : ℕ) → is_digit c ≡ true → is_digit d ≡ true
    → digits_of (pair_of (worth_of c) (worth_of d)) ≡ small_letter c ∷ small_letter d ∷ []
pair_written c d p q =
    pair_digits (worth_of c) (worth_of d) (leb-true _ _ p) (leb-true _ _ q) ∙
    ap₂ (λ (x y : ℕ). x ∷ y ∷ []) (digit_written c p) (digit_written d q)

-- ---- how long, and without the first

pub length_characters : (bs : List ℕ) → length (characters bs) ≡ 2 * length bs
unfolding characters
length_characters [] = refl
length_characters (b ∷ bs) = rw (length-append (digits_of b) (characters bs), length_characters bs) (omega arith)

pub characters_drop : (n : ℕ) (bs : List ℕ) → characters (drop n bs) ≡ drop (2 * n) (characters bs)
unfolding characters
characters_drop zero bs = refl
characters_drop (suc n) [] = sym (drop-nil (2 * suc n))
characters_drop (suc n) (b ∷ bs) =
    let two : 2 * suc n ≡ suc (suc (2 * n)) = omega arith in
    rw two (characters_drop n bs)
