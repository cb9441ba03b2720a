-- Which characters are digits; both cases of one are worth the same, so the bytes of characters are those of them in
-- small letters; all that is written is in small letters. Tests that are computed at all bytes, then ranges of letters.
use Prim.Native.Nat.{ℕ, ◌+◌, ◌-◌, ◌/◌, ◌%◌, ◌≤◌, ◌<◌}
use native.Mathlib.Omega.{arith}
use native.Mathlib.Decide.{dec_lt}
use mathlib.Core.Path.{◌≡◌, refl, ap, ap₂, ◌∙◌}
use mathlib.Core.Bool.{Bool, true, false, cond, ◌&&◌, ◌||◌, and-false, and-eq-true_iff}
use mathlib.Core.List.{List, [], ◌∷◌, ◌++◌, map-append}
use lib.Dec.{leb, eqb, eqb→eq}
use lib.ListN.{replicate}
use borrow.Author.Tests.{le-leb, lt-leb, leb-true, leb-false}
use Rattle.meaning.specs.Logic.{cases}
use Rattle.digits.specs.Digits.{worth_of, is_digit, digit_of, bytes_of, characters}
use Rattle.digits.specs.Digits.{small_letter, in_small_letters}
use Rattle.digits.proofs.Table.{at}

-- no character past a byte is a digit
pub past_bytes : (c : ℕ) → 256 ≤ c → worth_of c ≡ 255
past_bytes c h =
    let l : 57 < c = omega arith in
    let m : 102 < c = omega arith in
    let n : 70 < c = omega arith in
    simp (lt-leb c 57, lt-leb c 102, lt-leb c 70, and-false)

-- ---- "0-9 and a-f", and A-F: no other character is a digit
abbrev between : ℕ → ℕ → ℕ → Bool
between first last c = leb first c && leb c last

up_to : (first last c : ℕ) → between first last c ≡ true → c ≤ last
up_to first last c h = leb-true c last ((and-eq-true_iff (leb first c) (leb c last)).0 h).1

pub the_digits : (c : ℕ) → is_digit c ≡ (between 48 57 c || (between 97 102 c || between 65 70 c))
the_digits c = each (between 48 57 c) (between 97 102 c) (between 65 70 c) refl refl refl
  where
    each : (n s l : Bool) → between 48 57 c ≡ n → between 97 102 c ≡ s → between 65 70 c ≡ l
        → leb (cond n (c - 48) (cond s (c - 87) (cond l (c - 55) 255))) 15 ≡ (n || (s || l))
    each true s l p q r = le-leb (c - 48) 15 (omega (arith, up_to 48 57 c p))
    each false true l p q r = le-leb (c - 87) 15 (omega (arith, up_to 97 102 c q))
    each false false true p q r = le-leb (c - 55) 15 (omega (arith, up_to 65 70 c r))
    each false false false p q r = refl

-- ---- read
same_worth : ℕ → ℕ → Bool
same_worth c x = eqb (worth_of (small_letter c)) (worth_of c)

pub small_letter_worth : (c : ℕ) → worth_of (small_letter c) ≡ worth_of c
unfolding same_worth
small_letter_worth c = elim (dec_lt c 256) [
  | yes h ↦ eqb→eq _ (worth_of c) (at same_worth (replicate 256 0) tt c h)
  | no h ↦
      let n : 70 < c = omega arith in
      let same : small_letter c ≡ c = simp (lt-leb c 70, and-false) in
      ap worth_of same
]

pub bytes_in_small : (s : List ℕ) → bytes_of (in_small_letters s) ≡ bytes_of s
unfolding bytes_of
bytes_in_small [] = refl
bytes_in_small (c ∷ []) = refl
bytes_in_small (c ∷ d ∷ s) = rw (small_letter_worth c, small_letter_worth d, bytes_in_small s) refl

-- ---- written
digit_small : (n : ℕ) → small_letter (digit_of n) ≡ digit_of n
digit_small n = each (leb n 9) (leb n 15) refl refl
  where
    each : (b c : Bool) → leb n 9 ≡ b → leb n 15 ≡ c
        → small_letter (cond b (n + 48) (cond c (n + 87) 0)) ≡ cond b (n + 48) (cond c (n + 87) 0)
    each true c p q = simp (lt-leb 65 (n + 48) (omega (arith, leb-true n 9 p)))
    each false true p q = simp (lt-leb (n + 87) 70 (omega (arith, leb-false n 9 p)), and-false)
    each false false p q = refl

pub characters_small : (bs : List ℕ) → in_small_letters (characters bs) ≡ characters bs
unfolding characters
characters_small [] = refl
characters_small (b ∷ bs) = rw (digit_small (b / 16), digit_small (b % 16), characters_small bs) refl

pub append_small : (s r : List ℕ) → in_small_letters s ≡ s → in_small_letters r ≡ r → in_small_letters (s ++ r) ≡ s ++ r
append_small s r p q = map-append small_letter s r ∙ ap₂ (λ (x y : List ℕ). x ++ y) p q

-- ---- and once made small nothing is left to be
twice_small : (c : ℕ) → small_letter (small_letter c) ≡ small_letter c
twice_small c = cases (leb 65 c && leb c 70)
    (λ e.
    let capital : 65 ≤ c = leb-true 65 c ((and-eq-true_iff (leb 65 c) (leb c 70)).0 e).0 in
    rw (e, lt-leb (c + 32) 70 (omega arith), and-false) refl)
    (λ e. rw (e, e) refl)

pub small_once : (s : List ℕ) → in_small_letters (in_small_letters s) ≡ in_small_letters s
small_once [] = refl
small_once (c ∷ s) = ap₂ (λ (x : ℕ) (xs : List ℕ). x ∷ xs) (twice_small c) (small_once s)
