-- The bytes of some characters, one by one, and those of the first and of others behind them.
-- By induction on the characters, two at a time.
use Prim.Native.Nat.{ℕ, zero, suc, ◌+◌, ◌*◌, ◌/◌, ◌%◌, ◌≤◌, ◌<◌}
use native.Mathlib.Omega.{arith}
use mathlib.Core.Path.{◌≡◌, refl, ap}
use mathlib.Core.Bool.{Bool, true, false, cond, ◌&&◌}
use mathlib.Core.List.{List, [], ◌∷◌, ◌++◌}
use lib.Dec.{leb}
use lib.ListN.{length, get_or, take, get_or-eq_default}
use borrow.Author.Tests.{leb-true}
use Rattle.digits.specs.Digits.{worth_of, pair_of, bytes_of}

pub length_bytes : (s : List ℕ) → length (bytes_of s) ≡ length s / 2
unfolding bytes_of
length_bytes [] = refl
length_bytes (c ∷ []) = refl
length_bytes (c ∷ d ∷ s) = omega (arith, length_bytes s)

pub byte_in : (s : List ℕ) (i : ℕ) → i < length s / 2
    → get_or (bytes_of s) i 0 ≡ pair_of (worth_of (get_or s (2 * i) 0)) (worth_of (get_or s (2 * i + 1) 0))
unfolding bytes_of
byte_in [] i h = absurd (omega arith)
byte_in (c ∷ []) i h = absurd (omega arith)
byte_in (c ∷ d ∷ s) zero h = refl
byte_in (c ∷ d ∷ s) (suc i) h =
    let e : 2 * suc i ≡ suc (suc (2 * i)) = omega arith in
    let f : suc (suc (2 * i)) + 1 ≡ suc (suc (2 * i + 1)) = omega arith in
    rw (e, f) (byte_in s i (omega arith))

pub byte_beyond : (s : List ℕ) (i : ℕ) → length s / 2 ≤ i → get_or (bytes_of s) i 0 ≡ 0
byte_beyond s i h = get_or-eq_default (bytes_of s) 0 {n = i} (omega (arith, length_bytes s))

pair_small : (high low : ℕ) → pair_of high low < 256
pair_small high low = small (leb high 15) (leb low 15) refl refl
  where
    small : (a b : Bool) → leb high 15 ≡ a → leb low 15 ≡ b → cond (a && b) (high * 16 + low) 0 < 256
    small true true p q = omega (arith, leb-true high 15 p, leb-true low 15 q)
    small true false p q = omega arith
    small false b p q = omega arith

pub bytes_small : (s : List ℕ) (i : ℕ) → get_or (bytes_of s) i 0 < 256
unfolding bytes_of
bytes_small [] i = omega arith
bytes_small (c ∷ []) i = omega arith
bytes_small (c ∷ d ∷ s) zero = pair_small (worth_of c) (worth_of d)
bytes_small (c ∷ d ∷ s) (suc i) = bytes_small s i

-- ---- parts
pub bytes_append : (a b : List ℕ) → length a % 2 ≡ 0 → bytes_of (a ++ b) ≡ bytes_of a ++ bytes_of b
unfolding bytes_of
bytes_append [] b e = refl
bytes_append (c ∷ []) b e = absurd (omega arith)
bytes_append (c ∷ d ∷ a) b e =
    ap (λ (l : List ℕ). pair_of (worth_of c) (worth_of d) ∷ l) (bytes_append a b (omega arith))

pub bytes_take : (n : ℕ) (s : List ℕ) → bytes_of (take (2 * n) s) ≡ take n (bytes_of s)
unfolding bytes_of
bytes_take zero s = refl
bytes_take (suc n) [] = let two : 2 * suc n ≡ suc (suc (2 * n)) = omega arith in rw two refl
bytes_take (suc n) (c ∷ []) = let two : 2 * suc n ≡ suc (suc (2 * n)) = omega arith in rw two refl
bytes_take (suc n) (c ∷ d ∷ s) =
    let two : 2 * suc n ≡ suc (suc (2 * n)) = omega arith in
    rw two (ap (λ (l : List ℕ). pair_of (worth_of c) (worth_of d) ∷ l) (bytes_take n s))
