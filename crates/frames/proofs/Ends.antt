-- Where a line ends, and whether its characters are digits, as the searches of the code tell it.
-- One character further.
use Prim.Native.Nat.{ℕ, zero, suc, ◌+◌, ◌<◌}
use native.Mathlib.Omega.{arith}
use native.Mathlib.Numerals.{add-one}
use mathlib.Core.Path.{◌≡◌, refl, sym}
use mathlib.Core.Bool.{Bool, true, false, and-false}
use mathlib.Core.List.{List, [], ◌∷◌}
use lib.ListN.{length}
use borrow.Author.Tests.{eq-eqb, ne_eqb}
use Rattle.std.specs.Bool.{MatchBool}
use Rattle.std.specs.List.{AllWithin, HoldsAt}
use Rattle.digits.specs.Digits.{is_digit}
use Rattle.frames.specs.Lines.{all_digits}
use Rattle.frames.specs.FrameAt.{first_length}

pub size_hit : (c : ℕ) (s : List ℕ) → c ≡ 10 → first_length (c ∷ s) ≡ 0
unfolding first_length
size_hit c s eq = rw (eq-eqb c 10 eq) refl

pub size_past : (c : ℕ) (s : List ℕ) → (c ≡ 10 → ⊥) → first_length (c ∷ s) ≡ first_length s + 1
unfolding first_length
size_past c s ne = rw (ne_eqb c 10 ne, add-one) refl

each_digit : (s : List ℕ) → AllWithin (λ c. is_digit c ≡ true) s 0 (length s) → all_digits s ≡ true
unfolding all_digits
each_digit [] h = refl
each_digit (c ∷ s) h =
    rw (h 0 0 (omega arith) (omega arith), each_digit s (λ k d l m. h (suc k) d (omega arith) (omega arith))) refl

one_none : (s : List ℕ) (k : ℕ) → k < length s → HoldsAt (λ c. is_digit c ≡ false) s k → all_digits s ≡ false
unfolding all_digits
one_none [] k l h = absurd (omega arith)
one_none (c ∷ s) zero l h = rw (h 0) refl
one_none (c ∷ s) (suc k) l h = rw (one_none s k (omega arith) h, and-false) refl

pub digits_said : (b : Bool) (s : List ℕ) → MatchBool b (AllWithin (λ c. is_digit c ≡ true) s 0 (length s))
    ((k : ℕ) × (k < length s) × HoldsAt (λ c. is_digit c ≡ false) s k) → b ≡ all_digits s
digits_said true s h = sym (each_digit s h)
digits_said false s h = sym (one_none s h.0 h.1 h.2)
