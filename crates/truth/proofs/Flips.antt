-- A set with one word replaced, so that one bit of it is b: `put` turns the bit over by xor with 2 ^ k where it is wrong.
-- Digit m of `w xor 2 ^ k` is that of w, but turned over where m is k.
use mathlib.Core.Path.{◌≡◌, refl, sym, ap, ◌∙◌}
use mathlib.Core.Bool.{Bool, true, false, not, beq, true≢false}
use mathlib.Core.List.{List}
use Prim.Native.Nat.{ℕ, ◌/◌, ◌%◌, ◌^◌, ◌<◌}
use native.Mathlib.Decide.{ℕ_discrete}
use native.Mathlib.Omega.{arith}
use lib.Bits.{bit_xor}
use lib.ListN.{length, get_or, set}
use lib.Seq.{get_or-set_same, get_or-set_other}
use borrow.Author.Tests.{not-true, not-false}
use Rattle.truth.specs.Bits.{bit_of, updated}
use Rattle.truth.proofs.Bits.{updated_is, beq_self, beq_eq}
use Rattle.truth.proofs.Digits.{lit, op_lit, xor_digits, either, pow_same, pow_other}

-- ---- a set with one word replaced by one that differs in a bit
pub word_updated : (ws : List ℕ) (j v : ℕ) (b : Bool) → j / 64 < length ws → lit v (j % 64) ≡ b
    → ((m : ℕ) → (m ≡ j % 64 → ⊥) → lit v m ≡ lit (get_or ws (j / 64) 0) m) → bit_of (set ws (j / 64) v) ≡ updated (bit_of ws) j b
unfolding bit_of
word_updated ws j v b h here other =
    updated_is _ _ j b (rw (get_or-set_same ws (j / 64) v 0 h) here) (λ k ne. elim (ℕ_discrete (k / 64) (j / 64)) [
      | yes e ↦ rw (e, get_or-set_same ws (j / 64) v 0 h) (other (k % 64) (λ q. ne (omega arith)))
      | no n ↦ ap (λ (x : ℕ). lit x (k % 64)) (get_or-set_other ws (j / 64) (k / 64) v 0 n)
    ])

-- ---- a test of two Bools
not_is : (a b : Bool) → (a ≡ b → ⊥) → not a ≡ b
not_is true true f = absurd (f refl)
not_is true false f = refl
not_is false true f = refl
not_is false false f = absurd (f refl)

pub beq_same : (a b : Bool) → not (beq a b) ≡ false → a ≡ b
beq_same a b e = beq_eq a b (not-false _ e)

pub beq_other : (a b : Bool) → not (beq a b) ≡ true → a ≡ b → ⊥
beq_other a b e q = true≢false (sym (beq_self b) ∙ ap (λ (x : Bool). beq x b) (sym q) ∙ not-true _ e)

-- ---- what `put` does, where the bit is wrong and where it is right
pub put_flips : (ws : List ℕ) (j : ℕ) (b : Bool) → j / 64 < length ws → (bit_of ws j ≡ b → ⊥)
    → bit_of (set ws (j / 64) (bit_xor (get_or ws (j / 64) 0) (2 ^ (j % 64)))) ≡ updated (bit_of ws) j b
unfolding bit_of
put_flips ws j b h ne =
    let w = get_or ws (j / 64) 0 in
    let k = j % 64 in
    word_updated ws j _ b h (op_lit xor_digits w (2 ^ k) k ∙ ap (either (lit w k)) (pow_same k) ∙ not_is (lit w k) b ne)
    (λ m n. op_lit xor_digits w (2 ^ k) m ∙ ap (either (lit w m)) (pow_other k m n))

pub put_keeps : (f : ℕ → Bool) (j : ℕ) (b : Bool) → f j ≡ b → f ≡ updated f j b
put_keeps f j b e = updated_is f f j b e (λ k n. refl)
