-- ONE REPLY: for each public function two results that its contract allows are equal.
-- A set is eight words of 64 bits, as its type says: sets with the same bits are the same words, and so are lists of one length.
use Prim.Native.Nat.{ℕ, ◌+◌, ◌*◌, ◌<◌, ◌^◌}
use mathlib.Core.Path.{◌≡◌, refl, sym, ap, ◌∙◌}
use mathlib.Core.Bool.{Bool}
use mathlib.Core.List.{List}
use lib.ListN.{length, get_or}
use lib.Seq.{ext_get_or}
use native.Mathlib.Omega.{arith}
use Rattle.meaning.specs.OneReply.{one_reply}
use Rattle.truth.specs.Bits.{bit_of, put_in, nowhere, same_below, Counts}
use Rattle.truth.specs.Rows.{row_of, unlike_in, joined, number_of, LastOf, with_bit, with_row, Becomes}
use Rattle.std.specs.Prelude.{Option, Some, None, IfSome}
use Rattle.truth.proofs.Bits.{Eight, words_unique, equal_words}

-- one set has the bits that f says
pub one_set : {f : ℕ → Bool} {r s : List ℕ} → Eight r → Eight s → bit_of r ≡ f → bit_of s ≡ f → r ≡ s
one_set r_eight s_eight p q =
    words_unique _ _ r_eight s_eight (λ j l. ap (λ (f : ℕ → Bool). f j) (one_reply p q))

pub one_none : {r s : List ℕ} → Eight r → Eight s → bit_of r ≡ nowhere → bit_of s ≡ nowhere → r ≡ s
one_none = one_set

pub one_has : (t : List ℕ) (j : ℕ) {r s : Bool} → r ≡ bit_of t j → s ≡ bit_of t j → r ≡ s
one_has t j = one_reply

pub one_put : (t : List ℕ) (j : ℕ) (b : Bool) {r s : List ℕ} → Eight r → Eight s
    → bit_of r ≡ put_in (bit_of t) j b → bit_of s ≡ put_in (bit_of t) j b → r ≡ s
one_put t j b = one_set

pub one_same : (a b : List ℕ) {r s : Bool}
    → r ≡ same_below 512 (bit_of a) (bit_of b) → s ≡ same_below 512 (bit_of a) (bit_of b) → r ≡ s
one_same a b = one_reply

pub one_count : (t : List ℕ) {r s : ℕ} → Counts t r → Counts t s → r ≡ s
one_count t p q = one_reply p.0 q.0

pub one_row_has : (rows : List ℕ) (i k : ℕ) {r s : Bool} → r ≡ row_of rows i k → s ≡ row_of rows i k → r ≡ s
one_row_has rows i k = one_reply

pub one_last_unlike : (rows : List ℕ) (i : ℕ) (t : List ℕ) (b : Bool) {r s : Option ℕ}
    → LastOf (unlike_in (row_of rows i) (bit_of t) b) r → LastOf (unlike_in (row_of rows i) (bit_of t) b) s → r ≡ s
one_last_unlike rows i t b p q = one_number _ _ p.small q.small (p.number ∙ sym q.number)
  where
    -- None stands for 512, and no other number does
    one_number : (r s : Option ℕ) → IfSome r (λ k. k < 512) → IfSome s (λ k. k < 512) → number_of r ≡ number_of s → r ≡ s
    one_number None None h k e = refl
    one_number None (Some k) h l e = absurd (omega arith)
    one_number (Some k) None h l e = absurd (omega arith)
    one_number (Some k) (Some m) h l e = ap Some e

pub one_with_unlike : (d rows : List ℕ) (i : ℕ) (t : List ℕ) (b : Bool) {r s : List ℕ} → Eight r → Eight s
    → bit_of r ≡ joined (bit_of d) (unlike_in (row_of rows i) (bit_of t) b)
    → bit_of s ≡ joined (bit_of d) (unlike_in (row_of rows i) (bit_of t) b) → r ≡ s
one_with_unlike d rows i t b = one_set

-- words of 64 bits, as many as there are
pub record Wide (ws : List ℕ) : Type 0 where
  pub fits : (i : ℕ) → i < length ws → get_or ws i 0 < 2 ^ 64

-- one lent list has as many words as before and the bits that f says
one_list : {entry r s : List ℕ} {f : ℕ → Bool} → Wide r → Wide s → Becomes entry r f → Becomes entry s f → r ≡ s
one_list {r = r} {s = s} r_wide s_wide p q =
    let n : length r ≡ length s = p.size ∙ sym q.size in
    ext_get_or 0 r s n (λ i l. equal_words r s i (r_wide.fits i l) (s_wide.fits i (omega arith))
    (λ m h. ap (λ (f : ℕ → Bool). f (i * 64 + m)) (p.bits ∙ sym q.bits)))

pub one_mark : (entry : List ℕ) (at : ℕ) {r s : List ℕ} → Wide r → Wide s
    → Becomes entry r (with_bit entry at) → Becomes entry s (with_bit entry at) → r ≡ s
one_mark entry at = one_list

pub one_put_row : (entry : List ℕ) (i : ℕ) (t : List ℕ) {r s : List ℕ} → Wide r → Wide s
    → Becomes entry r (with_row entry i (bit_of t)) → Becomes entry s (with_row entry i (bit_of t)) → r ≡ s
one_put_row entry i t = one_list
