-- DEFINITIONS: rows of sets: eight words each, one after the other in a list of words.
-- Row i has number k where bit k of its eight words is set; so it is bit i * 512 + k of the whole list.
use Rattle.std.specs.Prelude.{ℕ, zero, suc, ◌+◌, ◌*◌, ◌/◌, ◌%◌, ◌≡◌, Bool, true, not, cond, ◌&&◌, ◌||◌, List}
use Rattle.std.specs.Prelude.{eqb, ltb, leb, length, ◌<◌, Option, Some, None, IfSome}
use Rattle.std.specs.Bool.{beq}
use Rattle.truth.specs.Bits.{bit_of, updated}

-- row number i
unfoldable pub row_of : List ℕ → ℕ → ℕ → Bool
row_of ws i k = ltb k 512 && bit_of ws (i * 512 + k)

-- f is not b at k
abbrev pub unlike : (ℕ → Bool) → Bool → ℕ → Bool
unlike f b k = not (beq (f k) b)

-- the numbers of a set at which f is not b
unfoldable pub unlike_in : (set f : ℕ → Bool) → Bool → ℕ → Bool
unlike_in set f b k = set k && unlike f b k

-- one set and another
unfoldable pub joined : (ℕ → Bool) → (ℕ → Bool) → ℕ → Bool
joined f g k = f k || g k

-- the last number below n that p has; 512 where there is none
unfoldable pub last_below : ℕ → (ℕ → Bool) → ℕ
last_below zero p = 512
last_below (suc n) p = cond (p n) n (last_below n p)

-- a last number as an answer: None stands for the number 512
abbrev pub number_of : Option ℕ → ℕ
number_of None = 512
number_of (Some k) = k

-- r is the last number below 512 that p has; None where there is none
pub record LastOf (p : ℕ → Bool) (r : Option ℕ) : Type 0 where
  pub number : number_of r ≡ last_below 512 p
  pub small : IfSome r (λ k. k < 512)

-- bit `at` is set; where it is past the last word nothing is
abbrev pub with_bit : List ℕ → ℕ → ℕ → Bool
with_bit ws at = cond (ltb (at / 64) (length ws)) (updated (bit_of ws) at true) (bit_of ws)

-- row i is this set; where it is not there with all its eight words nothing changes
unfoldable pub replaced : (ℕ → Bool) → ℕ → (ℕ → Bool) → ℕ → Bool
replaced f i set n = cond (eqb (n / 512) i) (set (n % 512)) (f n)

abbrev pub with_row : List ℕ → ℕ → (ℕ → Bool) → ℕ → Bool
with_row ws i set = cond (leb (i * 8 + 8) (length ws)) (replaced (bit_of ws) i set) (bit_of ws)

-- the words of a lent list after its bits became f: as many as before
pub record Becomes (entry exit : List ℕ) (f : ℕ → Bool) : Type 0 where
  pub bits : bit_of exit ≡ f
  pub size : length exit ≡ length entry
