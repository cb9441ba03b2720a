-- DEFINITIONS: a set of instances in eight words. Document 01, "What is lent".
-- What a set says is a function from an instance's number to its truth, so that two sets are compared by one
-- equation of functions.
use Rattle.std.specs.Prelude.{◌≡◌, Bool, true, false, cond, ◌&&◌, List, ℕ, zero, suc, ◌+◌, ◌/◌, ◌%◌, ◌^◌, ◌≤◌}
use Rattle.std.specs.Prelude.{eqb, ltb, get_or}
use Rattle.std.specs.Bool.{beq}

-- binary digit k of w, 0 or 1
abbrev pub digit : ℕ → ℕ → ℕ
digit w k = w / 2 ^ k % 2

-- "instance j is bit j mod 64 of word j div 64"
unfoldable pub bit_of : List ℕ → ℕ → Bool
bit_of ws j = eqb (digit (get_or ws (j / 64) 0) (j % 64)) 1

abbrev pub nowhere : ℕ → Bool
nowhere j = false

-- f, but b at j
unfoldable pub updated : (ℕ → Bool) → ℕ → Bool → ℕ → Bool
updated f j b k = cond (eqb k j) b (f k)

-- f with b at j; a number from 512 on leaves it as it is
abbrev pub put_in : (ℕ → Bool) → ℕ → Bool → ℕ → Bool
put_in f j b = cond (ltb j 512) (updated f j b) f

-- f and g agree at every number below n
unfoldable pub same_below : ℕ → (ℕ → Bool) → (ℕ → Bool) → Bool
same_below zero f g = true
same_below (suc n) f g = same_below n f g && beq (f n) (g n)

-- a truth value as a number
abbrev pub bit : Bool → ℕ
bit b = cond b 1 0

-- at how many numbers below n is f true
unfoldable pub count_below : ℕ → (ℕ → Bool) → ℕ
count_below zero f = 0
count_below (suc n) f = count_below n f + bit (f n)

-- r is how many of the 512 instances are in the set
abbrev pub Counts : List ℕ → ℕ → Type 0
Counts ws r = (r ≡ count_below 512 (bit_of ws)) × (r ≤ 512)
