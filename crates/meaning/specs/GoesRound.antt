-- Definitions that the theorems of `proofs/GoesRound` speak of.
-- Each stands alone; what follows from them is there.
use Rattle.std.specs.Prelude.{ℕ, ◌<◌, ◌≡◌, ℤ, pos, ◌-ℤ◌, ◌*ℤ◌}

-- DEFINITION: "a multiple of r", among the integers
pub record MultipleOf (r : ℕ) (x : ℤ) : Type 0 where
  pub times : ℤ
  pub equals : x ≡ times *ℤ pos r

-- DEFINITION: d is "the number from 0 to r-1 that differs from a-b by a multiple of r"
pub record GoesRound (r a b d : ℕ) : Type 0 where
  pub below : d < r
  pub differs : MultipleOf r (pos d -ℤ (pos a -ℤ pos b))
