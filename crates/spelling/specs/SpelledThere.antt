-- Definitions that the theorems of `proofs/SpelledThere` speak of.
-- Each stands alone; what follows from them is there.
use Prim.Native.Nat.{ℕ, ◌+◌, ◌≤◌}
use Rattle.std.specs.Prelude.{◌≡◌, length}
use mathlib.Core.List.{List}
use Rattle.spelling.specs.Stands.{Stands}

-- ---- the bytes w end at e, and stand at a place, if e is inside
pub record There (s : List ℕ) (at : ℕ) (w : List ℕ) (e : ℕ) : Type 0 where
  pub end : e ≡ at + length w
  pub stands : e ≤ length s → Stands s at w
