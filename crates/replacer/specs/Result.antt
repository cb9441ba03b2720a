-- Definitions that the theorems of `proofs/Result` speak of.
-- Each stands alone; what follows from them is there.
use Prim.Native.Nat.{ℕ, ◌<◌}
use Rattle.std.specs.Prelude.{get_or}
use mathlib.Core.List.{List}

-- every one of some bytes is a byte
abbrev pub Small : List ℕ → Type 0
Small bytes = (i : ℕ) → get_or bytes i 0 < 256
