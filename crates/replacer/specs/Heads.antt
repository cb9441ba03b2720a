-- Definitions that the theorems of `proofs/Heads` speak of.
-- Each stands alone; what follows from them is there.
use Rattle.std.specs.Prelude.{ℕ, List, ◌++◌, take}
use Rattle.replacer.specs.Replaced.{head_size}

-- a frame with another right side
abbrev pub frame_with : List ℕ → List ℕ → List ℕ
frame_with f side = take (head_size f) f ++ side
