-- A list that is overwritten from its first place on, with one more.
-- It holds for lists of anything, by the library's law of a copy (`paste`) to place 0.
use mathlib.Core.Path.{◌≡◌}
use Prim.Native.Nat.{ℕ, ◌+◌, ◌<◌}
use native.Mathlib.{Nat.zero-add, Numerals.add-one, Omega.arith}
use mathlib.Core.List.{List, ◌++◌}
use lib.ListN.{length, get_or, set, take, drop}
use lib.Seq.{paste-suc}

module _ {A : Type 0} where
  pub overwritten_more : (i : ℕ) (es ys : List A) (d : A) → i < length es → i < length ys
      → set (take i es ++ drop i ys) i (get_or es i d) ≡ take (i + 1) es ++ drop (i + 1) ys
  overwritten_more i es ys d l m = rw add-one (simp zero-add at (paste-suc ys 0 es i d (omega (arith, m)) l))
