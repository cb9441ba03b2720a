-- `truth::count` meets its contract: the ones of the words passed are the count of the bits below their end.
-- Each word adds its own ones.
use mathlib.Core.Path.{◌≡◌}
use Prim.Native.Nat.{◌≤◌, ◌*◌}
use Rattle.truth.specs.Bits.{bit_of, count_below}
use Rattle.truth.proofs.count.Given as goal

abbrev pub invariant-loop-word : goal.invariant-loop-word
invariant-loop-word l = (l.n ≡ count_below (l.word-index * 64) (bit_of l.fn.t)) × (l.n ≤ l.word-index * 64)
