-- `writing::put` meets its contract.
-- What is still to be put from a place on, over what is there, is all the bytes over what was there.
use Prim.Native.Nat.{ℕ, ◌+◌, ◌≤◌}
use mathlib.Core.Path.{◌≡◌}
use mathlib.Core.List.{List}
use lib.ListN.{length, drop}
use lib.Seq.{sets}
use Rattle.writing.proofs.put.Given as goal

-- before turn i
pub record Putting (out₀ : List ℕ) (at : ℕ) (bytes out : List ℕ) (i : ℕ) : Type 0 where
  pub near : i ≤ length bytes
  pub room : at + length bytes ≤ length out₀
  pub same : length out ≡ length out₀
  pub left : sets out (at + i) (drop i bytes) ≡ sets out₀ at bytes

abbrev pub invariant-loop-i : goal.invariant-loop-i
invariant-loop-i l = Putting l.initial.out l.at l.bytes l.out l.i
