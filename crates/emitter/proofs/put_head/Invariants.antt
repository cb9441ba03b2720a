-- `emitter::put_head` meets its contract.
-- The ranges that are still to be put, over what is there, are all of them over what was there.
use Prim.Native.Nat.{ℕ, ◌+◌, ◌-◌, ◌≤◌}
use mathlib.Core.Path.{◌≡◌}
use mathlib.Core.List.{List}
use lib.ListN.{length}
use lib.Seq.{sets}
use Rattle.formulas.specs.Contract.{part}
use Rattle.emitter.proofs.put_head.Given as goal

pub record Putting (sheet frame₀ : List ℕ) (k : ℕ) (frame : List ℕ) (i : ℕ) : Type 0 where
  pub few : k ≤ 4
  pub near : i ≤ k
  pub long : length frame ≡ 256
  pub left : sets frame (3 + i) (part sheet (2 + i) (k - i)) ≡ sets frame₀ 3 (part sheet 2 k)

abbrev pub invariant-loop-i : goal.invariant-loop-i
invariant-loop-i l = Putting l.sheet l.initial.frame l.count l.frame l.i
