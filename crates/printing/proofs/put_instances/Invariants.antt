-- `printing::put_instances` meets its contract.
-- The lines still to be written from the place on, over what is there, are all lines over what was there.
use Prim.Native.Nat.{ℕ, ◌≤◌, ◌+◌, ◌*◌}
use mathlib.Core.Path.{◌≡◌}
use mathlib.Core.List.{List}
use lib.ListN.{length, drop}
use lib.Seq.{sets}
use Rattle.formulas.specs.declared.Equation.{Equation}
use Rattle.printing.specs.Lines.{word_lines}
use Rattle.printing.proofs.put_instances.Given as goal

abbrev pub lines_from : List Equation → List ℕ → List ℕ → ℕ → List ℕ
lines_from equations truth words j = word_lines equations truth j (drop j words)

-- before turn j: the place is near, the buffer as long as it was, and the lines from j on are still to be written
pub record Before (equations : List Equation) (truth words out₀ out : List ℕ) (at j : ℕ) : Type 0 where
  pub within : j ≤ length words
  pub near : at ≤ 15 * j
  pub long : length out ≡ length out₀
  pub left : sets out at (lines_from equations truth words j) ≡ sets out₀ 0 (word_lines equations truth 0 words)
  pub place : at + length (lines_from equations truth words j) ≡ 0 + length (word_lines equations truth 0 words)

abbrev pub invariant-loop-j : goal.invariant-loop-j
invariant-loop-j l = Before l.equations l.truth l.words l.initial.out l.out l.at l.j
