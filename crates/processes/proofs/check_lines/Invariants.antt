-- `processes::check_lines` meets its contract.
-- Before each turn number and line of the text are those of what is left of it.
use Prim.Native.Nat.{ℕ, ◌+◌, ◌-◌, ◌≤◌}
use mathlib.Core.List.{List}
use lib.ListN.{length}
use Rattle.processes.proofs.Turns.{Same}
use Rattle.processes.proofs.check_lines.Given as goal

pub record Checking (t : List ℕ) (at line : ℕ) : Type 0 where
  pub short : length t ≤ 32768
  pub near : at ≤ length t + 1
  pub early : line ≤ at + 1
  pub same : Same t line at

abbrev pub invariant-loop-at : goal.invariant-loop-at
invariant-loop-at l = Checking l.text l.at l.line

abbrev pub decreases-loop-at : goal.decreases-loop-at
decreases-loop-at l = length l.text + 1 - l.at
