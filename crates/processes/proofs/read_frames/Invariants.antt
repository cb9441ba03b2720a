-- `processes::read_frames` meets its contract.
-- Before each turn the sheet holds the frames that are done, and what is left of the text tells the refusal.
use Prim.Native.Nat.{ℕ, ◌+◌, ◌-◌, ◌≤◌}
use mathlib.Core.Bool.{Bool}
use mathlib.Core.List.{List}
use lib.ListN.{length}
use Rattle.processes.proofs.Turns.{Left}
use Rattle.processes.proofs.Laying.{Laid}
use Rattle.processes.proofs.read_frames.Given as goal

pub record Progress (t sheet : List ℕ) (count : ℕ) (whole : Bool) (at line : ℕ) : Type 0 where
  pub done : List (List ℕ)
  pub short : length t ≤ 32768
  pub near : at ≤ length t + 1
  pub early : line ≤ at + 1
  pub few : count ≤ at
  pub laid : Laid done sheet count whole
  pub left : Left t done line at

abbrev pub invariant-loop-at : goal.invariant-loop-at
invariant-loop-at l = Progress l.text l.sheet l.count l.whole l.at l.line

abbrev pub decreases-loop-at : goal.decreases-loop-at
decreases-loop-at l = length l.text + 1 - l.at
