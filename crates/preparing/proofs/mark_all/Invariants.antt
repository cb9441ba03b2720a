-- `preparing::mark_all` meets its contract.
-- The invariant: from where the loop stands on, each place is marked.
use Rattle.std.proofs.Common.{ℕ, ◌≤◌, length, List}
use Rattle.preparing.specs.Ends.{Marked}
use Rattle.preparing.proofs.mark_all.Given as goal

pub record Marking (body out : List ℕ) (at : ℕ) : Type 0 where
  pub within : at ≤ length body
  pub short : length body ≤ 256
  pub marked : Marked body out at

abbrev pub invariant-loop-at : goal.invariant-loop-at
invariant-loop-at l = Marking l.body l.out l.at
