-- `evaluator::tables::lookup` meets its contract: the search ends at the first match, or at the end.
-- Until then what is left to look through says how far past i the word stands.
use Prim.Native.Nat.{◌+◌, ◌-◌, ◌≤◌}
use mathlib.Core.Path.{◌≡◌}
use lib.ListN.{length, drop}
use Rattle.evaluator.specs.Values.{index_of}
use Rattle.evaluator.proofs.tables.lookup.Given as goal

abbrev pub invariant-loop-i : goal.invariant-loop-i
invariant-loop-i l = (l.i ≤ length l.table) × (index_of l.table l.w ≡ l.i + index_of (drop l.i l.table) l.w)

abbrev pub decreases-loop-i : goal.decreases-loop-i
decreases-loop-i l = length l.table - l.i
