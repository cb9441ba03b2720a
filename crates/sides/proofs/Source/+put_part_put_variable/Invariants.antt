-- The proof of the cycle of calls {put_part, put_variable}.
-- The measures, and what `put_part` knows between two codes.
use Rattle.std.proofs.Common.{◌+◌, ◌-◌, ◌*◌, ◌≤◌}
use Rattle.sides.proofs.PartTurns.{Parting}
use Rattle.sides.proofs.Source.+put_part_put_variable.Given as goal

-- a variable of a step calls on the step before it
abbrev pub decreases-put_part : goal.decreases-put_part
decreases-put_part l = 2 * l.part.step + 1

abbrev pub decreases-put_variable : goal.decreases-put_variable
decreases-put_variable l = 2 * l.step

abbrev pub invariant-put_part-loop-pending : goal.invariant-put_part-loop-pending
invariant-put_part-loop-pending l =
    Parting l.self.sheet.now l.self.places.now l.part l.steps l.fn.out l.count l.out l.at l.pending l.c × (l.c ≤ 256)

-- each turn puts a byte at least
abbrev pub decreases-put_part-loop-pending : goal.decreases-put_part-loop-pending
decreases-put_part-loop-pending l = 257 - l.c
