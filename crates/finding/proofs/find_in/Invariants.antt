-- The reached instances are found in order, as far as there is room, and their graph is drawn.
-- The invariant: table and rows are in the midst of the search, the first i of its instances are taken.
-- The measure is the room that is not yet taken.
use Prim.Native.Nat.{◌-◌}
use Rattle.finding.proofs.Finding.{Searching}
use Rattle.finding.proofs.FoundGraph.{Drawing}
use Rattle.finding.proofs.find_in.Given as goal

abbrev pub invariant-loop-i : goal.invariant-loop-i
invariant-loop-i l =
    Searching l.bodies l.equations l.start l.room l.table l.found l.i
    × Drawing l.bodies l.equations l.start l.room l.initial.graph l.graph l.table l.found l.i

abbrev pub decreases-loop-i : goal.decreases-loop-i
decreases-loop-i l = l.room - l.i
