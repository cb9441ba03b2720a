-- `sides::Source::put_instance` meets its contract.
-- Before turn i the arguments from number i on are still to be put.
use Prim.Native.Nat.{◌≤◌}
use Rattle.sides.proofs.Instancing.{Instancing}
use Rattle.sides.proofs.Source.put_instance.Given as goal

abbrev pub invariant-loop-i : goal.invariant-loop-i
invariant-loop-i l =
    Instancing l.self.sheet.now l.self.places.now l.depth l.steps l.initial.out l.initial.c l.k l.out l.c l.i × (l.c ≤ 256)
