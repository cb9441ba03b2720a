-- The proof of the cycle of calls {System::solve}: the measure is the number of equations left.
-- The loop's invariant: so many turns were made, and the later equations are still at their first candidates.
use mathlib.Core.Path.{◌≡◌}
use Prim.Native.Nat.{◌-◌}
use lib.ListN.{length}
use Rattle.truth.specs.Bits.{bit_of}
use Rattle.instances.specs.Sides.{numbered_system}
use Rattle.nested.proofs.Turns.{Turned}
use Rattle.nested.proofs.System.+solve.Given as goal

abbrev pub decreases-solve : goal.decreases-solve
decreases-solve l = l.self.count - l.e

abbrev pub invariant-loop : goal.invariant-loop
invariant-loop l =
    let a = l.fn.self in
    (length l.current ≡ 8)
    × Turned (numbered_system a.bodies.now a.equations a.table.now) a.count l.e (bit_of l.fn.t) (bit_of l.current) l.index
