-- `System::next_candidate` meets its contract.
-- The instances below j are filled with their right sides; each turn puts instance j, or passes it.
use lib.ListN.{length}
use Rattle.truth.specs.Bits.{bit_of}
use Rattle.instances.specs.Sides.{sides, names}
use Rattle.nested.proofs.Fill.{Filling}
use Rattle.nested.proofs.System.next_candidate.Given as goal

abbrev pub invariant-loop-j : goal.invariant-loop-j
invariant-loop-j l =
    let a = l.fn.self in
    Filling (names a.table.now l.e) (sides a.bodies.now a.equations a.table.now (bit_of l.inner)) (bit_of l.fn.current)
    (length a.table.now) l.j l.s
