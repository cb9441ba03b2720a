-- `System::first_candidates` meets its contract.
-- The instances below j are at the constants of their equations' signs; each turn puts instance j, or passes it.
use lib.ListN.{length}
use Rattle.truth.specs.Bits.{nowhere}
use Rattle.nested.specs.Candidates.{names_below, constants}
use Rattle.nested.proofs.Fill.{Filling}
use Rattle.nested.proofs.System.first_candidates.Given as goal

abbrev pub invariant-loop-j : goal.invariant-loop-j
invariant-loop-j l =
    let a = l.fn.self in
    Filling (names_below a.table.now a.count) (constants a.equations a.table.now) nowhere (length a.table.now) l.j l.s
