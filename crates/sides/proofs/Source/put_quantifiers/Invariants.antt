-- `sides::Source::put_quantifiers` meets its contract.
-- Before turn i the quantifiers from number i on are still to be put.
use Prim.Native.Nat.{◌*◌, ◌≤◌}
use Rattle.sides.proofs.Quantifying.{Quantifying}
use Rattle.sides.proofs.Source.put_quantifiers.Given as goal

abbrev pub invariant-loop-i : goal.invariant-loop-i
invariant-loop-i l =
    Quantifying l.self.sheet.now (256 * l.slot) l.all l.initial.out l.count l.own l.out l.c l.i × (l.c ≤ 256)
