-- `rounds::all_rounds` meets its contract.
-- Each round keeps what is kept, with fewer looks left; where nothing is dirty the set is the solution.
use native.Mathlib.Omega.{arith}
use Rattle.solving.proofs.RoundsLaws.{carried_none, carried_more, carried_ends}
use Rattle.solving.proofs.rounds.all_rounds.Goals as goal

pub loop-j-init : goal.loop-j-init
loop-j-init c = carried_none c.first_values-s.ensures

pub settle-s-requires : goal.settle-s-requires
settle-s-requires c = (c.requires, omega (arith, c.type_inv.table c.in-Some.j))

pub loop-j-preserved : goal.loop-j-preserved
loop-j-preserved c =
    carried_more c.requires c.loop-j.invariant c.in-Some.ensures c.round-looked.ensures
    (rw c.equation_number.ensures at c.settle-s.ensures)

pub returns : goal.returns
returns c g = carried_ends c.requires c.loop-j.invariant c.in_default.ensures g
