-- `rounds::round` meets its contract.
-- Each further instance stands in the row of the first one's equation; so all looks are at this equation.
use native.Mathlib.Omega.{arith}
use Rattle.solving.proofs.RoundsLaws.{looking_none, looking_more, looking_all}
use Rattle.solving.proofs.rounds.round.Goals as goal

-- a word of the table has 32 bits
pub overflow_add-e : goal.overflow_add-e
overflow_add-e c = omega (arith, c.type_inv.table c.args.first)

pub returns-then-s-eq0 : goal.returns-then-s-eq0
returns-then-s-eq0 c = looking_all c.equation_number-e.ensures c.look-s.ensures c.loop-j.invariant

pub loop-j-preserved : goal.loop-j-preserved
loop-j-preserved c =
    let before = c.loop-j.invariant in
    looking_more before c.in-Some.ensures c.look-s-in-Some.ensures

pub returns : goal.returns
returns c = looking_all c.equation_number-e.ensures c.look-s.ensures c.loop-j.invariant

pub loop-j-init : goal.loop-j-init
loop-j-init c = looking_none
