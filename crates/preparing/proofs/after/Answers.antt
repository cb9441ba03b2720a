-- `preparing::after` meets its contract.
-- From where the loop stands, what is left leads to the same place as from the start.
use Rattle.std.proofs.Common.{◌≡◌, ◌+◌, ◌-◌, arith, ◌∙◌}
use Rattle.preparing.specs.Ends.{after}
use Rattle.preparing.proofs.Marking.{after_turn}
use Rattle.preparing.proofs.after.Goals as goal

pub loop-preserved : goal.loop-preserved
loop-preserved c =
    let left : c.args.parts - (c.loop.counter + 1) ≡ c.args.parts - c.loop.counter - 1 = omega arith in
    rw (left, c.end_at-end.ensures)
    (after_turn c.args.body.now (c.args.parts - c.loop.counter) c.loop.end (omega arith) ∙ c.loop.invariant)

pub returns : goal.returns
unfolding after
returns c =
    let none : c.args.parts - c.loop.counter ≡ 0 = omega arith in
    rw none at c.loop.invariant
