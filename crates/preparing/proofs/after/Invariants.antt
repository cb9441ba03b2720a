-- `preparing::after` meets its contract.
-- From where the loop stands, what is left leads to the same place as from the start.
use Rattle.std.proofs.Common.{◌≡◌, ◌-◌}
use Rattle.preparing.specs.Ends.{after}
use Rattle.preparing.proofs.after.Given as goal

abbrev pub invariant-loop : goal.invariant-loop
invariant-loop l = after l.body (l.parts - l.counter) l.end ≡ after l.body l.parts l.from
