-- `scans::places_of` meets its contract.
-- Each turn fills one entry of the table.
use Rattle.scans.proofs.Placing.{placing_more, all_placed}
use Rattle.scans.proofs.summands.places_of.Goals as goal

pub loop-j-preserved : goal.loop-j-preserved
loop-j-preserved c = placing_more c.loop-j.invariant c.place.ensures c.loop-j-test.true

pub returns : goal.returns
returns c = all_placed c.loop-j.invariant c.loop-j-test.false
