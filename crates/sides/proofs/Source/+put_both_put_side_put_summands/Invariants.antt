-- The proof of the cycle of calls {put_both, put_side, put_summands}.
-- The measures: how far the formula's place is from the end of its frame, and then the summands that are left.
use Rattle.std.proofs.Common.{◌+◌, ◌-◌, ◌*◌}
use Rattle.sides.proofs.Source.+put_both_put_side_put_summands.Given as goal

abbrev pub decreases-put_both : goal.decreases-put_both
decreases-put_both l = (256 - l.spot.at) * 32 + 19

abbrev pub decreases-put_side : goal.decreases-put_side
decreases-put_side l = (256 - l.spot.at) * 32 + 20

abbrev pub decreases-put_summands : goal.decreases-put_summands
decreases-put_summands l = (256 - l.spot.at) * 32 + (17 - l.from)
