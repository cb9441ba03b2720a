-- `truth::none` meets its contract: eight words of 0 have no bit set.
-- The law of the empty set says so.
use Rattle.truth.proofs.Bits.{zeros_none}
use Rattle.truth.proofs.none.Goals as goal

pub returns : goal.returns
returns c = zeros_none 8
