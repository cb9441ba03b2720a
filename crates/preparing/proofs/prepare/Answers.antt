-- `preparing::prepare` meets its contract.
-- It begins with zeros.
use Rattle.preparing.proofs.Parts.{clear_zeros}
use Rattle.preparing.proofs.prepare.Goals as goal

pub prepare_all-requires : goal.prepare_all-requires
prepare_all-requires c = clear_zeros 4096
