-- `reading::start_record` meets its contract.
-- Each field is a byte of the frame.
use Rattle.std.proofs.Common.{rules}
use Rattle.reading.specs.Records.{start_record}
use Rattle.reading.proofs.heads.start_record.Goals as goal

pub returns : goal.returns
unfolding start_record
returns c = search rules
