-- `reading::equation_record` meets its contract.
-- Each field is a byte of the frame, or 1 for an absent range.
use Rattle.std.proofs.Common.{rules}
use Rattle.reading.specs.Records.{equation_record}
use Rattle.reading.proofs.heads.equation_record.Goals as goal

pub returns : goal.returns
unfolding equation_record
returns c = search rules
