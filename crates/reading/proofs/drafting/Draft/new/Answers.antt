-- `reading::new` meets its contract.
-- No frame makes this model.
use mathlib.Core.Path.{refl}
use Rattle.reading.specs.Records.{start_record, model_record}
use Rattle.reading.proofs.drafting.Draft.new.Goals as goal

pub returns : goal.returns
returns c place = unfold model_record start_record in refl
