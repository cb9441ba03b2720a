-- `reading::read_model` meets its contract.
-- The lines give the refusal or the model, and the bodies.
use Rattle.reading.proofs.Finishing.{reading_refused, reading_read, told_refused}
use Rattle.reading.proofs.read_model.Goals as goal

pub returns : goal.returns
returns c = reading_read _ _ _ c.in_ok-model.ensures

pub returns-in_err-model : goal.returns-in_err-model
returns-in_err-model c = told_refused _ _ _ (reading_refused _ _ _ c.in_err-model.ensures) c.from_residual.ensures.1
