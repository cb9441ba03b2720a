-- The whole check of a text: refused as reading says, or judged.
-- What is read is the reading of the text; the rest is a law of `Examining`.
use mathlib.Core.Path.{refl}
use Rattle.engine.proofs.Examining.{from_text, handed_on, examined_refused, examined_judged}
use Rattle.engine.proofs.examine.Goals as goal

pub returns-in_err-read-clause-examines : goal.returns-in_err-read-clause-examines
returns-in_err-read-clause-examines c =
    rw (handed_on _ _ c.from_residual.ensures.1) (examined_refused _ _ c.in_err-read.ensures)

pub examine_model-answer-requires : goal.examine_model-answer-requires
examine_model-answer-requires c = (_, from_text _ c.in_ok-read.ensures)

pub returns-clause-examines : goal.returns-clause-examines
returns-clause-examines c =
    let from = from_text _ c.in_ok-read.ensures in
    rw c.with_model.ensures.told
    (examined_judged from from.records_same ((c.examine_model-answer.ensures.examines _ from).checks refl))
