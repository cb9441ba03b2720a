-- Solving a list of a whole text: refused as reading says, or answered.
-- What is read is the reading of the text; the rest is a law of `Examining`.
use Prim.Native.Nat.{ℕ}
use mathlib.Core.Path.{refl}
use lib.ListN.{length-replicate}
use Rattle.engine.proofs.Examining.{from_text, handed_on, solved_refused, examined_solved}
use Rattle.engine.proofs.solve.Goals as goal

pub returns-in_err-read-clause-solves : goal.returns-in_err-read-clause-solves
returns-in_err-read-clause-solves c =
    rw (handed_on _ _ c.from_residual.ensures.1) (solved_refused _ _ c.in_err-read.ensures)

pub examine_model-answer-requires : goal.examine_model-answer-requires
examine_model-answer-requires c = (_, from_text _ c.in_ok-read.ensures)

pub returns-clause-solves : goal.returns-clause-solves
returns-clause-solves c =
    let from = from_text _ c.in_ok-read.ensures in
    rw c.with_model.ensures.told
    (examined_solved from from.records_same
    ((c.examine_model-answer.ensures.examines _ from).solves refl (length-replicate {A = ℕ} 512 0)))
