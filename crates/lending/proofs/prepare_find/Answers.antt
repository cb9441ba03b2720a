-- `lending::prepare_find` meets its contract.
-- The short list is judged before the text is read, and then the table is as it was.
use mathlib.Core.Path.{refl}
use Rattle.engine.specs.Examined.{counted}
use Rattle.lending.specs.Records.{find_from}
use Rattle.lending.proofs.Agree.{short_refused, long_room, short_table, long_table}
use Rattle.lending.proofs.prepare_find.Goals as goal

pub returns-in_err-judge_room : goal.returns-in_err-judge_room
returns-in_err-judge_room c =
    let short = short_refused _ _ _ c.in_err-judge_room.ensures c.from_residual.ensures.1 in
    rw short.1 (short_table _ _ find_from short.0)

pub returns : goal.returns
returns c =
    let found = c.find.ensures in
    long_table _ _ find_from counted (λ a. (refl, refl)) (long_room _ c.in_ok-judge_room.ensures) _ found.accepted
    found.examines
