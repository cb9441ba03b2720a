-- `lending::prepare_solve` meets its contract.
-- The short list of records is judged before the text is read.
use Rattle.lending.proofs.Agree.{short_refused, long_room, short_solve, long_solve}
use Rattle.lending.proofs.prepare_solve.Goals as goal

pub returns-in_err-judge_room : goal.returns-in_err-judge_room
returns-in_err-judge_room c =
    let short = short_refused _ _ _ c.in_err-judge_room.ensures c.from_residual.ensures.1 in
    rw short.1 (short_solve _ _ short.0)

pub returns : goal.returns
returns c =
    let solved = c.solve.ensures in
    long_solve _ _ (long_room _ c.in_ok-judge_room.ensures) _ solved.accepted solved.solves
