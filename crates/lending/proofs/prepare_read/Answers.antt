-- `lending::prepare_read` meets its contract.
-- The short list is judged before the text is read.
use Rattle.lending.proofs.Agree.{handed_on, short_room, long_room, short_read, text_refused, text_read}
use Rattle.lending.proofs.prepare_read.Goals as goal

pub returns-in_err-judge_room : goal.returns-in_err-judge_room
returns-in_err-judge_room c =
    let short = short_room _ _ _ c.in_err-judge_room.ensures c.from_residual.ensures.1 in
    rw short.1 (short_read _ _ short.0)

pub returns-in_err-read : goal.returns-in_err-read
returns-in_err-read c =
    rw (handed_on _ _ c.from_residual-in_err-read.ensures.1)
    (text_refused _ _ (long_room _ c.in_ok-judge_room.ensures) _ c.in_err-read.ensures)

pub returns : goal.returns
returns c = text_read _ _ (long_room _ c.in_ok-judge_room.ensures) _ c.in_ok-read.ensures
