-- `checker::devashtor_find` meets its contract.
-- The reply of `find`, as a word; no refusal names a line over 32,769.
use Rattle.checker.proofs.ForC.{found_for_c, refused_low, refused_for_c}
use Rattle.checker.proofs.devashtor_find.Goals as goal

pub returns-in-Ok : goal.returns-in-Ok
returns-in-Ok c =
    let found = c.in-Ok.ensures in found_for_c _ _ c.in-Ok.e found.accepted found.examines c.reply_word.ensures

pub reply_word-requires-in-Err : goal.reply_word-requires-in-Err
reply_word-requires-in-Err c = rw c.from.ensures (refused_low _ _ c.in-Err.r c.in-Err.ensures.examines)

pub returns-in-Err : goal.returns-in-Err
returns-in-Err c =
    refused_for_c _ _ c.in-Err.r c.in-Err.ensures.examines (rw c.from.ensures at c.reply_word-in-Err.ensures)
