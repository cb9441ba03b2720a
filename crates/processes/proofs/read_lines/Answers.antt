-- `processes::read_lines` meets its contract.
-- 1 is asked first, then the lines are checked, then the frames are judged.
use native.Mathlib.Omega.{arith}
use Rattle.std.proofs.lemmas.Result.{err_from_is_err_and}
use Rattle.processes.proofs.Outcomes.{text_too_long, lines_refused, lines_read}
use Rattle.processes.proofs.read_lines.Goals as goal

pub returns-then-text-gt32768 : goal.returns-then-text-gt32768
returns-then-text-gt32768 c = rw c.from.ensures (text_too_long (omega arith))

pub returns-in_err-check_lines : goal.returns-in_err-check_lines
returns-in_err-check_lines c =
    let out = err_from_is_err_and c.from_residual.result c.from_residual.ensures.1 in
    rw (out.1, out.2) (lines_refused c.in_err-check_lines.ensures)

pub returns : goal.returns
returns c = lines_read c.in_ok-check_lines.ensures c.read_frames.ensures
