-- `processes::read_input` meets its contract.
-- The lines give the refusal or the sheet.
use Rattle.std.proofs.lemmas.Result.{err_from_is_err_and}
use Rattle.processes.proofs.Outcomes.{input_refused, input_read}
use Rattle.processes.proofs.read_input.Goals as goal

pub returns-in_err-read_lines : goal.returns-in_err-read_lines
returns-in_err-read_lines c =
    let out = err_from_is_err_and c.from_residual.result c.from_residual.ensures.1 in
    rw (out.1, out.2) (input_refused c.in_err-read_lines.ensures)

pub returns : goal.returns
returns c = input_read c.in_ok-read_lines.ensures
