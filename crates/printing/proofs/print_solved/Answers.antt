-- `printing::print_solved` meets its contract.
-- A short buffer stays, and else what is printed is the answer to the list, which fits.
use native.Mathlib.Omega.{arith}
use Rattle.answers.specs.Printed.{printed_solved}
use Rattle.printing.proofs.Answered.{told_solved, printable_result, result_is, printed_solved_short}
use Rattle.printing.proofs.Answered.{buffer_stays, buffer_written}
use Rattle.printing.proofs.print_solved.Goals as goal

pub put_answer-requires : goal.put_answer-requires
put_answer-requires c =
    let x = c.solve.ensures in (printable_result _ _ _ x.accepted (told_solved x.solves), omega arith)

pub returns : goal.returns
unfolding printed_solved
returns c =
    let x = c.solve.ensures in
    let is = result_is _ _ _ x.accepted (told_solved x.solves) in
    buffer_written (printed_solved_short _ _) (omega arith) (rw (is, x.solves.answered) at c.put_answer.ensures)

pub returns-then-room-lt7693 : goal.returns-then-room-lt7693
returns-then-room-lt7693 c = buffer_stays (omega arith)
