-- `printing::print_answer` meets its contract.
-- A short buffer stays, and else what is printed is the text's answer, which fits.
use mathlib.Core.Path.{refl}
use native.Mathlib.Omega.{arith}
use Rattle.answers.specs.Printed.{printed}
use Rattle.printing.proofs.Answered.{told_checked, printable_result, result_is, printed_short, buffer_stays, buffer_written}
use Rattle.printing.proofs.print_answer.Goals as goal

pub put_answer-requires : goal.put_answer-requires
put_answer-requires c =
    let x = c.examine-examined.ensures in
    (printable_result _ _ _ x.accepted (told_checked x.examines refl), omega arith)

pub returns : goal.returns
unfolding printed
returns c =
    let x = c.examine-examined.ensures in
    let is = result_is _ _ _ x.accepted (told_checked x.examines refl) in
    buffer_written (printed_short _) (omega arith) (rw (is, x.examines.answered) at c.put_answer.ensures)

pub returns-then-out-lt7693 : goal.returns-then-out-lt7693
returns-then-out-lt7693 c = buffer_stays (omega arith)
