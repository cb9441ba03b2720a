-- `samples::answer` is safe.
-- What is written lies within the buffer, so that it can be lent to the write.
use Rattle.printing.proofs.Answered.{lendable, printed_short}
use Rattle.samples.proofs.answer.Goals as goal

pub slice_bounds-out-end : goal.slice_bounds-out-end
slice_bounds-out-end g c =
    let check = c.devashtor_check-written in (lendable (printed_short _) check.ensures check.auto.out).0

pub slice_bounds-write_all-end : goal.slice_bounds-write_all-end
slice_bounds-write_all-end g c =
    let check = c.devashtor_check-written in (lendable (printed_short _) check.ensures check.auto.out).1
