-- `sampling::print_solved` is safe.
-- What is written lies within the buffer, so that it can be lent to the write.
use Rattle.printing.proofs.Answered.{lendable, printed_solved_short}
use Rattle.sampling.proofs.print_solved.Goals as goal

pub slice_bounds-out-end : goal.slice_bounds-out-end
slice_bounds-out-end g c =
    let solve = c.devashtor_solve-written in (lendable (printed_solved_short _ _) solve.ensures solve.auto.out).0

pub slice_bounds-write_all-end : goal.slice_bounds-write_all-end
slice_bounds-write_all-end g c =
    let solve = c.devashtor_solve-written in (lendable (printed_solved_short _ _) solve.ensures solve.auto.out).1
