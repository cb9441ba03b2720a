-- `devashtor::replace` is safe.
-- What is written lies within the buffer, so that it can be lent to the write.
use Rattle.writing.proofs.Shown.{lendable}
use Rattle.replacer.proofs.CommandShown.{printed_replacement_short}
use Rattle.devashtor.proofs.replace.Goals as goal

pub slice_bounds-out-end : goal.slice_bounds-out-end
slice_bounds-out-end g c = (lendable c.print_replacement-written.ensures (printed_replacement_short _ _ _)).0

pub slice_bounds-write_all-end : goal.slice_bounds-write_all-end
slice_bounds-write_all-end g c = (lendable c.print_replacement-written.ensures (printed_replacement_short _ _ _)).1
