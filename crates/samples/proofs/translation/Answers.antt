-- `samples::translation` is safe.
-- What is written lies within the buffer, so that it can be lent to the write.
use Rattle.writing.proofs.Shown.{lendable}
use Rattle.translator.proofs.Shown.{printed_translation_short}
use Rattle.samples.proofs.translation.Goals as goal

pub slice_bounds-out-end : goal.slice_bounds-out-end
slice_bounds-out-end g c = (lendable c.print_translation-written.ensures (printed_translation_short _)).0

pub slice_bounds-write_all-end : goal.slice_bounds-write_all-end
slice_bounds-write_all-end g c = (lendable c.print_translation-written.ensures (printed_translation_short _)).1
