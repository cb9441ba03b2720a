-- `preparing::prepare_body` meets its contract.
-- The bytes are copied over zeros, and then each place is marked.
use Rattle.std.proofs.Common.{◌++◌, ap, drop, length}
use Rattle.preparing.proofs.Marking.{marked_none}
use Rattle.preparing.proofs.prepare_body.Goals as goal

pub mark_all-requires : goal.mark_all-requires
mark_all-requires c =
    let pre = c.requires in
    let copied = ap (λ s. s ++ drop (length c.args.body.now) c.args.out.now) c.copy_from_slice.ensures.after in
    (pre.0, marked_none pre.1 pre.0 copied)
