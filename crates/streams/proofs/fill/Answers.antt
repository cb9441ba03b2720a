-- `streams::fill` meets its contract.
-- A read goes on where the one before it ended, in the reader and in the buffer.
use Rattle.std.proofs.Common.{rules, subst, length, ◌-◌}
use Rattle.std.specs.Io.KnownBytes.{Consumes}
use Rattle.std.proofs.KnownBytes.{Consumes-trans}
use Rattle.streams.proofs.Parts.{written_more}
use Rattle.streams.proofs.fill.Goals as goal

pub loop-done-preserved : goal.loop-done-preserved
loop-done-preserved g c =
    let done = c.loop-done.done in
    let n = c.in_ok-n.n in
    let before = c.loop-done.invariant in
    let read = c.in_ok-n.ensures in
    let room = length c.loop-done.buffer - done in
    let more = written_more done room n c.loop-done.buffer c.read.new.buf before.0 read.bound.0 in
    (search rules, search rules, subst (Consumes _ _) more (Consumes-trans _ _ _ _ _ before.2 read.bytes.0))
