-- An instance is noted in the rows of all that it reads.
-- The invariant: it is noted for those that are done; the measure is how far the last that is not is from none.
use native.Mathlib.Omega.{arith}
use mathlib.Core.Path.{◌∙◌}
use Rattle.std.specs.Prelude.{Some}
use Rattle.truth.specs.Rows.{LastOf}
use Rattle.finding.proofs.DrawingLaws.{noting_starts, noting_falls, noting_on, noting_ends}
use Rattle.finding.proofs.drawing.note_readers.Goals as goal

pub loop-k-init : goal.loop-k-init
loop-k-init c = noting_starts c.none-done.ensures

pub note-requires : goal.note-requires
note-requires c =
    let into = c.requires in
    let last : LastOf _ (Some c.in-Some.k) = c.in-Some.ensures in
    record {
      row = omega (arith, last.small);
      into = record { lent = c.loop-k.invariant.size ∙ into.lent; small = omega (arith, last.small) };
    }

pub loop-k-smaller : goal.loop-k-smaller
loop-k-smaller c =
    noting_falls c.loop-k.invariant c.requires c.in-Some.ensures
    c.note.ensures c.put-more.ensures

pub loop-k-preserved : goal.loop-k-preserved
loop-k-preserved c =
    noting_on c.loop-k.invariant c.requires c.in-Some.ensures
    c.note.ensures c.put-more.ensures

pub returns : goal.returns
returns c = noting_ends c.loop-k.invariant c.requires c.in_default.ensures
