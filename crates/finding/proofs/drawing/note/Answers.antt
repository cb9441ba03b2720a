-- A row gets an instance: one bit is set.
use Rattle.finding.proofs.DrawingLaws.{noted}
use Rattle.finding.proofs.drawing.note.Goals as goal

pub returns : goal.returns
returns c = noted c.requires c.mark.ensures
