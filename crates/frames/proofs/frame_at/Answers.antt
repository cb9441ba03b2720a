-- `frames::frame_at` meets its contract.
-- The line from the place to its end is the line at the place.
use mathlib.Core.Path.{refl}
use Rattle.frames.proofs.At.{frame_there}
use Rattle.frames.proofs.frame_at.Goals as goal

pub returns : goal.returns
returns c = frame_there _ _ c.min-from.ensures c.line_end-end.ensures.0 _ refl c.frame_of.ensures
