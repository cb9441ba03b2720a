-- `frames::put_line` meets its contract.
-- The line is left out, or before turn i the line from byte i on is still to be written.
use mathlib.Core.Path.{refl, sym, ◌∙◌}
use Rattle.frames.proofs.Stores.{writing_more, writing_done, no_room}
use Rattle.frames.proofs.put_line.Goals as goal

pub returns-then-not-fits : goal.returns-then-not-fits
returns-then-not-fits c = no_room _ _ _ (sym c.fits.ensures ∙ c.if-not-fits.true)

pub loop-b-preserved : goal.loop-b-preserved
loop-b-preserved c =
    writing_more c.loop-b.invariant c.loop-b-test.true refl c.put_byte.ensures

pub returns : goal.returns
returns c = writing_done c.loop-b.invariant c.loop-b-test.false
