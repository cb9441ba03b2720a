-- Definitions that the theorems of `proofs/Judging` speak of.
-- Each stands alone; what follows from them is there.
use Rattle.meaning.specs.Models.{ModelEquation}
use Rattle.frames.specs.Frames.{Frame}
use Rattle.reading.specs.Equations.{equation_of}

-- ---- the frame f of an equation in line i, between others
abbrev pub equation_from : Frame → ModelEquation
equation_from g = equation_of g.bytes
