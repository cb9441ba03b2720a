-- Definitions that the theorems of `proofs/Judged` speak of.
-- Each stands alone; what follows from them is there.
use Rattle.std.specs.Prelude.{ℕ, ◌+◌, List, leb}
use Rattle.std.proofs.Math.Bool.{cond}
use Rattle.std.proofs.Math.ListN.{length}
use Rattle.meaning.specs.Ranges.{signatures}
use Rattle.frames.specs.Frames.{frames}
use Rattle.formulas.specs.Bodies.{is_body, is_fitting}
use Rattle.reading.specs.Equations.{ranges_in}
use Rattle.reading.specs.Models.{model_of}
use Rattle.reading.specs.Reading.{Refusal, refused}
use Rattle.replacer.specs.Replaced.{equation_frame, head_size, replaced_text}

-- "what 01's order gives for the resulting text": the first that the new right side gives
unfoldable pub side_refusal : List ℕ → ℕ → List ℕ → Refusal
side_refusal t e side =
    let f = (equation_frame t e).bytes in
    let line = (equation_frame t e).line in
    cond (leb (length (replaced_text t e side)) 32768)
    (cond (leb (head_size f + length side) 256)
    (cond (is_body side (ranges_in f))
    (cond (is_fitting (signatures (model_of (frames t).all)) side (ranges_in f))
    (refused 0 0)
    (refused 7 line))
    (refused 6 line))
    (refused 3 line))
    (refused 1 0)
