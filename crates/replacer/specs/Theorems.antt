-- Definitions that the theorems of `proofs/Theorems` speak of.
-- Each stands alone; what follows from them is there.
use Prim.Native.Nat.{ℕ}
use Rattle.std.specs.Prelude.{eqb, get_or}
use mathlib.Core.List.{List}
use Rattle.meaning.specs.Models.{ModelEquation}
use Rattle.frames.specs.Frames.{Frame}
use Rattle.formulas.specs.Bodies.{formula_of}
use Rattle.reading.specs.Equations.{ranges_in}
use Rattle.replacer.specs.Replaced.{equation_frame}
use Rattle.replacer.specs.Heads.{frame_with}

-- ---- what is read
-- the new frame of equation e, in its line
abbrev pub new_frame : List ℕ → ℕ → List ℕ → Frame
new_frame t e side = record {
  line = (equation_frame t e).line;
  bytes = frame_with (equation_frame t e).bytes side;
}

-- equation e with its sign and its ranges as they were, and the formula that the new right side is
abbrev pub new_equation : List ℕ → ℕ → List ℕ → ModelEquation
new_equation t e side =
    let f = (equation_frame t e).bytes in
    record { greatest = eqb (get_or f 1 0) 1; ranges = ranges_in f; body = formula_of side (ranges_in f) }
