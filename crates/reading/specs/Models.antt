-- DEFINITIONS: the model that some frames make, and its start. Document 01, "Text of a model".
-- "Equations number from 0 in file order."
use Rattle.std.specs.Prelude.{ℕ, Bool, true, false, cond, List, [], ◌∷◌, map, eqb, get_or}
use Rattle.meaning.specs.Models.{Model}
use Rattle.meaning.specs.Reach.{Instance}
use Rattle.frames.specs.Frames.{Frame}
use Rattle.reading.specs.Equations.{equation_of, start_of}

-- "`01` equation", "`02` start", "`03` note": the first byte
abbrev pub code_of : Frame → ℕ
code_of f = get_or f.bytes 0 0

-- the frames with this first byte
unfoldable pub frames_with : ℕ → List Frame → List Frame
frames_with code [] = []
frames_with code (f ∷ fs) = cond (eqb (code_of f) code) (f ∷ frames_with code fs) (frames_with code fs)

abbrev pub equations_in : List Frame → List Frame
equations_in = frames_with 0x01

abbrev pub starts_in : List Frame → List Frame
starts_in = frames_with 0x02

abbrev pub is_none : List Frame → Bool
is_none [] = true
is_none (f ∷ fs) = false

unfoldable pub model_of : List Frame → Model
model_of fs = map (λ f. equation_of f.bytes) (equations_in fs)

-- the first frame of some; where there is none, one with no byte
abbrev pub first_of : List Frame → Frame
first_of [] = record { line = 0; bytes = [] }
first_of (f ∷ fs) = f

abbrev pub start_in : List Frame → Instance
start_in fs = start_of (first_of (starts_in fs)).bytes
