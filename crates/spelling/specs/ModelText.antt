-- Definitions that the theorems of `proofs/ModelText` speak of.
-- Each stands alone; what follows from them is there.
use Rattle.std.specs.Prelude.{ℕ, ◌≤◌, ◌<◌, get_or}
use mathlib.Core.List.{List, []}
use Rattle.std.proofs.Math.ListN.{length}
use Rattle.meaning.specs.Models.{Model}
use Rattle.meaning.specs.Reach.{Instance}
use Rattle.frames.specs.Frames.{text_of}
use Rattle.spelling.specs.Spelled.{start_frame, model_frames}

-- "a frame has 1 to 256 bytes"
abbrev pub AllShort : List (List ℕ) → Type 0
AllShort fs = (i : ℕ) → i < length fs → length (get_or fs i []) ≤ 256

-- ---- the start of a well-formed model
pub record StartRead (model : Model) (start : Instance) : Type 0 where
  pub some_equation : 0 < length model
  pub long : 2 ≤ length (start_frame start)
  pub short : length (start_frame start) ≤ 6
  pub small : (i : ℕ) → get_or (start_frame start) i 0 < 256

-- ---- the text
abbrev pub model_text : Model → Instance → List ℕ
model_text model start = text_of (model_frames model start)
