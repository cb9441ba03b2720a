-- Frames laid out in 18 places of 256 bytes each: the process first, then the summands, the formula last.
-- Where nothing is laid there are zeros.
use Rattle.std.specs.Prelude.{ℕ, suc, ◌+◌, ◌*◌, ◌≤◌, ◌<◌, min, ◌≡◌, cond, List, [], ◌∷◌, eqb, length, get_or}
use Rattle.std.specs.Prelude.{replicate}
use Rattle.std.proofs.lemmas.List.Edits.{sets}
use Rattle.spelling.specs.Stands.{Stands}
use Rattle.translation.specs.Processes.{Process}
use Rattle.translation.specs.Modal.{Modal}
use Rattle.inputs.specs.Inputs.{no_summand}
use Rattle.inputs.specs.InputFrames.{process_frame, summand_frame, formula_frame}

-- the place of a frame with this first byte that comes after `count` others
abbrev pub slot_of : ℕ → ℕ → ℕ
slot_of code count = cond (eqb code 0x08) 17 (min count 16)

-- some frames, after `count` others, over what is there
unfoldable pub sheet_over : ℕ → List (List ℕ) → List ℕ → List ℕ
sheet_over count [] there = there
sheet_over count (f ∷ fs) there =
    sheet_over (suc count) fs (sets there (256 * slot_of (get_or f 0 0) count) f)

abbrev pub sheet_of : List (List ℕ) → List ℕ
sheet_of fs = sheet_over 0 fs (replicate 4608 0)

-- a sheet on which a process and a formula are laid out
pub record Sheet (process : Process) (f : Modal) (sheet : List ℕ) : Type 0 where
  pub size : length sheet ≡ 4608
  pub first : Stands sheet 0 (process_frame process)
  pub summand : (j : ℕ) → j < length process.summands
      → Stands sheet (256 * (j + 1)) (summand_frame (get_or process.summands j no_summand))
  pub fits : (j : ℕ) → j < length process.summands
      → length (summand_frame (get_or process.summands j no_summand)) ≤ 256
  pub empty : (j : ℕ) → length process.summands ≤ j → j < 16 → get_or sheet (256 * (j + 1)) 0 ≡ 0
  pub last : Stands sheet 4352 (formula_frame f)
