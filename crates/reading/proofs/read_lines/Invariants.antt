-- `reading::read_lines` meets its contract.
-- The refusal of the text is that of what is left, after the frames that are done, which the structs hold.
use Prim.Native.Nat.{ℕ, ◌+◌, ◌-◌, ◌≤◌}
use mathlib.Core.Path.{◌≡◌}
use mathlib.Core.List.{List, ◌++◌}
use lib.ListN.{length}
use Rattle.frames.specs.Lines.{line_place}
use Rattle.frames.specs.Frames.{Frame, frames}
use Rattle.reading.specs.Contract.{draft_told}
use Rattle.reading.specs.Reading.{text_refusal}
use Rattle.reading.specs.Records.{ModelRecord}
use Rattle.reading.proofs.Drafts.{Drafted}
use Rattle.reading.proofs.Turns.{judged, frames_at, Begins}
use Rattle.reading.proofs.read_lines.Given as goal

pub record Progress (text bodies : List ℕ) (m : ModelRecord) (at line : ℕ) : Type 0 where
  pub done : List Frame
  pub short : length text ≤ 32768
  pub near : at ≤ length text + 1
  pub early : line ≤ at + 1
  pub begins : Begins text line at
  pub drafted : Drafted (line_place text) done m bodies
  pub left : text_refusal text ≡ judged done (frames_at text line at)
  pub whole : (frames text).all ≡ done ++ (frames_at text line at).all

abbrev pub invariant-loop-at : goal.invariant-loop-at
invariant-loop-at l = Progress l.text l.bodies (draft_told l.draft) l.at l.line

abbrev pub decreases-loop-at : goal.decreases-loop-at
decreases-loop-at l = length l.text + 1 - l.at
