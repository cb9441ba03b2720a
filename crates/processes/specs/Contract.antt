-- What the contracts of the reader's inner functions say; no word of the documents is defined here.
-- They speak of the sheet on which the frames read so far are laid out.
use Rattle.std.specs.Prelude.{ℕ, ◌≡◌, Bool, true, false, not, cond, ◌&&◌, List, eqb, leb, get_or, take}
use Rattle.std.specs.Prelude.{Result, Ok, Err}
use Rattle.refusals.specs.declared.Refusal.{Refusal}
use Rattle.refusals.specs.Numbers.{number_of}
use Rattle.frames.specs.Frames.{frames}
use Rattle.reading.specs.Reading as reading
use Rattle.reading.specs.Reading.{refused}
use Rattle.inputs.specs.Inputs.{ranges_of, is_process, is_summand, is_formula, content_of}
use Rattle.inputs.specs.Sheet.{sheet_of}

-- the refusal that a reply tells, with number and line 0 where there is none
abbrev pub refusal_told : Result (Unit {0}) Refusal → reading.Refusal
refusal_told (Ok u) = refused 0 0
refusal_told (Err r) = refused (number_of r.reason) r.line

-- the first line that 2 or 3 refuses
abbrev pub LinesChecked : List ℕ → Result (Unit {0}) Refusal → Type 0
LinesChecked t (Ok u) = (frames t).number ≡ 0
LinesChecked t (Err r) = refused (number_of r.reason) r.line ≡ refused (frames t).number (frames t).line

-- whether a frame keeps the rules after `count` others, the last of them the formula where `whole`
unfoldable pub is_next : List ℕ → List ℕ → ℕ → Bool → Bool
is_next sheet f count whole =
    cond (eqb (get_or f 0 0) 0x03) true
    (cond (eqb (get_or f 0 0) 0x09) (eqb count 0 && is_process f)
    (cond (eqb (get_or f 0 0) 0x07)
    ((leb 1 count && not whole) && (leb count 16 && is_summand (ranges_of (take 256 sheet)) f))
    (cond (eqb (get_or f 0 0) 0x08) ((leb 1 count && not whole) && is_formula f)
    false)))

-- what the reading of a text gives: the refusal that is due, or its frames on the sheet
pub record SheetRead (t : List ℕ) (due : reading.Refusal) (sheet : List ℕ)
    (r : Result (Unit {0}) Refusal) : Type 0 where
  pub refusal : refusal_told r ≡ due
  pub laid : due.number ≡ 0 → sheet ≡ sheet_of (content_of t)
