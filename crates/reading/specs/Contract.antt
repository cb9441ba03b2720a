-- What the contracts of the reader's inner functions say; no word of the documents is defined here.
-- They speak of what the structs of the code tell; that these hold the frames read so far is shown in
-- proofs/Drafts.
use Rattle.std.specs.Prelude.{ℕ, ◌+◌, ◌*◌, ◌<◌, ◌≡◌, Bool, true, false, cond, ◌&&◌, List, [], ◌∷◌, eqb}
use Rattle.std.specs.Prelude.{leb, get_or, take, drop, set, Option, Some, None, Result, Ok, Err, is_some}
use Rattle.std.specs.Prelude.{unwrap_or}
use Rattle.std.proofs.lemmas.List.Edits.{sets}
use Rattle.meaning.specs.Ranges.{all_ranges, typed}
use Rattle.meaning.specs.Reach.{Instance}
use Rattle.refusals.specs.declared.Reason.{Reason}
use Rattle.refusals.specs.declared.Reason.TheVariants.{OutOfPlace, WrongInstance, WrongStart}
use Rattle.refusals.specs.declared.Refusal.{Refusal}
use Rattle.refusals.specs.Numbers.{number_of}
use Rattle.frames.specs.Lines.{line_place}
use Rattle.frames.specs.Frames.{frames}
use Rattle.formulas.specs.declared.Equation.{Equation}
use Rattle.formulas.specs.Bodies.{blank, ranges_of, signatures_of, is_fitting}
use Rattle.reading.specs.declared.Start.{Start}
use Rattle.reading.specs.declared.Model.{Model}
use Rattle.reading.specs.declared.drafting.Draft.{Draft}
use Rattle.reading.specs.Equations.{body_in}
use Rattle.reading.specs.Models.{equations_in, starts_in}
use Rattle.reading.specs.Reading.{refused, text_refusal}
use Rattle.reading.specs.Records.{equation_record, start_record, ModelRecord, model_record, model_told}
use Rattle.reading.specs.Records.{bodies_of}

-- the number of a reason to refuse, 0 for none
abbrev pub number_in : Result Unit Reason → ℕ
number_in (Ok _) = 0
number_in (Err reason) = number_of reason

-- the model as it grows, perhaps with its start
abbrev pub draft_told : Draft → ModelRecord
draft_told d = record {
  count = d.count;
  equations = d.equations;
  lines = d.lines;
  started = is_some d.start;
  start = unwrap_or d.start (start_record 0 []);
}

abbrev pub is_head : ℕ → Equation → Bool
is_head size e = leb (3 + e.k) size && (leb e.sign 1 && (leb e.k 4 && all_ranges e.ranges))

unfoldable pub with_equation : ModelRecord → ℕ → Equation → ModelRecord
with_equation m line e = record {
  count = m.count + 1;
  equations = set m.equations m.count e;
  lines = set m.lines m.count line;
  started = m.started;
  start = m.start;
}

unfoldable pub with_start : ModelRecord → Start → ModelRecord
with_start m s =
    record { count = m.count; equations = m.equations; lines = m.lines; started = true; start = s }

abbrev pub with_frame : ModelRecord → ℕ → ℕ → List ℕ → ModelRecord
with_frame m line place f =
    cond (eqb (get_or f 0 0) 1) (with_equation m line (equation_record place f))
    (cond (eqb (get_or f 0 0) 2) (with_start m (start_record line f)) m)

abbrev pub body_kept : List ℕ → ℕ → List ℕ → List ℕ
body_kept bodies j f = cond (eqb (get_or f 0 0) 1) (sets bodies (256 * j) (body_in f)) bodies

-- the start of the records
abbrev pub start_from : ModelRecord → Instance
start_from m = m.start.equation ∷ take m.start.count m.start.arguments

unfoldable pub is_start : ModelRecord → Bool
is_start m = leb m.start.count 4 && typed (signatures_of m.equations m.count) (start_from m)

-- whether the instances in body j fit
unfoldable pub fits_at : ModelRecord → List ℕ → ℕ → Bool
fits_at m bodies j =
    is_fitting (signatures_of m.equations m.count)
    (take (get_or m.equations j blank).length (drop (256 * j) bodies))
    (ranges_of (get_or m.equations j blank))

-- the first equation whose instances do not fit, where there is one
pub data FirstMisfit (m : ModelRecord) (bodies : List ℕ) : Option ℕ → Type 0 where
  all_fit : ((j : ℕ) → j < m.count → fits_at m bodies j ≡ true) → FirstMisfit m bodies None
  misfit : {j : ℕ} → j < m.count → ((i : ℕ) → i < j → fits_at m bodies i ≡ true) → fits_at m bodies j ≡ false
      → FirstMisfit m bodies (Some j)

-- what comes after the lines: the first test that fails
pub data Finishes (m : ModelRecord) (bodies : List ℕ) (line : ℕ) : Result Model Refusal → Type 0 where
  no_start : m.started ≡ false → Finishes m bodies line (Err (record { reason = OutOfPlace; line = line }))
  misfits : {j : ℕ} → m.started ≡ true → FirstMisfit m bodies (Some j)
      → Finishes m bodies line (Err (record { reason = WrongInstance; line = get_or m.lines j 0 }))
  wrong_start : m.started ≡ true → FirstMisfit m bodies None → is_start m ≡ false
      → Finishes m bodies line (Err (record { reason = WrongStart; line = m.start.line }))
  passes : {whole : Model} → m.started ≡ true → FirstMisfit m bodies None → is_start m ≡ true
      → model_told whole ≡ m → Finishes m bodies line (Ok whole)

-- the lines of a text, read into bodies that were zeros
pub data LinesRead (t after : List ℕ) : Result Model Refusal → Type 0 where
  accepted : {m : Model} → text_refusal t ≡ refused 0 0
      → model_told m ≡ model_record (line_place t) (equations_in (frames t).all) (starts_in (frames t).all)
      → after ≡ bodies_of (equations_in (frames t).all) → LinesRead t after (Ok m)
  stopped : {r : Refusal} → text_refusal t ≡ refused (number_of r.reason) r.line → LinesRead t after (Err r)
