-- DEFINITIONS: what reading lends and hands on. Document 01, "What is lent".
-- The records of the equations, with places in the text; the lines; the start; the bodies' bytes.
use Rattle.std.specs.Prelude.{ℕ, suc, ◌+◌, ◌-◌, ◌*◌, cond, not, List, [], ◌∷◌, ◌++◌, map, eqb, get_or, length}
use Rattle.std.specs.Prelude.{replicate, Bool, true, Result, Ok, Err}
use Rattle.std.proofs.lemmas.List.Edits.{sets}
use Rattle.frames.specs.Lines.{line_place}
use Rattle.frames.specs.Frames.{Frame, frames}
use Rattle.refusals.specs.declared.Refusal.{Refusal}
use Rattle.refusals.specs.Numbers.{number_of}
use Rattle.formulas.specs.declared.Equation.{Equation}
use Rattle.reading.specs.declared.Start.{Start}
use Rattle.reading.specs.declared.Model.{Model}
use Rattle.reading.specs.declared.Reading.{Reading}
use Rattle.reading.specs.Equations.{four_ranges, body_in}
use Rattle.reading.specs.Models.{equations_in, starts_in, is_none, first_of}
use Rattle.reading.specs.Reading.{text_refusal}

-- "sign, k, four ranges (1 for an absent one), place of the body's first digit in the text (counted from 0),
-- body
-- length in bytes": the record of a frame whose first digit stands at place p. After the head comes the body
unfoldable pub equation_record : ℕ → List ℕ → Equation
equation_record p f = record {
  sign = get_or f 1 0;
  k = get_or f 2 0;
  ranges = four_ranges f;
  place = p + 2 * (3 + get_or f 2 0);
  length = length f - (3 + get_or f 2 0);
}

-- a start: the first four of its arguments, and how many there are
unfoldable pub start_record : ℕ → List ℕ → Start
start_record line f = record {
  line = line;
  equation = get_or f 1 0;
  count = length f - 2;
  arguments = get_or f 2 0 ∷ get_or f 3 0 ∷ get_or f 4 0 ∷ get_or f 5 0 ∷ [];
}

abbrev pub no_equation : Equation
no_equation = record { sign = 0; k = 0; ranges = replicate 4 0; place = 0; length = 0 }

-- with x after them, up to eight
abbrev pub eight : {A : Type 0} → A → List A → List A
eight x l = l ++ replicate (8 - length l) x

-- the equations, their lines, and the start, where there is one
pub record ModelRecord : Type 0 where
  pub count : ℕ
  pub equations : List Equation
  pub lines : List ℕ
  pub started : Bool
  pub start : Start

-- the records of the frames of some equations and of a start, perhaps; `place` says where a line begins in
-- the text
unfoldable pub model_record : (ℕ → ℕ) → List Frame → List Frame → ModelRecord
model_record place equations starts = record {
  count = length equations;
  equations = eight no_equation (map (λ f. equation_record (place f.line) f.bytes) equations);
  lines = eight 0 (map (λ f. f.line) equations);
  started = not (is_none starts);
  start = start_record (first_of starts).line (first_of starts).bytes;
}

-- the bodies of some equations, that of number j from 256 * j on, over what is there
unfoldable pub bodies_over : ℕ → List Frame → List ℕ → List ℕ
bodies_over j [] there = there
bodies_over j (f ∷ fs) there = bodies_over (suc j) fs (sets there (256 * j) (body_in f.bytes))

abbrev pub bodies_of : List Frame → List ℕ
bodies_of equations = bodies_over 0 equations (replicate 2048 0)

-- the frames of a text that is not refused; none of one that is
abbrev pub kept : List ℕ → List Frame
kept t = cond (eqb (text_refusal t).number 0) (frames t).all []

-- number and line are 0 where the model was read; where it was not, the records and the bodies are those of
-- no frame
pub record ReadingRecord : Type 0 where
  pub number : ℕ
  pub line : ℕ
  pub model : ModelRecord
  pub bodies : List ℕ

unfoldable pub reading : List ℕ → ReadingRecord
reading t = record {
  number = (text_refusal t).number;
  line = (text_refusal t).line;
  model = model_record (line_place t) (equations_in (kept t)) (starts_in (kept t));
  bodies = bodies_of (equations_in (kept t));
}

-- ---- what the code tells: a model that was read has a start
abbrev pub model_told : Model → ModelRecord
model_told m =
    record { count = m.count; equations = m.equations; lines = m.lines; started = true; start = m.start }

abbrev pub told : Result Reading Refusal → ReadingRecord
told (Ok r) = record { number = 0; line = 0; model = model_told r.model; bodies = r.bodies }
told (Err refusal) = record {
  number = number_of refusal.reason;
  line = refusal.line;
  model = model_record (λ i. 0) [] [];
  bodies = bodies_of [];
}
