-- What `read_input` hands on: the refusal of a text, or its frames laid out on a sheet.
-- A refusal is told by its number and its line, both 0 where there is none; with it goes a sheet of zeros.
use Rattle.std.specs.Prelude.{ℕ, cond, List, Result, Ok, Err, eqb, replicate}
use Rattle.refusals.specs.declared.Refusal.{Refusal}
use Rattle.refusals.specs.Numbers.{number_of}
use Rattle.inputs.specs.Inputs.{input_refusal, content_of}
use Rattle.inputs.specs.Sheet.{sheet_of}

pub record Input : Type 0 where
  pub number : ℕ
  pub line : ℕ
  pub frames : List ℕ

unfoldable pub input : List ℕ → Input
input t = record {
  number = (input_refusal t).number;
  line = (input_refusal t).line;
  frames = cond (eqb (input_refusal t).number 0) (sheet_of (content_of t)) (replicate 4608 0);
}

-- what the reply of `read_input` tells
abbrev pub told : Result (List ℕ) Refusal → Input
told (Ok sheet) = record { number = 0; line = 0; frames = sheet }
told (Err r) = record { number = number_of r.reason; line = r.line; frames = replicate 4608 0 }
