-- What the private functions print: an answer's lines from its table's words, its truth and its equation
-- records.
-- That these are the lines of the text's answer is shown in proofs/Answered.
use Rattle.std.specs.Prelude.{◌≡◌, ℕ, suc, ◌≤◌, ◌<◌, Bool, cond, List, [], ◌∷◌, ◌++◌, eqb, length, take}
use Rattle.std.specs.Prelude.{get_or, Result, Ok, Err, IfOk}
use Rattle.meaning.specs.WordLaws.{arguments_of}
use Rattle.refusals.specs.Numbers.{number_of}
use Rattle.formulas.specs.declared.Equation.{Equation}
use Rattle.formulas.specs.Bodies.{blank}
use Rattle.frames.specs.Frames.{line_of}
use Rattle.truth.specs.Bits.{bit, bit_of}
use Rattle.words.specs.Unpacked.{equation_number}
use Rattle.reading.specs.Records.{model_told}
use Rattle.answers.specs.Answers.{refusal}
use Rattle.answers.specs.Printed.{verdict_frame, refusal_frame}
use Rattle.engine.specs.declared.Examined.{Examined}
use Rattle.engine.specs.declared.Refused.{Refused}
use Rattle.engine.specs.Examined.{ExaminedRecord}
use Rattle.printing.specs.declared.Frame.{Frame}

abbrev pub bytes_of : Frame → List ℕ
bytes_of f = take f.count f.bytes

-- how many parameters the equation of a word has
abbrev pub parameters_of : List Equation → ℕ → ℕ
parameters_of equations w = (get_or equations (equation_number w) blank).k

-- the frame of a word: its equation, as many arguments as that has parameters, and the value
unfoldable pub word_frame : List Equation → ℕ → Bool → List ℕ
word_frame equations w value =
    0x04 ∷ equation_number w ∷ (arguments_of (parameters_of equations w) w ++ (bit value ∷ []))

-- the lines of the words from number j on
unfoldable pub word_lines : List Equation → List ℕ → ℕ → List ℕ → List ℕ
word_lines equations truth j [] = []
word_lines equations truth j (w ∷ ws) =
    line_of (word_frame equations w (bit_of truth j)) ++ word_lines equations truth (suc j) ws

-- the lines of the reached instances
abbrev pub reached_lines : List ℕ → ExaminedRecord → List ℕ
reached_lines words e =
    word_lines e.model.equations e.answer.truth 0 (take e.answer.reached words)

unfoldable pub answer_text : List ℕ → ExaminedRecord → List ℕ
answer_text words e =
    cond (eqb e.answer.number 0)
    (reached_lines words e ++ line_of (verdict_frame e.answer))
    (line_of (refusal_frame e.answer))

-- every word is that of an equation, which has at most four parameters
unfoldable pub Readable : List Equation → List ℕ → Type 0
Readable equations ws = (j : ℕ) → j < length ws
    → (equation_number (get_or ws j 0) < 8) × (parameters_of equations (get_or ws j 0) ≤ 4)

-- on a verdict, the words of the reached instances are there
pub record Printable (words : List ℕ) (e : ExaminedRecord) : Type 0 where
  pub few : e.answer.number ≡ 0 → (e.answer.reached ≤ 512) × (e.answer.reached ≤ length words)
  pub readable : e.answer.number ≡ 0 → Readable e.model.equations (take e.answer.reached words)

-- ---- of a result
abbrev pub examined_told : Examined → ExaminedRecord
examined_told e = record { answer = e.answer; model = model_told e.model }

-- the lines of the reached instances and the verdict's, or the refusal's line
abbrev pub result_text : List ℕ → Result Examined Refused → List ℕ
result_text words (Ok e) = reached_lines words (examined_told e) ++ line_of (verdict_frame e.answer)
result_text words (Err r) = line_of (refusal_frame (refusal (number_of r.refusal.reason) r.refusal.line))

abbrev pub PrintableResult : List ℕ → Result Examined Refused → Type 0
PrintableResult words result = IfOk result (λ e. (e.answer.number ≡ 0) × Printable words (examined_told e))
