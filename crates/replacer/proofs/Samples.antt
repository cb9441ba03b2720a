-- The edge cases of request 2026-01, from their texts: one table under one theorem.
-- Computed from the definitions alone. Nothing of the laws is used, so a slip in a definition shows here.
use Rattle.std.specs.Prelude.{◌≡◌, refl, map}
use Rattle.meaning.specs.Logic.{◌and◌}
use Rattle.meaning.specs.Ranges.{all_ranges, term_range, arguments_fit, fits, within, typed}
use Rattle.digits.specs.Digits.{bytes_of, characters}
use Rattle.formulas.specs.Codes.{row_of}
use Rattle.formulas.specs.Decode.{in_row, term_of_kind, term_at, formula_of_kind, formula_at}
use Rattle.formulas.specs.Bodies.{body_at, is_body, is_fitting}
use Rattle.frames.specs.Lines.{lines_of, joined, all_digits, line_refusal}
use Rattle.frames.specs.Frames.{frames_from, frames}
use Rattle.reading.specs.Equations.{is_valid_head}
use Rattle.reading.specs.Models.{frames_with, model_of}
use Rattle.reading.specs.Reading.{equation_refusal, start_refusal, frame_refusal}
use Rattle.reading.specs.Reading.{instances_judged, start_judged, finished, frames_judged, text_refusal}
use Rattle.answers.specs.Samples.{bytes_from, bytes}
use Rattle.replacer.specs.Replaced.{replaced_text, replacement_refusal}
use Rattle.replacer.specs.Samples.{expected, outcome, samples}

-- each has the refusal and the text that the request gives
pub samples_replaced : map outcome samples ≡ map expected samples
unfolding bytes_from bytes ◌and◌ all_ranges term_range arguments_fit fits within typed bytes_of characters
    row_of in_row term_of_kind term_at formula_of_kind formula_at body_at is_body is_fitting lines_of joined
    all_digits line_refusal frames_from frames is_valid_head frames_with model_of equation_refusal
    start_refusal frame_refusal instances_judged start_judged finished frames_judged text_refusal
    replaced_text replacement_refusal
samples_replaced = refl
