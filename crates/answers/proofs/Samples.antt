-- The sample models of document 01 that are marked P, from their texts: one table under one theorem.
-- Computed from the definitions alone. Nothing of the laws is used, so a slip in a definition shows here.
use Rattle.std.specs.Prelude.{◌≡◌, refl, map}
use Rattle.meaning.specs.Logic.{◌and◌, ◌or◌, ◌⇒◌, join, over}
use Rattle.meaning.specs.Solution.{same, mem, all, every, some, least, greatest, solution}
use Rattle.meaning.specs.Formulas.{sum, difference, value, holds}
use Rattle.meaning.specs.Models.{spread, in_range, system, meaning}
use Rattle.meaning.specs.Simplification.{join_simplified, simplified}
use Rattle.meaning.specs.Reach.{leaves, instances, body_of, next, fresh, explore, every_instance, reached}
use Rattle.meaning.specs.Ranges.{all_ranges, term_range, arguments_fit, fits, within, typed}
use Rattle.meaning.specs.Words.{word}
use Rattle.digits.specs.Digits.{bytes_of, characters}
use Rattle.formulas.specs.Codes.{row_of}
use Rattle.formulas.specs.Decode.{in_row, term_of_kind, term_at, formula_of_kind, formula_at}
use Rattle.formulas.specs.Bodies.{body_at, is_body, is_fitting}
use Rattle.frames.specs.Lines.{lines_of, all_digits, line_refusal}
use Rattle.frames.specs.Frames.{frames_from, frames, line_of}
use Rattle.reading.specs.Equations.{is_valid_head}
use Rattle.reading.specs.Models.{frames_with, model_of}
use Rattle.reading.specs.Reading.{equation_refusal, start_refusal, frame_refusal, instances_judged}
use Rattle.reading.specs.Reading.{start_judged, finished}
use Rattle.reading.specs.Reading.{frames_judged, text_refusal}
use Rattle.truth.specs.Words.{from_digits, words, count_true}
use Rattle.answers.specs.Answers.{list, truth_in, shown_values, verdict, judged, answer}
use Rattle.answers.specs.Answers.{table_after, checked, table_after_check}
use Rattle.answers.specs.Answers.{is_found, list_answer, solved}
use Rattle.answers.specs.Printed.{instance_lines, answer_lines, printed}
use Rattle.answers.specs.Samples.{bytes, bytes_from, expected, outcome, samples}

-- every sample marked P has the output, the answer and the table that document 01 gives, and those of
-- requests 2026-02 and 2026-04 what these give; solving answers as request 2026-05 says
pub samples_computed : map outcome samples ≡ map expected samples
unfolding bytes_from bytes ◌and◌ ◌or◌ ◌⇒◌ join over same mem all every some least greatest solution sum
    difference value holds spread in_range system meaning join_simplified simplified leaves instances
    body_of next fresh explore every_instance reached all_ranges term_range arguments_fit fits within typed
    word bytes_of row_of in_row term_of_kind term_at formula_of_kind formula_at body_at is_body is_fitting
    lines_of all_digits line_refusal frames_from frames is_valid_head frames_with model_of equation_refusal
    start_refusal frame_refusal instances_judged start_judged finished frames_judged text_refusal from_digits
    words count_true list truth_in shown_values verdict judged answer table_after checked table_after_check
    characters line_of instance_lines answer_lines printed is_found list_answer solved
samples_computed = refl
