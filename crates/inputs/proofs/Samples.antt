-- The definitions tried on samples: inputs that are read as their process and formula, and others that are
-- refused with 14 at the line of the first frame that breaks a rule. Each is computed.
use Rattle.std.specs.Prelude.{ℕ, ◌+◌, ◌≤◌, ◌≡◌, refl, List, [], map, length}
use Rattle.meaning.specs.Logic.{◌and◌, ◌or◌}
use Rattle.meaning.specs.Ranges.{sound_term, sound_terms, sound, term_range}
use Rattle.meaning.specs.Ranges.{arguments_fit, within, all_ranges}
use Rattle.frames.specs.Frames.{text_of}
use Rattle.frames.specs.RoundTrip.{AllWritable, numbered}
use Rattle.frames.proofs.RoundTrip.{written_read}
use Rattle.formulas.specs.Codes.{row_of}
use Rattle.formulas.specs.Decode.{in_row, term_of_kind, term_at, formula_of_kind, formula_at}
use Rattle.reading.specs.Reading.{Refusal, refused}
use Rattle.translation.specs.Modal.{fixed_points}
use Rattle.translation.specs.Rules.{plain, well_formed_summand, action_fits, among, well_formed_formula}
use Rattle.inputs.specs.Modals.{actions_at, modal_of_code, modal_at}
use Rattle.inputs.specs.Inputs.{is_process, summand_at, is_summand, is_formula, with_code}
use Rattle.inputs.specs.Inputs.{process_in, formula_in, keeps_rules, Judged, judged, input_refusal}
use Rattle.inputs.specs.Samples.{Bad, Good, Said, bad, bad_inputs, bytes_before, good, good_inputs, says}

abbrev frames_of : List ℕ → List (List ℕ)
frames_of ns = map (λ (n : ℕ). bytes_before 20 n []) ns

-- frames in lines from 1 on
abbrev judged_frames : List (List ℕ) → Judged
judged_frames fs = judged [] (numbered 1 fs) (length fs + 1)

-- as a text is judged that they are written as
pub judged_text : (fs : List (List ℕ)) → AllWritable fs → length (text_of fs) ≤ 32768 →
    input_refusal (text_of fs) ≡ (judged_frames fs).refusal
unfolding input_refusal
judged_text fs all short = rw (written_read fs all short) refl

abbrev said_by : Judged → Said
said_by j = says j.refusal (process_in j.content) (formula_in j.content)

abbrev is_said : Good → Said
is_said (good ns p f) = said_by (judged_frames (frames_of ns))

abbrev to_say : Good → Said
to_say (good ns p f) = says (refused 0 0) p f

abbrev is_refused : Bad → Refusal
is_refused (bad line ns) = (judged_frames (frames_of ns)).refusal

abbrev to_refuse : Bad → Refusal
to_refuse (bad line ns) = refused 14 line

pub samples_judged : (map is_said good_inputs ≡ map to_say good_inputs) ×
    (map is_refused bad_inputs ≡ map to_refuse bad_inputs)
unfolding good_inputs bad_inputs bytes_before numbered judged keeps_rules is_process is_summand is_formula
    summand_at with_code process_in formula_in modal_at modal_of_code actions_at in_row term_of_kind term_at
    formula_of_kind formula_at row_of ◌and◌ ◌or◌ sound_term sound_terms sound term_range arguments_fit within
    all_ranges fixed_points plain well_formed_summand action_fits among well_formed_formula
samples_judged = (refl, refl)
