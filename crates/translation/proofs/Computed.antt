-- Samples of a process and a formula, each with the model and the verdict that a plain reader of 02 gave.
-- Computed from the definitions alone. Above each stands its text, strokes between the frames.
use Rattle.std.specs.Prelude.{◌≡◌, refl, map}
use Rattle.meaning.specs.Logic.{◌and◌, ◌or◌, ◌⇒◌, join, over}
use Rattle.meaning.specs.Solution.{same, mem, all, every, some, least, greatest, solution}
use Rattle.meaning.specs.Formulas.{sum, difference, value, holds}
use Rattle.meaning.specs.Models.{spread, in_range, system, meaning}
use Rattle.meaning.specs.Ranges.{sound_term, sound_terms, sound, term_range}
use Rattle.meaning.specs.Ranges.{arguments_fit, within, all_ranges}
use Rattle.translation.specs.Processes.{any, leads, steps}
use Rattle.translation.specs.Modal.{one_of}
use Rattle.translation.specs.Modal.{fixed_points, after_steps, satisfying, satisfies}
use Rattle.translation.specs.Rules.{plain, well_formed_summand, well_formed_summands}
use Rattle.translation.specs.Rules.{well_formed_process, action_fits, among}
use Rattle.translation.specs.Rules.{well_formed_formula, well_formed_input}
use Rattle.translation.specs.Translation.{substituted_term, substituted, opposite, negated, guard}
use Rattle.translation.specs.Translation.{quantifiers, variables_from, matching, joined_all}
use Rattle.translation.specs.Translation.{after_summand, right_side, equations}
use Rattle.translation.specs.Translation.{begins_with_fixed_point, translated}
use Rattle.translation.specs.Translation.{four_quantifiers, each_four_quantifiers}
use Rattle.translation.specs.Computed.{expected, outcome, samples}

pub samples_computed : map outcome samples ≡ map expected samples
unfolding samples outcome expected meaning solution least greatest every some all mem same ◌and◌ ◌or◌ ◌⇒◌
    join over holds value sum difference spread in_range system sound_term sound_terms sound term_range
    arguments_fit within all_ranges any leads steps one_of fixed_points after_steps satisfying satisfies plain
    well_formed_summand well_formed_summands well_formed_process action_fits among well_formed_formula
    well_formed_input substituted_term substituted opposite negated guard quantifiers variables_from matching
    joined_all after_summand right_side equations begins_with_fixed_point translated each_four_quantifiers
    four_quantifiers
samples_computed = refl
