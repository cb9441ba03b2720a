-- Document 01, "Slips to rule out": for each slip a small model, and the value that the slip would change.
-- Computed from the definitions alone. Nothing of the laws is used, so a slip in a definition shows here.
use Rattle.std.specs.Prelude.{◌≡◌, refl, true, false, [], ◌∷◌}
use Rattle.meaning.specs.Logic.{◌and◌, ◌or◌, ◌⇒◌, join}
use Rattle.meaning.specs.Solution.{same, mem, all, every, some, least, greatest, solution}
use Rattle.meaning.specs.Formulas.{instance}
use Rattle.meaning.specs.Formulas.{value, holds}
use Rattle.meaning.specs.Models.{spread, in_range, system, meaning}
use Rattle.meaning.specs.Simplification.{join_simplified, simplified}
use Rattle.meaning.specs.Reach.{leaves, instances, body_of, next, fresh, explore}
use Rattle.meaning.specs.Reach.{every_instance, reached}
use Rattle.meaning.specs.Counterexamples.{greatest_equation, greatest_first, inner_upholds_itself, least_equation, least_first}
use Rattle.meaning.specs.Counterexamples.{removed}

pub the_first_decides : (meaning least_first 0 [] ≡ false) × (meaning greatest_first 1 [] ≡ true)
unfolding meaning solution system in_range spread least greatest every some all mem same holds ◌and◌ ◌or◌ ◌⇒◌
the_first_decides = (refl, refl)

pub inner_solved_anew : meaning inner_upholds_itself 0 (0 ∷ []) ≡ false
unfolding meaning solution system in_range spread least greatest every some all mem same holds value join
    ◌and◌ ◌or◌ ◌⇒◌
inner_solved_anew = refl

pub removed_not_reached : reached removed (0 ∷ []) ≡ (0 ∷ []) ∷ []
unfolding reached every_instance in_range spread explore fresh next body_of instances leaves simplified
    join_simplified value mem same ◌and◌ ◌or◌
removed_not_reached = refl

-- 4. "Starting a least equation from true": an equation whose right side is itself
pub least_from_false : (meaning (least_equation [] (instance 0 []) ∷ []) 0 [] ≡ false)
    × (meaning (greatest_equation [] (instance 0 []) ∷ []) 0 [] ≡ true)
unfolding meaning solution system in_range spread least greatest every some all mem same holds ◌and◌ ◌or◌ ◌⇒◌
least_from_false = (refl, refl)
