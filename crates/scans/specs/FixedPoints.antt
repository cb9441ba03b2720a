-- The fixed points of a formula as they stand, each with the formula inside it.
-- "fixed points become equations in that order": the equations of a formula, read off that list.
use Rattle.std.specs.Prelude.{Bool, false, List, [], ◌∷◌, ◌++◌}
use Rattle.translation.specs.Modal.{Modal, truth, combined, after, fixed_point, of_fixed_point}

pub record Fixed : Type 0 where
  pub greatest : Bool
  pub inner : Modal

unfoldable pub fixed_in : Modal → List Fixed
fixed_in (truth b) = []
fixed_in (combined all f g) = fixed_in f ++ fixed_in g
fixed_in (after all A f) = fixed_in f
fixed_in (fixed_point greatest f) = record { greatest = greatest; inner = f } ∷ fixed_in f
fixed_in (of_fixed_point n) = []

abbrev pub no_fixed : Fixed
no_fixed = record { greatest = false; inner = truth false }
