-- Definitions that the theorems of `proofs/Counterexamples` speak of.
-- Each stands alone; what follows from them is there.
use Rattle.std.specs.Prelude.{ℕ, true, false, List, [], ◌∷◌}
use Rattle.meaning.specs.Formulas.{number, variable, equal, less, joined, compared, instance}
use Rattle.meaning.specs.Formulas.{Formula}
use Rattle.meaning.specs.Models.{ModelEquation, model_equation, Model}

abbrev pub least_equation : List ℕ → Formula → ModelEquation
least_equation = model_equation false

abbrev pub greatest_equation : List ℕ → Formula → ModelEquation
greatest_equation = model_equation true

-- 1. "Grouping equations by sign, or solving all together by one kind of iteration": a least and a greatest
-- equation, each the other's right side. The first decides: both are false, and true where they change places
abbrev pub least_first : Model
least_first = least_equation [] (instance 1 []) ∷ greatest_equation [] (instance 0 []) ∷ []

abbrev pub greatest_first : Model
greatest_first = greatest_equation [] (instance 1 []) ∷ least_equation [] (instance 0 []) ∷ []

-- 2. "Carrying an inner equation's last values over to the next outer candidate where the fixed point for
-- that candidate can't be reached from them": greatest X0(x) = (x = 0) and X1, least X1 = X1 or X0(1).
-- X1 is true as long as X0(1) is; carried over it would uphold itself, and X0(0), when X0(1) has gone
abbrev pub inner_upholds_itself : Model
inner_upholds_itself =
    greatest_equation (2 ∷ []) (joined true (compared equal (variable 0) (number 0)) (instance 1 [])) ∷
    least_equation [] (joined false (instance 1 []) (instance 0 (number 1 ∷ []))) ∷ []

-- 3. "Calling an instance reached because it stands in the body, though a false test removes it":
-- X0 = (1 < 0) and X1
abbrev pub removed : Model
removed =
    least_equation [] (joined true (compared less (number 1) (number 0)) (instance 1 [])) ∷
    greatest_equation [] (instance 1 []) ∷ []
