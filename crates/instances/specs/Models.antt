-- DEFINITIONS: the model of prepared bodies.
-- It is a function of the prepared bodies and of the equations' records.
use Rattle.std.specs.Prelude.{ℕ, zero, suc, ◌<◌, ◌≡◌, List, [], ◌∷◌, length}
use Rattle.meaning.specs.Logic.{Is}
use Rattle.meaning.specs.Models.{ModelEquation, Model}
use Rattle.meaning.specs.Ranges.{well_formed}
use Rattle.meaning.specs.Reach.{Instance}
use Rattle.formulas.specs.declared.Equation.{Equation}
use Rattle.formulas.specs.Bodies.{ranges_of}
use Rattle.prepared.specs.Decoded.{equation_at}
use Rattle.instances.specs.Sides.{formula_in, is_greatest}

abbrev pub equation_in : List ℕ → List Equation → ℕ → ModelEquation
equation_in bodies equations e = record {
  greatest = is_greatest equations e;
  ranges = ranges_of (equation_at equations e);
  body = formula_in bodies equations e;
}

-- the equations from number e on, n of them
unfoldable pub model_from : List ℕ → List Equation → ℕ → ℕ → Model
model_from bodies equations e zero = []
model_from bodies equations e (suc n) =
    equation_in bodies equations e ∷ model_from bodies equations (suc e) n

-- the model of the first `count` equations
abbrev pub model_in : List ℕ → List Equation → ℕ → Model
model_in bodies equations count = model_from bodies equations 0 count

-- it is well-formed with this start, and each equation has as many ranges as parameters
pub record WellFormedModel (bodies : List ℕ) (equations : List Equation) (count : ℕ) (start : Instance)
    : Type 0 where
  pub well : Is (well_formed (model_in bodies equations count) start)
  pub wide : (e : ℕ) → e < count
      → length (ranges_of (equation_at equations e)) ≡ (equation_at equations e).k
