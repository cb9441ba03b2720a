-- DEFINITIONS: the promise of solving: the words of the truth of a model's reached instances.
-- "Instance j is bit j mod 64 of word j div 64": each is as true as the solution of the whole model says.
use Rattle.std.specs.Prelude.{ℕ, ◌≡◌, Bool, List, map}
use Rattle.meaning.specs.Models.{Model}
use Rattle.meaning.specs.Reach.{Instance, reached}
use Rattle.meaning.specs.Words.{word}
use Rattle.formulas.specs.declared.Equation.{Equation}
use Rattle.truth.specs.Words.{truth_words}
use Rattle.answers.specs.Answers.{truth_in}
use Rattle.instances.specs.Models.{model_in, WellFormedModel}
use Rattle.instances.specs.Graph.{GraphOf}

-- the decoded bodies hold a well-formed model, the table has the words of its reached instances, and its
-- graph is lent
pub record Solvable (bodies : List ℕ) (equations : List Equation) (count : ℕ) (table graph : List ℕ)
    (start : Instance) : Type 0 where
  pub model : WellFormedModel bodies equations count start
  pub words : table ≡ map word (reached (model_in bodies equations count) start)
  pub drawn : GraphOf bodies equations table graph

-- then r has the values of them, in the order of finding
abbrev pub reached_values : Model → Instance → List Bool
reached_values model start = map (truth_in model) (reached model start)

abbrev pub Solves : List ℕ → List Equation → (count : ℕ) (table graph r : List ℕ) → Type 0
Solves bodies equations count table graph r =
    (start : Instance) → Solvable bodies equations count table graph start
    → r ≡ truth_words (reached_values (model_in bodies equations count) start)
