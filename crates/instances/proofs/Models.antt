-- What stands at number e of the model of prepared bodies, and which instance a word names in a model.
-- The model is made equation by equation; of a well-formed one the word of an instance says its equation and its arguments.
use Prim.Native.Nat.{ℕ, zero, suc, ◌+◌, ◌<◌, ◌≤◌}
use native.Mathlib.Omega.{arith}
use mathlib.Core.Path.{◌≡◌, refl, sym, ap, ◌∙◌}
use mathlib.Core.Bool.{false}
use mathlib.Core.List.{List, [], ◌∷◌}
use lib.ListN.{length, get_or, get_or-map}
use Rattle.meaning.specs.Logic.{Is}
use Rattle.meaning.specs.Formulas.{constant}
use Rattle.meaning.specs.Models.{ModelEquation, Model}
use Rattle.meaning.specs.Ranges.{signatures, typed, well_formed}
use Rattle.meaning.specs.Reach.{Instance, body_of}
use Rattle.meaning.proofs.Typed.{typed_equation, well_formed_count, signatures_length, ranges_count}
use Rattle.meaning.specs.Words.{word}
use Rattle.meaning.proofs.WordLaws.{typed_length, word_equation, word_arguments}
use Rattle.formulas.specs.declared.Equation.{Equation}
use Rattle.formulas.specs.Bodies.{ranges_of}
use Rattle.words.specs.Unpacked.{equation_number}
use Rattle.prepared.specs.Decoded.{equation_at}
use Rattle.instances.specs.Sides.{formula_in, arguments_in}
use Rattle.instances.specs.Models.{equation_in, model_from, model_in, WellFormedModel}

-- ---- what stands at number e
-- no equation: past the end of a model
abbrev no_equation : ModelEquation
no_equation = record { greatest = false; ranges = []; body = constant false }

body_getD : (model : Model) (e : ℕ) → body_of model e ≡ (get_or model e no_equation).body
unfolding body_of
body_getD [] e = refl
body_getD (m ∷ ms) zero = refl
body_getD (m ∷ ms) (suc e) = body_getD ms e

module _ (bodies : List ℕ) (equations : List Equation) where
  abbrev there : ℕ → ModelEquation
  there = equation_in bodies equations

  pub model_length : (n e : ℕ) → length (model_from bodies equations e n) ≡ n
  unfolding model_from
  model_length zero e = refl
  model_length (suc n) e = ap suc (model_length n (suc e))

  model_at : (n e i : ℕ) → i < n → get_or (model_from bodies equations e n) i no_equation ≡ there (e + i)
  unfolding model_from
  model_at zero e i h = absurd (omega arith)
  model_at (suc n) e zero h = ap there (omega arith)
  model_at (suc n) e (suc i) h = model_at n (suc e) i (omega arith) ∙ ap there (omega arith)

  -- equation e of the model, its body and its ranges
  module _ (count e : ℕ) (h : e < count) where
    abbrev model : Model
    model = model_in bodies equations count

    equation_there : get_or model e no_equation ≡ there e
    equation_there = model_at count 0 e h ∙ ap there (omega arith)

    pub body_there : body_of model e ≡ formula_in bodies equations e
    body_there = body_getD model e ∙ ap (λ (m : ModelEquation). m.body) equation_there

    pub signature_there : get_or (signatures model) e [] ≡ ranges_of (equation_at equations e)
    signature_there =
        get_or-map (λ m. m.ranges) model e no_equation ∙ ap (λ (m : ModelEquation). m.ranges) equation_there

-- ---- the word of an instance names it
-- the records have the ranges of the equations of a well-formed model
pub record Named (model : Model) (equations : List Equation) (start : Instance) : Type 0 where
  pub well : Is (well_formed model start)
  pub ranges : (e : ℕ) → e < length model → get_or (signatures model) e [] ≡ ranges_of (equation_at equations e)
  pub wide : (e : ℕ) → e < length model → length (ranges_of (equation_at equations e)) ≡ (equation_at equations e).k

module _ {model : Model} {equations : List Equation} {start : Instance} (m : Named model equations start) where
  abbrev pub Typed : Instance → Type 0
  Typed i = Is (typed (signatures model) i)

  module _ (e : ℕ) (x : List ℕ) (t : Typed (e ∷ x)) where
    there_is : e < length (signatures model)
    there_is = typed_equation (signatures model) e x t

    pub typed_inside : e < length model
    typed_inside = omega (arith, there_is, signatures_length model)

    pub word_number : equation_number (word (e ∷ x)) ≡ e
    word_number = word_equation model start m.well e x t

    parameters : (equation_at equations e).k ≡ length x
    parameters = sym (m.wide e typed_inside) ∙ ap length (sym (m.ranges e typed_inside))
        ∙ sym (typed_length model start m.well e x t)

    pub word_names : arguments_in equations (word (e ∷ x)) ≡ x
    word_names = rw (word_number, parameters) (word_arguments model start m.well e x t)

    -- its equation is one of eight, with at most four parameters
    pub word_readable : (equation_number (word (e ∷ x)) < 8) × ((equation_at equations (equation_number (word (e ∷ x)))).k ≤ 4)
    word_readable =
        let arguments = typed_length model start m.well e x t in
        let few = ranges_count model start m.well e there_is in
        let equations_few = well_formed_count model start m.well in
        rw word_number (omega (arith, typed_inside, equations_few), omega (arith, parameters))

-- ---- so it is of the model of prepared bodies
module _ {bodies : List ℕ} {equations : List Equation} {count : ℕ} {start : Instance}
    (m : WellFormedModel bodies equations count start) where
  abbrev size : length (model_in bodies equations count) ≡ count
  size = model_length bodies equations count 0

  pub named : Named (model_in bodies equations count) equations start
  named = record {
    well = m.well;
    ranges = λ e h. signature_there bodies equations count e (omega (arith, size));
    wide = λ e h. m.wide e (omega (arith, size));
  }

  pub few_equations : count ≤ 8
  few_equations = omega (arith, well_formed_count (model_in bodies equations count) start m.well, size)

  pub typed_below : (e : ℕ) (x : List ℕ) → Typed named (e ∷ x) → e < count
  typed_below e x t = omega (arith, typed_inside named e x t, size)
