-- DEFINITIONS: the right sides of a table of words, and its instances as a numbered system.
-- A right side is the value of the equation's formula: an instance is as true as its number in the set says.
use Rattle.std.specs.Prelude.{ℕ, min, Bool, true, false, cond, ◌&&◌, List, eqb, ltb, length, get_or}
use Rattle.std.specs.Prelude.{Option, Some, None}
use Rattle.meaning.specs.Formulas.{Formula, constant}
use Rattle.meaning.specs.WordLaws.{arguments_of}
use Rattle.formulas.specs.declared.Equation.{Equation}
use Rattle.words.specs.Unpacked.{equation_number}
use Rattle.evaluator.specs.Values.{valued, value_in}
use Rattle.prepared.specs.Decoded.{equation_at}
use Rattle.prepared.specs.Prepared.{prepared_part, formula_there}
use Rattle.systems.specs.Numbered.{Truths, Numbered}

-- the formula of equation e, in prepared bodies; "at most 8" equations, "parameter count k (0 to 4)", so no
-- more are in reach
unfoldable pub formula_in : List ℕ → List Equation → ℕ → Formula
formula_in bodies equations e =
    cond (ltb e 8) (formula_there (prepared_part bodies e) (min (equation_at equations e).k 4) 0)
    (constant false)

-- the arguments of the instance with the word w
abbrev pub arguments_in : List Equation → ℕ → List ℕ
arguments_in equations w = arguments_of (equation_at equations (equation_number w)).k w

-- the right side of the instance with the word w
unfoldable pub side_of : List ℕ → List Equation → List ℕ → Truths → ℕ → Option Bool
side_of bodies equations table v w =
    valued (formula_in bodies equations (equation_number w)) (value_in table v) (arguments_in equations w)

abbrev pub is_true : Option Bool → Bool
is_true (Some false) = false
is_true (Some true) = true
is_true None = false

-- the right sides of a table's instances in a set
unfoldable pub sides : List ℕ → List Equation → List ℕ → Truths → Truths
sides bodies equations table v j = is_true (side_of bodies equations table v (get_or table j 0))

-- those of the first n numbers that p has
unfoldable pub among_first : ℕ → Truths → Truths
among_first n p j = ltb j n && p j

-- number j's word names equation e
unfoldable pub names : List ℕ → ℕ → Truths
names table e j = eqb e (equation_number (get_or table j 0))

unfoldable pub is_greatest : List Equation → ℕ → Bool
is_greatest equations e = eqb (equation_at equations e).sign 1

-- the instances of a table of words, numbered in its order
unfoldable pub numbered_system : List ℕ → List Equation → List ℕ → Numbered
numbered_system bodies equations table = record {
  size = length table;
  of = λ e. among_first (length table) (names table e);
  greatest = is_greatest equations;
  right_sides = sides bodies equations table;
}
