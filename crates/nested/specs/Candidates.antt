-- DEFINITIONS: the first candidates of all equations, in a table of words: what a private function computes.
-- Every instance at the constant of its equation's sign.
use Rattle.std.specs.Prelude.{ℕ, List, ltb, length, get_or}
use Rattle.formulas.specs.declared.Equation.{Equation}
use Rattle.truth.specs.Bits.{nowhere}
use Rattle.words.specs.Unpacked.{equation_number}
use Rattle.systems.specs.Numbered.{Truths}
use Rattle.systems.specs.Solved.{filled}
use Rattle.instances.specs.Sides.{among_first, is_greatest}

-- the equation of number j's word is among the first `count`
unfoldable pub names_below : List ℕ → ℕ → Truths
names_below table count j = ltb (equation_number (get_or table j 0)) count

-- the constant of its sign
unfoldable pub constants : List Equation → List ℕ → Truths
constants equations table j = is_greatest equations (equation_number (get_or table j 0))

abbrev pub first_candidates : List Equation → ℕ → List ℕ → Truths
first_candidates equations count table =
    filled (among_first (length table) (names_below table count)) (constants equations table) nowhere
