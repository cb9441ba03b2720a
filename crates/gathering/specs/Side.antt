-- DEFINITIONS: what gathering the right side of an instance promises.
-- The words that are left in it are added to those found, their numbers are noted, and its shape is told.
use Rattle.std.specs.Prelude.{ℕ, ◌+◌, ◌≤◌, ◌≡◌, List, length}
use Rattle.formulas.specs.declared.Equation.{Equation}
use Rattle.truth.specs.Bits.{bit_of, nowhere}
use Rattle.instances.specs.Graph.{left_in}
use Rattle.gathering.specs.declared.Side.{Side}
use Rattle.gathering.specs.Filling.{found_of, found_words}
use Rattle.gathering.specs.Shapes.{gist}
use Rattle.gathering.specs.Gathered.{Takes}

-- what is left in the right side of the instance with the word w is taken, from no number read on
abbrev pub SideTold : List ℕ → List Equation → ℕ → ℕ → List ℕ → List ℕ → ℕ → Side → Type 0
SideTold bodies equations w room entry exit n r =
    Takes room (found_words entry (found_of room n)) (found_words exit (found_of room r.found)) nowhere
    (bit_of r.reads) r.shape (gist (left_in bodies equations w))

pub record SideGathers (bodies : List ℕ) (equations : List Equation) (w room : ℕ) (entry exit : List ℕ)
    (n : ℕ) (r : Side) : Type 0 where
  pub few : r.found ≤ room + 1
  pub size : length exit ≡ length entry
  pub told : SideTold bodies equations w room entry exit n r
