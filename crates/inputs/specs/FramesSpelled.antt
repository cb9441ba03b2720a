-- Definitions that the theorems of `proofs/FramesSpelled` speak of.
-- Each stands alone; what follows from them is there.
use Rattle.std.specs.Prelude.{ℕ, ◌+◌, ◌≤◌, ◌≡◌, List, ◌∷◌, ◌++◌}
use Rattle.std.proofs.Math.ListN.{length}
use Rattle.meaning.specs.Logic.{Is}
use Rattle.meaning.specs.Ranges.{within, all_ranges}
use Rattle.spelling.specs.Spelled.{spelled, spelled_terms}
use Rattle.spelling.specs.Stands.{Stands}
use Rattle.translation.specs.Processes.{Summand}
use Rattle.inputs.specs.Inputs.{count_of, ranges_of, initial_of}

-- ---- `09`
pub record ProcessFits (f : List ℕ) : Type 0 where
  pub few : count_of f ≤ 4
  pub size : length f ≡ 2 + count_of f + count_of f
  pub ranges : Is (all_ranges (ranges_of f))
  pub values : Is (within (initial_of f) (ranges_of f))

-- ---- `07`: what follows the head of a summand that was read to the end
abbrev pub after_head : Summand → List ℕ
after_head s = spelled s.condition ++ (s.action ∷ spelled_terms s.next)

pub record SummandThere (f : List ℕ) (s : Summand) : Type 0 where
  pub own : s.own ≡ ranges_of f
  pub stands : Stands f (2 + count_of f) (after_head s)
  pub size : length f ≡ 2 + count_of f + length (after_head s)
