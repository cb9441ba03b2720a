-- Definitions that the theorems of `proofs/Steps` speak of.
-- Each stands alone; what follows from them is there.
use Rattle.std.specs.Prelude.{ℕ, ◌<◌, Bool}
use Rattle.std.proofs.Math.Bool.{false}
use mathlib.Core.List.{List, [], ◌∷◌, ◌++◌}
use Rattle.meaning.specs.Logic.{◌and◌, ◌or◌, Is}
use Rattle.meaning.specs.Solution.{Args, Set, mem}
use Rattle.meaning.specs.Formulas.{values, holds}
use Rattle.meaning.specs.Models.{in_range, nowhere}
use Rattle.translation.specs.Processes.{Summand, Process, steps}
use Rattle.translation.specs.Modal.{Actions, one_of}
use Rattle.translation.specs.Quantifiers.{some_values}

-- a diamond by one summand, and by those of a list that match
unfoldable pub by_values : Summand → Set → Args → Set
by_values s S d e = holds s.condition nowhere (d ++ e) and S (values s.next (d ++ e))

unfoldable pub by_summand : Summand → Set → Args → Bool
by_summand s S d = some_values s.own (by_values s S d)

unfoldable pub by_summands : Actions → List Summand → Set → Args → Bool
by_summands A [] S d = false
by_summands A (s ∷ ss) S d = one_of A s.action and by_summand s S d or by_summands A ss S d

-- a step with one of the actions A from d to a state of S
pub record Stepped (rs : List ℕ) (A : Actions) (S : Set) (d : Args) (ss : List Summand) : Type 0 where
  pub action : ℕ
  pub target : Args
  pub small : action < 16
  pub state : Is (mem target (in_range rs))
  pub taken : Is (steps ss d action target)
  pub matches : Is (one_of A action)
  pub reaches : Is (S target)

-- what a diamond says, in plain words
abbrev pub Possible : Process → Actions → Set → Args → Type 0
Possible process A S d = Stepped process.ranges A S d process.summands
