-- The parts of a well-formed input, and what follows from them for the states.
-- Each part is one of the conjuncts; a summand takes a state in range to a state in range.
use Rattle.std.specs.Prelude.{ℕ, ◌≤◌, ◌<◌, List, [], ◌∷◌, ◌++◌, length}
use native.Mathlib.Omega.{arith}
use Rattle.std.proofs.Common.{sym, subst, ⊎_elim, eqb→eq}
use Rattle.std.proofs.Math.Dec.{leb→le}
use Rattle.meaning.specs.Logic.{Is, never, Is→T, and_l, and_r, and_i, or_e}
use Rattle.meaning.specs.Solution.{Args}
use Rattle.meaning.specs.Formulas.{values}
use Rattle.meaning.specs.Ranges.{sound_terms, sound, arguments_fit, within, all_ranges}
use Rattle.meaning.proofs.Typed.{values_within}
use Rattle.translation.specs.Processes.{Summand, Process}
use Rattle.translation.specs.Modal.{Modal}
use Rattle.translation.specs.Rules.{plain, well_formed_summand, well_formed_summands}
use Rattle.translation.specs.Rules.{well_formed_process, among, well_formed_formula, well_formed_input}

-- of a summand
module _ (rs : List ℕ) (s : Summand) (h : Is (well_formed_summand rs s)) where
  pub own_count : length s.own ≤ 4
  unfolding well_formed_summand
  own_count = leb→le _ 4 (Is→T (and_l _ _ (and_l _ _ (and_l _ _ (and_l _ _ h)))))

  pub own_ranges : Is (all_ranges s.own)
  unfolding well_formed_summand
  own_ranges = and_r _ _ (and_l _ _ (and_l _ _ (and_l _ _ h)))

  pub condition_plain : Is (plain s.condition)
  unfolding well_formed_summand
  condition_plain = and_l _ _ (and_r _ _ (and_l _ _ (and_l _ _ h)))

  pub condition_sound : Is (sound (length (rs ++ s.own)) 0 s.condition)
  unfolding well_formed_summand
  condition_sound = and_r _ _ (and_r _ _ (and_l _ _ (and_l _ _ h)))

  pub action_small : s.action < 16
  unfolding well_formed_summand
  action_small = let l = leb→le s.action 15 (Is→T (and_r _ _ (and_l _ _ h))) in omega arith

  pub next_sound : Is (sound_terms (length (rs ++ s.own)) s.next)
  unfolding well_formed_summand
  next_sound = and_l _ _ (and_r _ _ h)

  pub next_fits : Is (arguments_fit s.next rs (rs ++ s.own))
  unfolding well_formed_summand
  next_fits = and_r _ _ (and_r _ _ h)

pub first_summand : (rs : List ℕ) (s : Summand) (ss : List Summand) → Is (well_formed_summands rs (s ∷ ss)) →
    Is (well_formed_summand rs s)
unfolding well_formed_summands
first_summand rs s ss h = and_l _ _ h

pub later_summands : (rs : List ℕ) (s : Summand) (ss : List Summand) → Is (well_formed_summands rs (s ∷ ss)) →
    Is (well_formed_summands rs ss)
unfolding well_formed_summands
later_summands rs s ss h = and_r _ _ h

-- of an input
pub input_process : (process : Process) (f : Modal) → Is (well_formed_input process f) →
    Is (well_formed_process process)
unfolding well_formed_input
input_process process f h = and_l _ _ h

pub input_formula : (process : Process) (f : Modal) → Is (well_formed_input process f) →
    Is (well_formed_formula [] 0 f)
unfolding well_formed_input
input_formula process f h = and_r _ _ h

module _ (process : Process) (h : Is (well_formed_process process)) where
  pub parameter_count : length process.ranges ≤ 4
  unfolding well_formed_process
  parameter_count = leb→le _ 4 (Is→T (and_l _ _ (and_l _ _ (and_l _ _ (and_l _ _ h)))))

  pub parameter_ranges : Is (all_ranges process.ranges)
  unfolding well_formed_process
  parameter_ranges = and_r _ _ (and_l _ _ (and_l _ _ (and_l _ _ h)))

  pub initial_within : Is (within process.initial process.ranges)
  unfolding well_formed_process
  initial_within = and_r _ _ (and_l _ _ (and_l _ _ h))

  pub summands_formed : Is (well_formed_summands process.ranges process.summands)
  unfolding well_formed_process
  summands_formed = and_r _ _ h

-- the next state of a state in range is in range
pub within_append : (x rs y qs : List ℕ) → Is (within x rs) → Is (within y qs) →
    Is (within (x ++ y) (rs ++ qs))
unfolding within
within_append [] [] y qs w u = u
within_append [] (r ∷ rs) y qs w u = never w
within_append (a ∷ x) [] y qs w u = never w
within_append (a ∷ x) (r ∷ rs) y qs w u = and_i (and_l _ _ w) (within_append x rs y qs (and_r _ _ w) u)

pub next_within : (rs : List ℕ) (s : Summand) → Is (well_formed_summand rs s) → (d e : Args) →
    Is (within d rs) → Is (within e s.own) → Is (within (values s.next (d ++ e)) rs)
next_within rs s h d e w u = values_within s.next rs (d ++ e) (rs ++ s.own)
    (within_append d rs e s.own w u) (next_sound rs s h) (next_fits rs s h)

-- what holds of the fixed points around
abbrev pub Around : List ℕ → (ℕ → Type 0) → Type 0
Around around P = (j : ℕ) → Is (among j around) → P j

pub around_none : (P : ℕ → Type 0) → Around [] P
unfolding among
around_none P j h = never h

pub around_more : (P : ℕ → Type 0) (n : ℕ) (around : List ℕ) → P n → Around around P → Around (n ∷ around) P
unfolding among
around_more P n around p h j i = ⊎_elim (λ e. subst P (sym (eqb→eq j n (Is→T e))) p) (h j) (or_e _ _ i)
