-- DEFINITIONS: modal formulas, and the states that satisfy them. Request 2026-10; source document 002, 3.4.
-- A formula's set of states hangs on the sets of the fixed points around it. No equations are in it.
use Rattle.std.specs.Prelude.{ℕ, suc, ◌+◌, Bool, true, false, not, eqb}
use Rattle.meaning.specs.Logic.{◌and◌, ◌⇒◌, join, over}
use Rattle.meaning.specs.Solution.{Set, Assign, all, fix, put}
use Rattle.meaning.specs.Models.{nowhere}
use Rattle.translation.specs.Processes.{Process, states, any, steps}

-- "A is `11` any, `36 a` action a or `35 a` any other"
pub data Actions : Type 0 where
  any_action : Actions
  only other_than : ℕ → Actions

unfoldable pub one_of : Actions → ℕ → Bool
one_of any_action a = true
one_of (only b) a = eqb a b
one_of (other_than b) a = not (eqb a b)

-- the Bool is true for `and`, box and greatest, false for `or`, diamond and least
pub data Modal : Type 0 where
  -- `10` false, `11` true
  truth : Bool → Modal
  -- `12 f g` and, `13 f g` or
  combined : Bool → Modal → Modal → Modal
  -- `30 A f` box, `31 A f` diamond
  after : Bool → Actions → Modal → Modal
  -- `32 f` least, `33 f` greatest fixed point
  fixed_point : Bool → Modal → Modal
  -- `34 n` the variable of fixed point n
  of_fixed_point : ℕ → Modal

-- how many fixed points stand in a formula: they are "numbered from 0 as they stand"
unfoldable pub fixed_points : Modal → ℕ
fixed_points (truth b) = 0
fixed_points (combined all f g) = fixed_points f + fixed_points g
fixed_points (after all A f) = fixed_points f
fixed_points (fixed_point greatest f) = suc (fixed_points f)
fixed_points (of_fixed_point n) = 0

module _ (process : Process) where
  -- 002, 3.4: box is "for all v' in D, for all a in Act: X(v) -a-> X(v') and a in A implies X(v') in S",
  -- diamond "for some v' in D, for some a in Act: X(v) -a-> X(v') and a in A and X(v') in S"
  unfoldable pub after_steps : Bool → Actions → Set → Set
  after_steps true A S d =
      all (states process) (λ d'. over (join true) true 0 16 (λ a.
      (steps process.summands d a d' and one_of A a) ⇒ S d'))
  after_steps false A S d =
      any (states process) (λ d'. over (join false) false 0 16 (λ a.
      steps process.summands d a d' and one_of A a and S d'))

  -- 002, 3.4: the states that satisfy a formula. Its first fixed point has number n; ρ has the sets of those
  -- around it. Least: the intersection of the sets of states that contain their image; greatest: the union of
  -- those that are contained in it
  unfoldable pub satisfying : Modal → ℕ → Assign → Set
  satisfying (truth b) n ρ = λ d. b
  satisfying (combined all f g) n ρ =
      λ d. join all (satisfying f n ρ d) (satisfying g (n + fixed_points f) ρ d)
  satisfying (after all A f) n ρ = after_steps all A (satisfying f n ρ)
  satisfying (fixed_point greatest f) n ρ =
      fix greatest (states process) (λ S. satisfying f (suc n) (put n S ρ))
  satisfying (of_fixed_point m) n ρ = ρ m

  -- "The start state satisfies the formula"
  unfoldable pub satisfies : Modal → Bool
  satisfies f = satisfying f 0 nowhere process.initial
