-- DEFINITIONS: the model of a process and a formula. Request 2026-10; source document 004, E and RHS.
-- Fixed points become equations; boxes and diamonds quantify over the values of the summands' own variables.
use Rattle.std.specs.Prelude.{ℕ, suc, ◌+◌, Bool, true, false, not, cond, List, [], ◌∷◌, ◌++◌, map, length}
use Rattle.std.specs.Prelude.{get_or, ltb}
use Rattle.meaning.specs.Logic.{◌and◌}
use Rattle.meaning.specs.Formulas.{Term, number, variable, calculated, Test, equal, less, unequal, not_less}
use Rattle.meaning.specs.Formulas.{Formula, constant, joined, quantified, compared, instance}
use Rattle.meaning.specs.Models.{ModelEquation, model_equation, Model}
use Rattle.meaning.specs.Reach.{Instance}
use Rattle.translation.specs.Processes.{Summand, Process}
use Rattle.translation.specs.Modal.{Actions, one_of, fixed_points}
use Rattle.translation.specs.Modal.{Modal, truth, combined, after, fixed_point, of_fixed_point}

-- the terms ts in place of the variables
unfoldable pub substituted_term : List Term → Term → Term
substituted_term ts (number n) = number n
substituted_term ts (variable i) = get_or ts i (number 0)
substituted_term ts (calculated plus r a b) =
    calculated plus r (substituted_term ts a) (substituted_term ts b)

abbrev pub substituted_terms : List Term → List Term → List Term
substituted_terms ts us = map (substituted_term ts) us

-- the same in a condition, which has no quantifiers and no instances
unfoldable pub substituted : List Term → Formula → Formula
substituted ts (constant b) = constant b
substituted ts (joined all f g) = joined all (substituted ts f) (substituted ts g)
substituted ts (quantified all r f) = quantified all r f
substituted ts (compared t a b) = compared t (substituted_term ts a) (substituted_term ts b)
substituted ts (instance e us) = instance e us

-- "the condition negated (down to the tests)"
unfoldable pub opposite : Test → Test
opposite equal = unequal
opposite less = not_less
opposite unequal = equal
opposite not_less = less

unfoldable pub negated : Formula → Formula
negated (constant b) = constant (not b)
negated (joined all f g) = joined (not all) (negated f) (negated g)
negated (quantified all r f) = quantified all r f
negated (compared t a b) = compared (opposite t) a b
negated (instance e us) = instance e us

-- in a box (true) the condition negated, in a diamond (false) the condition
unfoldable pub guard : Bool → Formula → Formula
guard true c = negated c
guard false c = c

-- a quantifier for each of the ranges, the first outermost
unfoldable pub quantifiers : Bool → List ℕ → Formula → Formula
quantifiers all [] f = f
quantifiers all (r ∷ rs) f = quantified all r (quantifiers all rs f)

-- variables i, i + 1, .., one for each of the ranges
unfoldable pub variables_from : ℕ → List ℕ → List Term
variables_from i [] = []
variables_from i (r ∷ rs) = variable i ∷ variables_from (suc i) rs

-- "Only matching summands count, joined in file order, nested to the right, none giving true for box, false
-- for diamond"
unfoldable pub matching : Actions → List Summand → List Summand
matching A [] = []
matching A (s ∷ ss) = cond (one_of A s.action) (s ∷ matching A ss) (matching A ss)

unfoldable pub joined_all : Bool → List Formula → Formula
joined_all all [] = constant all
joined_all all (f ∷ []) = f
joined_all all (f ∷ g ∷ fs) = joined all f (joined_all all (g ∷ fs))

-- In what follows `state` has the terms that stand for the parameters, and q quantifiers are around.
module _ (process : Process) where
  -- what a summand's variables are there: the parameters, and its own as the next quantified ones
  abbrev pub reach : List Term → ℕ → Summand → List Term
  reach state q s = state ++ variables_from (length process.ranges + q) s.own

  -- "a box is, for all values of a summand's variables, the condition negated (..) or f after the step; a
  -- diamond, for some values, the condition and f after the step": f after the step is 004's
  -- "(RHS(φ))[d := g_i(d, e_i)]", RHS(φ) being `inside`
  unfoldable pub after_summand : Bool → (List Term → ℕ → Formula) → List Term → ℕ → Summand → Formula
  after_summand all inside state q s = quantifiers all s.own
      (joined (not all) (substituted (reach state q s) (guard all s.condition))
      (inside (substituted_terms (reach state q s) s.next) (q + length s.own)))

-- `before` equations stand before that of fixed point 0
module _ (process : Process) (before : ℕ) where
  -- 004's RHS of a formula whose first fixed point has number n
  unfoldable pub right_side : Modal → ℕ → List Term → ℕ → Formula
  right_side (truth b) n state q = constant b
  right_side (combined all f g) n state q =
      joined all (right_side f n state q) (right_side g (n + fixed_points f) state q)
  right_side (after all A f) n state q =
      joined_all all
      (map (after_summand process all (right_side f n) state q) (matching A process.summands))
  right_side (fixed_point greatest f) n state q = instance (n + before) state
  right_side (of_fixed_point m) n state q = instance (m + before) state

  -- an equation with the process's parameters
  abbrev pub equation_of : Bool → Modal → ℕ → ModelEquation
  equation_of greatest f n =
      model_equation greatest process.ranges (right_side f n (variables_from 0 process.ranges) 0)

  -- 004's E: "fixed points become equations in that order"
  unfoldable pub equations : Modal → ℕ → Model
  equations (truth b) n = []
  equations (combined all f g) n = equations f n ++ equations g (n + fixed_points f)
  equations (after all A f) n = equations f n
  equations (fixed_point greatest f) n = equation_of greatest f (suc n) ∷ equations f (suc n)
  equations (of_fixed_point m) n = []

unfoldable pub begins_with_fixed_point : Modal → Bool
begins_with_fixed_point (truth b) = false
begins_with_fixed_point (combined all f g) = false
begins_with_fixed_point (after all A f) = false
begins_with_fixed_point (fixed_point greatest f) = true
begins_with_fixed_point (of_fixed_point m) = false

-- "A formula that begins with no fixed point gets a greatest one around it that nothing names; its own
-- numbers stay"
unfoldable pub translated : Process → Modal → Model
translated process f =
    cond (begins_with_fixed_point f) (equations process 0 f 0)
    (equation_of process 1 true f 0 ∷ equations process 1 f 0)

-- the start: the first equation at the initial values
abbrev pub translated_start : Process → Instance
translated_start process = 0 ∷ process.initial

-- 15: "a fifth quantifier around a place"; here none is, where q are around already
unfoldable pub four_quantifiers : ℕ → Formula → Bool
four_quantifiers q (constant b) = true
four_quantifiers q (joined all f g) = four_quantifiers q f and four_quantifiers q g
four_quantifiers q (quantified all r f) = ltb q 4 and four_quantifiers (suc q) f
four_quantifiers q (compared t a b) = true
four_quantifiers q (instance e ts) = true

unfoldable pub each_four_quantifiers : Model → Bool
each_four_quantifiers [] = true
each_four_quantifiers (e ∷ es) = four_quantifiers 0 e.body and each_four_quantifiers es
