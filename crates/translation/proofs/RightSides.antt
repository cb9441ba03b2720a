-- The model's right sides say of each state what the formula's sets say.
-- Substituted terms have the values after the step; quantifiers run over the summands' own variables.
use Rattle.std.specs.Prelude.{ℕ, ◌+◌, ◌≡◌, Bool, true, false, not, cond, length}
use Rattle.std.proofs.Common.{arith, ◌∙◌}
use Rattle.std.proofs.Math.Path.{refl, sym, ap, ap₂}
use mathlib.Core.List.{List, [], ◌∷◌, ◌++◌, map}
use Rattle.meaning.specs.Logic.{◌and◌, ◌or◌, join, Is}
use Rattle.meaning.specs.Solution.{Args, Set, Assign, mem}
use Rattle.meaning.specs.Formulas.{Term, Formula, values, holds}
use Rattle.meaning.specs.Models.{nowhere}
use Rattle.meaning.specs.Ranges.{within}
use Rattle.meaning.proofs.InRange.{mem_within}
use Rattle.meaning.proofs.Typed.{within_length, values_within}
use Rattle.translation.specs.Processes.{Summand, Process, states}
use Rattle.translation.specs.Modal.{Actions, one_of, Modal, truth, combined, after, fixed_point}
use Rattle.translation.specs.Modal.{of_fixed_point, fixed_points}
use Rattle.translation.specs.Rules.{well_formed_summand, well_formed_summands, well_formed_process}
use Rattle.translation.specs.Translation.{substituted_terms, substituted, guard, variables_from, reach}
use Rattle.translation.specs.Translation.{matching, joined_all, after_summand, right_side}
use Rattle.translation.specs.RuleLaws.{condition_plain, first_summand}
use Rattle.translation.specs.RuleLaws.{later_summands, summands_formed, within_append}
use Rattle.translation.proofs.Substituted.{values_substituted, holds_guard, variables_values}
use Rattle.translation.proofs.Substituted.{reach_values}
use Rattle.translation.specs.Quantifiers.{turned}
use Rattle.translation.proofs.Quantifiers.{turned_none, join_turned, some_values_same}
use Rattle.translation.proofs.Quantifiers.{holds_quantifiers, holds_joined_all}
use Rattle.translation.specs.Steps.{by_values, by_summand, by_summands}
use Rattle.translation.proofs.Steps.{after_steps_by_summands}
use Rattle.translation.proofs.States.{ready_named, ready_fitting, start_ready}
use Rattle.translation.proofs.States.{then_ready, more_in_reach}
use Rattle.translation.proofs.Core.{side}
use Rattle.translation.specs.RightSides.{Says}

-- a box's part, turned, is a diamond's
guarded : (all c b : Bool) → turned all (join (not all) (turned all c) b) ≡ (c and turned all b)
unfolding turned join ◌and◌ ◌or◌
guarded true true b = refl
guarded true false b = refl
guarded false c b = refl

module _ (process : Process) (θ : Assign) (all : Bool) (inside : List Term → ℕ → Formula) (S : Set)
    (says : Says process θ inside S) where
  -- S in a box turned, in a diamond as it is
  abbrev aimed : Set
  aimed y = turned all (S y)

  summand_says : (s : Summand) → Is (well_formed_summand process.ranges s) →
      Says process θ (λ state q. after_summand process all inside state q s)
      (λ d. turned all (by_summand s aimed d))
  unfolding after_summand by_summand by_values holds
  summand_says s f state q vs v h r w =
      holds_quantifiers all s.own _ θ v ∙ ap (turned all) (some_values_same s.own _ _ (λ e u.
      ap₂ (λ (a b : Bool). turned all (join (not all) a b)) (condition_says e u) (inside_says e u) ∙
      guarded all _ _))
    where
      now : List Term
      now = reach process state q s

      now_values : (e : Args) → Is (within e s.own) → values now (v ++ e) ≡ values state v ++ e
      now_values e u =
          let count = within_length v vs w in
          let named = ready_named r in
          reach_values state s.own (length process.ranges + q) v e (omega arith)
          (within_length e s.own u) (rw count named)

      condition_says : (e : Args) → Is (within e s.own) →
          holds (substituted now (guard all s.condition)) θ (v ++ e) ≡
          turned all (holds s.condition nowhere (values state v ++ e))
      condition_says e u =
          holds_guard all s.condition (condition_plain process.ranges s f) now θ (v ++ e) ∙
          ap (λ (y : List ℕ). turned all (holds s.condition nowhere y)) (now_values e u)

      inside_says : (e : Args) → Is (within e s.own) →
          holds (inside (substituted_terms now s.next) (q + length s.own)) θ (v ++ e) ≡
          S (values s.next (values state v ++ e))
      inside_says e u =
          says _ (q + length s.own) (vs ++ s.own) (v ++ e) (more_in_reach process s f q h r)
          (then_ready process s f q h r) (within_append v vs e s.own w u) ∙
          ap S (values_substituted now s.next (v ++ e) ∙ ap (values s.next) (now_values e u))

  summands_say : (A : Actions) (ss : List Summand) → Is (well_formed_summands process.ranges ss) →
      Says process θ
      (λ state q. joined_all all (map (after_summand process all inside state q) (matching A ss)))
      (λ d. turned all (by_summands A ss aimed d))
  unfolding matching joined_all by_summands holds ◌and◌ ◌or◌
  summands_say A [] f state q vs v h r w = turned_none all
  summands_say A (s ∷ ss) f state q vs v h r w =
      go (one_of A s.action)
      (summands_say A ss (later_summands process.ranges s ss f) state q vs v h r w)
    where
      formula : Summand → Formula
      formula = after_summand process all inside state q

      now : Args
      now = values state v

      go : (b : Bool) →
          holds (joined_all all (map formula (matching A ss))) θ v ≡ turned all (by_summands A ss aimed now) →
          holds (joined_all all (map formula (cond b (s ∷ matching A ss) (matching A ss)))) θ v ≡
          turned all (b and by_summand s aimed now or by_summands A ss aimed now)
      go true e =
          holds_joined_all all (formula s) (map formula (matching A ss)) θ v ∙
          ap₂ (join all) (summand_says s (first_summand process.ranges s ss f) state q vs v h r w) e ∙
          join_turned all _ _
      go false e = e

module _ (process : Process) (formed : Is (well_formed_process process)) (before : ℕ) (θ : Assign) where
  pub right_side_says : (f : Modal) (n : ℕ) →
      Says process θ (right_side process before f n) (side process before f n θ)
  unfolding right_side side holds
  right_side_says (truth b) n state q vs v h r w = refl
  right_side_says (combined all f g) n state q vs v h r w =
      ap₂ (join all) (right_side_says f n state q vs v h r w)
      (right_side_says g (n + fixed_points f) state q vs v h r w)
  right_side_says (after all A f) n state q vs v h r w =
      summands_say process θ all (right_side process before f n) (side process before f n θ)
      (right_side_says f n) A process.summands (summands_formed process formed) state q vs v h r w ∙
      sym (after_steps_by_summands process formed A (values state v)
      (values_within state process.ranges v vs w (ready_named r) (ready_fitting r)) all
      (side process before f n θ))
  right_side_says (fixed_point s f) n state q vs v h r w = refl
  right_side_says (of_fixed_point m) n state q vs v h r w = refl

  -- of an equation, at its arguments
  pub body_says : (f : Modal) (n : ℕ) (x : Args) → Is (mem x (states process)) →
      holds (right_side process before f n (variables_from 0 process.ranges) 0) θ x ≡
      side process before f n θ x
  body_says f n x m =
      let w = mem_within x process.ranges m in
      right_side_says f n (variables_from 0 process.ranges) 0 process.ranges x (omega arith)
      (start_ready process.ranges) w ∙
      ap (side process before f n θ)
      (variables_values process.ranges 0 [] x refl (within_length x process.ranges w))
