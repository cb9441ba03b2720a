-- Refusals 6 and 7 admit a right side that has no fifth quantifier around a place.
-- Terms stay in reach and in range through a step, and each instance has the process's parameters.
use Prim.Native.Nat.{ℕ, suc, ◌+◌, ◌≤◌, ◌<◌}
use native.Mathlib.Omega.{arith}
use Rattle.std.specs.Prelude.{◌≡◌, Bool, cond}
use Rattle.std.proofs.Math.Bool.{true, false}
use mathlib.Core.List.{List, [], ◌∷◌, ◌++◌, map, append-nil, append_assoc}
use Rattle.std.proofs.Math.ListN.{length, length-append}
use Rattle.std.proofs.Common.{le→leb, lt→ltb}
use Rattle.meaning.specs.Logic.{Is, is, never, T→Is, and_l, and_r, and_i}
use Rattle.meaning.specs.Formulas.{Term, Formula, constant, joined, quantified, compared, instance}
use Rattle.meaning.specs.Ranges.{sound, fits, all_ranges}
use Rattle.translation.specs.Processes.{Summand, Process}
use Rattle.translation.specs.Modal.{Actions, one_of, fixed_points}
use Rattle.translation.specs.Modal.{Modal, truth, combined, after, fixed_point, of_fixed_point}
use Rattle.translation.specs.Rules.{plain, well_formed_summand, well_formed_summands}
use Rattle.translation.specs.Rules.{well_formed_process, well_formed_formula}
use Rattle.translation.specs.Translation.{substituted, negated, guard, quantifiers}
use Rattle.translation.specs.Translation.{matching, joined_all, after_summand, right_side}
use Rattle.translation.specs.Translation.{four_quantifiers}
use Rattle.translation.specs.RuleLaws.{own_ranges, condition_plain, condition_sound}
use Rattle.translation.specs.RuleLaws.{first_summand, later_summands, summands_formed, parameter_count}
use Rattle.translation.specs.RuleLaws.{Around}
use Rattle.translation.specs.States.{Ready}
use Rattle.translation.proofs.States.{ready_named, ready_fitting, ready_length}
use Rattle.translation.proofs.States.{substituted_ready, now_ready, then_ready, more_in_reach}
use Rattle.translation.specs.SoundSides.{Admitted, Declared, Kept}

module _ {declared : List (List ℕ)} {vs : List ℕ} {q : ℕ} where
  admitted_constant : {b : Bool} → Admitted declared vs q (constant b)
  unfolding sound fits
  admitted_constant = record { by_6 = is; by_7 = is }

  admitted_joined : {all : Bool} {f g : Formula} → Admitted declared vs q f → Admitted declared vs q g →
      Admitted declared vs q (joined all f g)
  unfolding sound fits
  admitted_joined a b = record { by_6 = and_i a.by_6 b.by_6; by_7 = and_i a.by_7 b.by_7 }

  admitted_row : (all : Bool) {f : Formula} (fs : List Formula) → Admitted declared vs q f →
      Admitted declared vs q (joined_all all fs) → Admitted declared vs q (joined_all all (f ∷ fs))
  unfolding joined_all
  admitted_row all [] a b = a
  admitted_row all (g ∷ fs) a b = admitted_joined a b

-- quantifiers
module _ (declared : List (List ℕ)) (all : Bool) (g : Formula) where
  admitted_quantifiers : (own vs : List ℕ) (q : ℕ) → Is (all_ranges own) →
      Is (four_quantifiers q (quantifiers all own g)) →
      (Is (four_quantifiers (q + length own) g) → Admitted declared (vs ++ own) (q + length own) g) →
      Admitted declared vs q (quantifiers all own g)
  unfolding all_ranges four_quantifiers quantifiers sound fits
  admitted_quantifiers [] vs q rs h f =
      let none : q + 0 ≡ q = omega arith in
      let a = f (rw none h) in
      rw none at (rw append-nil at a)
  admitted_quantifiers (r ∷ own) vs q rs h f =
      let one : suc q + length own ≡ q + suc (length own) = omega arith in
      let longer : length (vs ++ (r ∷ [])) ≡ suc (length vs) = omega (arith, length-append vs (r ∷ [])) in
      let inner = admitted_quantifiers own (vs ++ (r ∷ [])) (suc q) (and_r _ _ rs) (and_r _ _ h)
      (λ k. rw (one, append_assoc vs (r ∷ []) own) (f (rw one at k))) in
      record {
        by_6 = and_i (and_i (and_l _ _ h) (and_l _ _ rs)) (rw longer at inner.by_6);
        by_7 = inner.by_7;
      }

-- a condition, negated or not, with terms in place of its variables, of ranges ps
module _ (declared : List (List ℕ)) {vs ps : List ℕ} {ts : List Term} (q : ℕ) (r : Ready vs ps ts) where
  pub condition_admitted : (all : Bool) (c : Formula) → Is (plain c) → Is (sound (length ps) 0 c) →
      Admitted declared vs q (substituted ts (guard all c))
  unfolding plain sound fits substituted guard negated
  condition_admitted true (constant b) h s = admitted_constant
  condition_admitted false (constant b) h s = admitted_constant
  condition_admitted true (joined o f g) h s =
      admitted_joined (condition_admitted true f (and_l _ _ h) (and_l _ _ s))
      (condition_admitted true g (and_r _ _ h) (and_r _ _ s))
  condition_admitted false (joined o f g) h s =
      admitted_joined (condition_admitted false f (and_l _ _ h) (and_l _ _ s))
      (condition_admitted false g (and_r _ _ h) (and_r _ _ s))
  condition_admitted all (quantified o k f) h s = never h
  condition_admitted true (compared t a b) h s = record {
    by_6 = and_i (substituted_ready r a (and_l _ _ s)).named (substituted_ready r b (and_r _ _ s)).named;
    by_7 = is;
  }
  condition_admitted false (compared t a b) h s = record {
    by_6 = and_i (substituted_ready r a (and_l _ _ s)).named (substituted_ready r b (and_r _ _ s)).named;
    by_7 = is;
  }
  condition_admitted all (instance e us) h s = never h

four_row : (all : Bool) (q : ℕ) (f : Formula) (fs : List Formula) →
    Is (four_quantifiers q (joined_all all (f ∷ fs))) →
    Is (four_quantifiers q f) × Is (four_quantifiers q (joined_all all fs))
unfolding joined_all four_quantifiers
four_row all q f [] h = (h, is)
four_row all q f (g ∷ fs) h = (and_l _ _ h, and_r _ _ h)

module _ (process : Process) (declared : List (List ℕ)) (all : Bool) (inside : List Term → ℕ → Formula)
    (kept : Kept process declared inside) where
  summand_kept : (s : Summand) → Is (well_formed_summand process.ranges s) →
      Kept process declared (λ state q. after_summand process all inside state q s)
  unfolding after_summand four_quantifiers
  summand_kept s f state q vs h r k =
      admitted_quantifiers declared all _ s.own vs q (own_ranges process.ranges s f) k
      (λ j. admitted_joined
      (condition_admitted declared (q + length s.own) (now_ready process s f q h r) all s.condition
      (condition_plain process.ranges s f) (condition_sound process.ranges s f))
      (kept _ (q + length s.own) (vs ++ s.own) (more_in_reach process s f q h r)
      (then_ready process s f q h r) (and_r _ _ j)))

  summands_kept : (A : Actions) (ss : List Summand) → Is (well_formed_summands process.ranges ss) →
      Kept process declared
      (λ state q. joined_all all (map (after_summand process all inside state q) (matching A ss)))
  unfolding matching joined_all
  summands_kept A [] f state q vs h r k = admitted_constant
  summands_kept A (s ∷ ss) f state q vs h r k =
      go (one_of A s.action) k
      (summands_kept A ss (later_summands process.ranges s ss f) state q vs h r)
    where
      formula : Summand → Formula
      formula = after_summand process all inside state q

      row : List Summand → Formula
      row l = joined_all all (map formula l)

      go : (b : Bool) → Is (four_quantifiers q (row (cond b (s ∷ matching A ss) (matching A ss)))) →
          (Is (four_quantifiers q (row (matching A ss))) → Admitted declared vs q (row (matching A ss))) →
          Admitted declared vs q (row (cond b (s ∷ matching A ss) (matching A ss)))
      go true j rest =
          let parts = four_row all q (formula s) (map formula (matching A ss)) j in
          let here = summand_kept s (first_summand process.ranges s ss f) state q vs h r parts.0 in
          admitted_row all (map formula (matching A ss)) here (rest parts.1)
      go false j rest = rest j

module _ (process : Process) (formed : Is (well_formed_process process)) (before : ℕ)
    (declared : List (List ℕ)) (known : Declared process declared) where
  instance_admitted : (e : ℕ) (state : List Term) (q : ℕ) (vs : List ℕ) → Ready vs process.ranges state →
      e < length declared → Admitted declared vs q (instance e state)
  unfolding sound fits
  instance_admitted e state q vs r l =
      let few : length state ≤ 4 = omega (arith, ready_length r, parameter_count process formed) in
      record {
        by_6 = and_i (T→Is _ (le→leb (length state) 4 few)) (ready_named r);
        by_7 = and_i (T→Is _ (lt→ltb e _ l)) (rw (known e l) (ready_fitting r));
      }

  -- fixed point j has an equation
  abbrev pub Equation_of : ℕ → Type 0
  Equation_of j = j + before < length declared

  pub right_side_kept : (f : Modal) (around : List ℕ) (n : ℕ) → Is (well_formed_formula around n f) →
      Around around Equation_of → n + fixed_points f + before ≤ length declared →
      Kept process declared (right_side process before f n)
  unfolding right_side well_formed_formula fixed_points four_quantifiers
  right_side_kept (truth b) around n p a l state q vs h r k = admitted_constant
  right_side_kept (combined all f g) around n p a l state q vs h r k = admitted_joined
      (right_side_kept f around n (and_l _ _ p) a (omega arith) state q vs h r (and_l _ _ k))
      (right_side_kept g around (n + fixed_points f) (and_r _ _ p) a (omega arith) state q vs h r
      (and_r _ _ k))
  right_side_kept (after all A f) around n p a l state q vs h r k =
      summands_kept process declared all (right_side process before f n)
      (right_side_kept f around n (and_r _ _ p) a l) A process.summands
      (summands_formed process formed) state q vs h r k
  right_side_kept (fixed_point s f) around n p a l state q vs h r k =
      instance_admitted (n + before) state q vs r (omega arith)
  right_side_kept (of_fixed_point m) around n p a l state q vs h r k =
      instance_admitted (m + before) state q vs r (a m p)
