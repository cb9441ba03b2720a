-- A diamond over all states and actions is one over the matching summands' own variables, and so is a box.
-- By the first summand and then the rest; a box is the negation of a diamond to the other states.
use Rattle.std.specs.Prelude.{ℕ, ◌≡◌, refl, Bool, ◌⊎◌}
use Rattle.std.proofs.Common.{arith, sym, subst, ◌∙◌, ap₂, inl, inr, eqb→eq}
use Rattle.std.proofs.Math.Path.{ap}
use Rattle.std.proofs.Math.Bool.{true, false}
use mathlib.Core.List.{List, [], ◌∷◌, ◌++◌}
use Rattle.std.proofs.Math.Logic.{⊎_elim}
use Rattle.std.proofs.Math.Dec.{eqb_refl}
use Rattle.meaning.specs.Logic.{◌and◌, ◌⇒◌, join, over, Is, is, never, Is→T, T→Is}
use Rattle.meaning.specs.Logic.{and_l, and_r, and_i, or_l, or_r, or_e, same_truth}
use Rattle.meaning.specs.Order.{Below, up, implies}
use Rattle.meaning.specs.Solution.{Args, Set, mem, all}
use Rattle.meaning.specs.Formulas.{values, holds}
use Rattle.meaning.specs.Models.{in_range, nowhere}
use Rattle.meaning.specs.Ranges.{within}
use Rattle.meaning.proofs.Members.{same_eq, same_refl}
use Rattle.meaning.specs.FixedPoints.{Ordered_on}
use Rattle.meaning.proofs.InRange.{within_mem, mem_within}
use Rattle.translation.specs.Processes.{Summand, Process, states, any, leads, steps}
use Rattle.translation.specs.Modal.{Actions, one_of, after_steps}
use Rattle.translation.specs.Rules.{well_formed_summands, well_formed_process}
use Rattle.translation.specs.RuleLaws.{action_small, first_summand, later_summands, summands_formed}
use Rattle.translation.specs.RuleLaws.{next_within}
use Rattle.translation.specs.Quantifiers.{turned}
use Rattle.translation.proofs.Quantifiers.{join_turned, over_turned, any_i, any_e}
use Rattle.translation.specs.Quantifiers.{some_values}
use Rattle.translation.proofs.Quantifiers.{over_i, over_e, some_values_i, some_values_e}
use Rattle.translation.specs.Steps.{Possible, Stepped, by_summand, by_summands, by_values}

-- a step by the first summand: for some values of its own variables
abbrev Here : Summand → Args → ℕ → Args → Type 0
Here s d a d' =
    (e : Args) × (s.action ≡ a) × Is (within e s.own) × Is (holds s.condition nowhere (d ++ e)) ×
    (values s.next (d ++ e) ≡ d')

step_here : (s : Summand) (ss : List Summand) (d e : Args) → Is (within e s.own) →
    Is (holds s.condition nowhere (d ++ e)) →
    Is (steps (s ∷ ss) d s.action (values s.next (d ++ e)))
unfolding steps leads
step_here s ss d e w c =
    let led = and_i c (same_refl (values s.next (d ++ e))) in
    or_l _ (and_i (T→Is _ (eqb_refl s.action))
    (any_i (in_range s.own) _ e (within_mem e s.own w) led))

step_later : (s : Summand) (ss : List Summand) (d : Args) (a : ℕ) (d' : Args) → Is (steps ss d a d') →
    Is (steps (s ∷ ss) d a d')
unfolding steps
step_later s ss d a d' h = or_r _ h

step_cases : (s : Summand) (ss : List Summand) (d : Args) (a : ℕ) (d' : Args) → Is (steps (s ∷ ss) d a d') →
    Here s d a d' ⊎ Is (steps ss d a d')
unfolding steps leads
step_cases s ss d a d' h = ⊎_elim
    (λ k.
    let r = any_e (in_range s.own) (λ e. leads s d e d') (and_r _ _ k) in
    inl (
      r.0,
      eqb→eq s.action a (Is→T (and_l _ _ k)),
      mem_within r.0 s.own r.1,
      and_l _ _ r.2,
      same_eq _ d' (and_r _ _ r.2),
    )) inr (or_e _ _ h)

-- with more steps and more states of S it is one still
pub stepped_more : {rs : List ℕ} {A : Actions} {S S' : Set} {d : Args} {ss ss' : List Summand} →
    ((a : ℕ) (d' : Args) → Is (steps ss d a d') → Is (steps ss' d a d')) →
    ((x : Args) → Is (mem x (in_range rs)) → Is (S x) → Is (S' x)) → Stepped rs A S d ss →
    Stepped rs A S' d ss'
stepped_more f g r = record {
  action = r.action;
  target = r.target;
  small = r.small;
  state = r.state;
  taken = f r.action r.target r.taken;
  matches = r.matches;
  reaches = g r.target r.state r.reaches;
}

module _ (A : Actions) (S : Set) (d : Args) where
  -- a diamond by summands is one by steps
  some_found : (rs : List ℕ) → Is (within d rs) → (ss : List Summand) → Is (well_formed_summands rs ss) →
      Is (by_summands A ss S d) → Stepped rs A S d ss
  unfolding by_summands by_summand by_values
  some_found rs w [] f h = never h
  some_found rs w (s ∷ ss) f h = ⊎_elim here
      (λ k. stepped_more (step_later s ss d) (λ x _ i. i) (some_found rs w ss (later_summands rs s ss f) k))
      (or_e _ _ h)
    where
      here : Is (one_of A s.action and some_values s.own (by_values s S d)) → Stepped rs A S d (s ∷ ss)
      here k =
          let formed = first_summand rs s ss f in
          let r = some_values_e s.own (by_values s S d) (and_r _ _ k) in
          record {
            action = s.action;
            target = values s.next (d ++ r.0);
            small = action_small rs s formed;
            state = within_mem _ rs (next_within rs s formed d r.0 w r.1);
            taken = step_here s ss d r.0 r.1 (and_l _ _ r.2);
            matches = and_l _ _ k;
            reaches = and_r _ _ r.2;
          }

  -- and one by steps is one by summands
  shown : (ss : List Summand) (a : ℕ) (d' : Args) → Is (steps ss d a d') → Is (one_of A a) → Is (S d') →
      Is (by_summands A ss S d)
  unfolding by_summands by_summand by_values steps
  shown [] a d' h o t = never h
  shown (s ∷ ss) a d' h o t =
      ⊎_elim (λ r. or_l _ (here r)) (λ k. or_r _ (shown ss a d' k o t)) (step_cases s ss d a d' h)
    where
      here : Here s d a d' → Is (one_of A s.action and some_values s.own (by_values s S d))
      here r = and_i (subst (λ (b : ℕ). Is (one_of A b)) (sym r.1) o)
          (some_values_i s.own (by_values s S d) r.0 r.2
          (and_i r.3 (subst (λ (y : Args). Is (S y)) (sym r.4) t)))

  some_shown : {rs : List ℕ} (ss : List Summand) → Stepped rs A S d ss → Is (by_summands A ss S d)
  some_shown ss r = shown ss r.action r.target r.taken r.matches r.reaches

module _ (process : Process) (A : Actions) (S : Set) (d : Args) where
  abbrev goes : Args → ℕ → Bool
  goes d' a = steps process.summands d a d' and one_of A a and S d'

  pub diamond_e : Is (after_steps process false A S d) → Possible process A S d
  unfolding after_steps
  diamond_e h =
      let r = any_e (states process) (λ d'. over (join false) false 0 16 (goes d')) h in
      let t = over_e 0 16 (goes r.0) r.2 in
      record {
        action = t.0;
        target = r.0;
        small = t.2;
        state = r.1;
        taken = and_l _ _ (and_l _ _ t.3);
        matches = and_r _ _ (and_l _ _ t.3);
        reaches = and_r _ _ t.3;
      }

  pub diamond_i : Possible process A S d → Is (after_steps process false A S d)
  unfolding after_steps
  diamond_i r =
      let gone = and_i (and_i r.taken r.matches) r.reaches in
      any_i (states process) _ r.target r.state
      (over_i 0 16 (goes r.target) r.action (omega arith) r.small gone)

-- a box is the negation of a diamond to the other states
all_turned : (D : List Args) (p q : Set) → ((x : Args) → p x ≡ turned true (q x)) →
    all D p ≡ turned true (any D q)
unfolding all any turned join
all_turned [] p q h = refl
all_turned (x ∷ D) p q h = ap₂ (join true) (h x) (all_turned D p q h) ∙ join_turned true (q x) (any D q)

implied_turned : (a b : Bool) → (a ⇒ b) ≡ turned true (a and turned true b)
unfolding turned ◌⇒◌ ◌and◌
implied_turned true true = refl
implied_turned true false = refl
implied_turned false b = refl

pub box_turned : (process : Process) (A : Actions) (S : Set) (d : Args) →
    after_steps process true A S d ≡ turned true (after_steps process false A (λ y. turned true (S y)) d)
unfolding after_steps
box_turned process A S d = all_turned (states process) _ _ (λ d'.
    over_turned true 0 16 _ _ (λ a. implied_turned _ (S d')))

-- document 002's sets are those by summands
module _ (process : Process) (formed : Is (well_formed_process process)) (A : Actions) (d : Args)
    (w : Is (within d process.ranges)) where
  diamond_by_summands : (S : Set) → after_steps process false A S d ≡ by_summands A process.summands S d
  diamond_by_summands S = same_truth _ _
      (λ h. some_shown A S d process.summands (diamond_e process A S d h))
      (λ h. diamond_i process A S d
      (some_found A S d process.ranges w process.summands (summands_formed process formed) h))

  pub after_steps_by_summands : (all : Bool) (S : Set) →
      after_steps process all A S d ≡ turned all (by_summands A process.summands (λ y. turned all (S y)) d)
  unfolding turned
  after_steps_by_summands true S =
      box_turned process A S d ∙ ap (turned true) (diamond_by_summands (λ y. turned true (S y)))
  after_steps_by_summands false S = diamond_by_summands S

-- they hang only on the states of S, and grow with it
turned_below : (a b : Bool) → Below false a b → Below false (turned true b) (turned true a)
unfolding turned
turned_below true true h = up (λ k. k)
turned_below true false h = never (implies h is)
turned_below false b h = up (λ _. is)

abbrev On_states : Process → Set → Set → Type 0
On_states process S S' = Ordered_on (λ x. mem x (states process)) false S S'

diamond_rising : (process : Process) (A : Actions) (S S' : Set) → On_states process S S' → (d : Args) →
    Below false (after_steps process false A S d) (after_steps process false A S' d)
diamond_rising process A S S' f d = up (λ h.
    diamond_i process A S' d
    (stepped_more (λ a d' k. k) (λ x m. implies (f x m)) (diamond_e process A S d h)))

pub after_steps_rising : (process : Process) (all : Bool) (A : Actions) (S S' : Set) →
    On_states process S S' → (d : Args) →
    Below false (after_steps process all A S d) (after_steps process all A S' d)
after_steps_rising process true A S S' f d =
    rw (box_turned process A S d, box_turned process A S' d) (turned_below _ _
    (diamond_rising process A _ _ (λ x m. turned_below _ _ (f x m)) d))
after_steps_rising process false A S S' f d = diamond_rising process A S S' f d
