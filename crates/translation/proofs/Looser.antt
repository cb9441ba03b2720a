-- One summand more never takes a yes away from a formula without box: the steps there were are still there.
-- The same of the two models, by the theorem on the translation.
use Rattle.std.specs.Prelude.{ℕ, suc, ◌+◌, refl, List, [], ◌∷◌, ◌++◌}
use Rattle.std.proofs.Math.Bool.{true, false}
use Rattle.std.proofs.Common.{⊎_elim}
use Rattle.meaning.specs.Logic.{Is, is, never, and_l, and_r, or_l, or_r, or_e}
use Rattle.meaning.specs.Order.{Below, up, implies, below_refl, join_below}
use Rattle.meaning.specs.Solution.{Args, Assign, put}
use Rattle.meaning.specs.Models.{nowhere, meaning}
use Rattle.meaning.proofs.FixedPoints.{fix_order}
use Rattle.meaning.specs.Systems.{everywhere, Implies_on}
use Rattle.meaning.proofs.Systems.{put_on}
use Rattle.translation.specs.Processes.{Summand, Process, states, steps}
use Rattle.translation.specs.Modal.{Modal, truth, combined, after, fixed_point, of_fixed_point}
use Rattle.translation.specs.Modal.{fixed_points, satisfying, satisfies}
use Rattle.translation.specs.Rules.{well_formed_input}
use Rattle.translation.specs.Translation.{translated}
use Rattle.translation.proofs.Steps.{stepped_more, diamond_e, diamond_i}
use Rattle.translation.proofs.Correct.{translation_correct_iff}
use Rattle.translation.specs.Looser.{Includes, no_box, with_summands}

pub one_more_includes : (s : Summand) (first later : List Summand) →
    Includes (first ++ later) (first ++ (s ∷ later))
unfolding steps
one_more_includes s [] later d a d' h = or_r _ h
one_more_includes s (t ∷ first) later d a d' h =
    ⊎_elim (or_l _) (λ k. or_r _ (one_more_includes s first later d a d' k)) (or_e _ _ h)

module _ (process : Process) (ss ss' : List Summand) (more : Includes ss ss') where
  satisfying_looser : (f : Modal) → Is (no_box f) → (n : ℕ) (ρ ρ' : Assign) → Implies_on everywhere ρ ρ' →
      (d : Args) → Below false (satisfying (with_summands process ss) f n ρ d)
      (satisfying (with_summands process ss') f n ρ' d)
  unfolding no_box satisfying
  satisfying_looser (truth b) h n ρ ρ' k d = below_refl false
  satisfying_looser (combined all f g) h n ρ ρ' k d =
      join_below all (satisfying_looser f (and_l _ _ h) n ρ ρ' k d)
      (satisfying_looser g (and_r _ _ h) (n + fixed_points f) ρ ρ' k d)
  satisfying_looser (after true A f) h n ρ ρ' k d = never h
  satisfying_looser (after false A f) h n ρ ρ' k d = up (λ i.
      diamond_i (with_summands process ss') A (satisfying (with_summands process ss') f n ρ') d
      (stepped_more (more d) (λ x _. implies (satisfying_looser f h n ρ ρ' k x))
      (diamond_e (with_summands process ss) A (satisfying (with_summands process ss) f n ρ) d i)))
  satisfying_looser (fixed_point s f) h n ρ ρ' k d =
      fix_order s (states process) (states process) _ _ (λ _. true) (λ y _. refl)
      (λ S S' l x _ _. satisfying_looser f h (suc n) (put n S ρ) (put n S' ρ')
      (put_on everywhere n S S' ρ ρ' (λ y _. l y is) k) x) d is
  satisfying_looser (of_fixed_point m) h n ρ ρ' k d = k m d is

  pub satisfies_looser : (f : Modal) → Is (no_box f) → Is (satisfies (with_summands process ss) f) →
      Is (satisfies (with_summands process ss') f)
  unfolding satisfies
  satisfies_looser f h =
      implies (satisfying_looser f h 0 nowhere nowhere (λ m x _. below_refl false) process.initial)

-- one summand more, at any place
pub one_summand_more : (process : Process) (s : Summand) (first later : List Summand) (f : Modal) →
    Is (no_box f) → Is (satisfies (with_summands process (first ++ later)) f) →
    Is (satisfies (with_summands process (first ++ (s ∷ later))) f)
one_summand_more process s first later =
    satisfies_looser process (first ++ later) (first ++ (s ∷ later)) (one_more_includes s first later)

pub one_summand_more_holds : (process : Process) (s : Summand) (first later : List Summand) (f : Modal) →
    Is (no_box f) → Is (well_formed_input (with_summands process (first ++ later)) f) →
    Is (well_formed_input (with_summands process (first ++ (s ∷ later))) f) →
    Is (meaning (translated (with_summands process (first ++ later)) f) 0 process.initial) →
    Is (meaning (translated (with_summands process (first ++ (s ∷ later))) f) 0 process.initial)
one_summand_more_holds process s first later f b h k m =
    (translation_correct_iff (with_summands process (first ++ (s ∷ later))) f k).0
    (one_summand_more process s first later f b
    ((translation_correct_iff (with_summands process (first ++ later)) f h).1 m))
