-- Demand 3 over the meaning: loosening right sides, or making a least equation greatest, takes no truth away.
-- What is no instance plays no part; so the looser model's system is above the first's among systems.
use Rattle.std.specs.Prelude.{ℕ, suc, refl, true, false, List, ◌∷◌}
use Rattle.std.proofs.Common.{sym, subst}
use Rattle.meaning.specs.Logic.{◌and◌, Is, is, never, and_l, and_r, true_and}
use Rattle.meaning.specs.Order.{up, implies, below_refl, below_trans}
use Rattle.meaning.specs.Solution.{Args, Assign}
use Rattle.meaning.specs.Formulas.{Formula, holds}
use Rattle.meaning.specs.Models.{ModelEquation, Model}
use Rattle.meaning.specs.Models.{in_range, system, nowhere, meaning}
use Rattle.meaning.specs.Simplification.{simplified}
use Rattle.meaning.specs.Reach.{Instance, instances}
use Rattle.meaning.specs.Ranges.{signatures, within, typed}
use Rattle.meaning.specs.Ranges.{well_formed_equation, well_formed_equations, well_formed}
use Rattle.meaning.specs.Systems.{Same_on, everywhere, Keeps}
use Rattle.meaning.proofs.Systems.{image_rising}
use Rattle.meaning.specs.Systems.{Under, no_equation, kept, raised}
use Rattle.meaning.proofs.Systems.{under}
use Rattle.meaning.proofs.Monotone.{holds_rising, system_rising, holds_monotone}
use Rattle.meaning.specs.Members.{AllOf}
use Rattle.meaning.proofs.InRange.{mem_within}
use Rattle.meaning.specs.Simplified.{Listed}
use Rattle.meaning.proofs.Simplified.{holds_depends}
use Rattle.meaning.proofs.Typed.{instances_typed, well_formed_all}
use Rattle.meaning.specs.Looser.{Loosens, Looser, Looser_equations, looser, no_equations}

module _ (declared : List (List ℕ)) where
  -- what is no instance plays no part: f' is then true wherever e's right side is, for every truth whatever
  pub loosens_everywhere : (e : ModelEquation) (f' : Formula) → Is (well_formed_equation declared e) →
      Loosens declared e.ranges e.body f' →
      (θ : Assign) (x : Args) → Is (within x e.ranges) → Is (holds e.body θ x) → Is (holds f' θ x)
  unfolding well_formed_equation
  loosens_everywhere e f' w l θ x i h =
      holds_monotone f' cut θ (λ m y. and_r _ _) x
      (l cut (λ m y. and_l _ _) x i (subst Is (holds_depends e.body x θ cut agree) h))
    where
      cut : Assign
      cut m y = typed declared (m ∷ y) and θ m y

      called : AllOf (typed declared) (instances (simplified e.body x))
      called = instances_typed declared e.body x e.ranges 0 i (and_r _ _ (and_l _ _ w)) (and_r _ _ w)

      agree : Same_on (Listed (instances (simplified e.body x))) θ cut
      agree m y k = sym (true_and (θ m y) (called (m ∷ y) k))

  loosens_keeps : (n : ℕ) (e : ModelEquation) (f' : Formula) → Is (well_formed_equation declared e) →
      Loosens declared e.ranges e.body f' →
      Keeps everywhere n (in_range e.ranges) (holds e.body) (holds f')
  loosens_keeps n e f' w l θ θ' h x q i =
      below_trans (holds_rising e.body θ θ' h x)
      (up (loosens_everywhere e f' w l θ' x (mem_within x e.ranges i)))

  looser_under : (n : ℕ) {model model' : Model} → Is (well_formed_equations declared model) →
      Looser_equations declared model model' → Under everywhere (system n model) (system n model')
  unfolding system well_formed_equations
  looser_under n w no_equations = no_equation
  looser_under n w (looser {s = false} {s' = false} {f'} i l ls) =
      kept (λ x q. refl) (loosens_keeps n _ f' (and_l _ _ w) l) (looser_under (suc n) (and_r _ _ w) ls)
  looser_under n w (looser {s = false} {s' = true} {f} {f'} {es} i l ls) =
      let rising = image_rising n (holds f) (system (suc n) es) (holds_rising f) (system_rising (suc n) es) in
      raised (λ x q. refl) (loosens_keeps n _ f' (and_l _ _ w) l) rising
      (looser_under (suc n) (and_r _ _ w) ls)
  looser_under n w (looser {s = true} {s' = true} {f'} i l ls) =
      kept (λ x q. refl) (loosens_keeps n _ f' (and_l _ _ w) l) (looser_under (suc n) (and_r _ _ w) ls)
  looser_under n w (looser {s = true} {s' = false} i l ls) = never (i is)

-- what is true in a well-formed model is true in every looser one
pub looser_holds : (model model' : Model) (start : Instance) → Is (well_formed model start) →
    Looser model model' → (m : ℕ) (x : Args) → Is (meaning model m x) → Is (meaning model' m x)
unfolding meaning
looser_holds model model' start w l m x =
    let above = looser_under (signatures model) 0 (well_formed_all model start w) l in
    implies (under everywhere above nowhere nowhere (λ k y _. below_refl false) m x is)
