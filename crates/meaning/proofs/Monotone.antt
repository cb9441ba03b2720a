-- Formulas are monotone, so the system of a model is: what holds of rising right sides holds of models.
-- There is no negation over instances; each connective keeps the order.
use Rattle.std.specs.Prelude.{ℕ, suc, false, List, [], ◌∷◌, ◌++◌}
use Rattle.meaning.specs.Logic.{Is, is, join, over_related}
use Rattle.meaning.specs.Order.{Below, up, implies, below_refl, join_below}
use Rattle.meaning.specs.Solution.{Assign, solution}
use Rattle.meaning.specs.Formulas.{Formula, constant, joined, quantified, compared, instance}
use Rattle.meaning.specs.Formulas.{values, holds}
use Rattle.meaning.specs.Models.{Model, system}
use Rattle.meaning.specs.Systems.{Implies_on, everywhere, AllRising}
use Rattle.meaning.proofs.Systems.{solution_rising}
use Rattle.meaning.specs.Monotone.{More}

pub holds_rising : (f : Formula) (θ θ' : Assign) → Implies_on everywhere θ θ' →
    (v : List ℕ) → Below false (holds f θ v) (holds f θ' v)
unfolding holds
holds_rising (constant b) θ θ' h v = below_refl false
holds_rising (joined all f g) θ θ' h v = join_below all (holds_rising f θ θ' h v) (holds_rising g θ θ' h v)
holds_rising (quantified all r f) θ θ' h v =
    over_related (Below false) (join all) (join all) (λ a a' b b'. join_below all) (below_refl false) 0 r _ _
    (λ i _ _. holds_rising f θ θ' h (v ++ (i ∷ [])))
holds_rising (compared t a b) θ θ' h v = below_refl false
holds_rising (instance e ts) θ θ' h v = h e (values ts v) is

pub system_rising : (n : ℕ) (model : Model) → AllRising (system n model)
unfolding system
system_rising n [] = tt
system_rising n (e ∷ es) = (holds_rising e.body, system_rising (suc n) es)

pub holds_monotone : (f : Formula) (θ θ' : Assign) → More θ θ' →
    (v : List ℕ) → Is (holds f θ v) → Is (holds f θ' v)
holds_monotone f θ θ' h v = implies (holds_rising f θ θ' (λ m x _. up (h m x)) v)

pub solution_monotone : (model : Model) (θ θ' : Assign) → More θ θ' →
    More (solution (system 0 model) θ) (solution (system 0 model) θ')
solution_monotone model θ θ' h m x =
    implies (solution_rising (system 0 model) (system_rising 0 model) θ θ' (λ k y _. up (h k y)) m x is)
