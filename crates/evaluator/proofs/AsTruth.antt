-- LAWS of a formula's value: it is the formula's truth where what is left of it is known.
-- With open taken as true, or as false, a value is the formula's truth; so the laws of that truth speak of values.
use Prim.Native.Nat.{ℕ}
use mathlib.Core.Path.{◌≡◌, refl, sym, ap, ap₂, ◌∙◌}
use mathlib.Core.Bool.{Bool, true, false, true≢false}
use mathlib.Core.List.{List, [], ◌∷◌, ◌++◌}
use Rattle.meaning.specs.Logic.{◌and◌, ◌or◌, join, Is, join_drops, join_makes, join_same, over_related}
use Rattle.meaning.specs.Solution.{Args, Assign, mem}
use Rattle.meaning.specs.Formulas.{Formula, constant, joined, quantified, compared, instance, holds}
use Rattle.meaning.specs.Simplification.{simplified}
use Rattle.meaning.specs.Reach.{Instance, instances}
use Rattle.meaning.proofs.Simplified.{holds_depends}
use Rattle.meaning.specs.Words.{word}
use Rattle.std.proofs.Common.{Option, Some, None}
use Rattle.evaluator.specs.Values.{known, join_value, valued}

-- a value as a truth value, where open is taken as `b`
abbrev pub as_truth : Bool → Option Bool → Bool
as_truth b (Some false) = false
as_truth b (Some true) = true
as_truth b None = b

join_truth : (b all : Bool) (x y : Option Bool)
    → as_truth b (join_value all x y) ≡ join all (as_truth b x) (as_truth b y)
unfolding join ◌and◌ ◌or◌
join_truth b true (Some false) y = refl
join_truth b true (Some true) y = refl
join_truth b true None (Some false) = sym (join_makes true b)
join_truth b true None (Some true) = sym (join_drops true b)
join_truth b true None None = sym (join_same true b)
join_truth b false (Some true) y = refl
join_truth b false (Some false) y = refl
join_truth b false None (Some true) = sym (join_makes false b)
join_truth b false None (Some false) = sym (join_drops false b)
join_truth b false None None = sym (join_same false b)

pub known_truth : (b c : Bool) → as_truth b (known c) ≡ c
known_truth b true = refl
known_truth b false = refl

-- what σ says of the instances, with open taken as `b`
abbrev pub truths : Bool → (ℕ → Option Bool) → Assign
truths b σ e x = as_truth b (σ (word (e ∷ x)))

-- a value, with open taken as `b`, is the truth
pub valued_truth : (b : Bool) (f : Formula) (σ : ℕ → Option Bool) (v : List ℕ)
    → as_truth b (valued f σ v) ≡ holds f (truths b σ) v
unfolding valued holds
valued_truth b (constant c) σ v = known_truth b c
valued_truth b (joined all f g) σ v =
    join_truth b all _ _ ∙ ap₂ (join all) (valued_truth b f σ v) (valued_truth b g σ v)
valued_truth b (quantified all r f) σ v =
    over_related (λ (x : Option Bool) (c : Bool). as_truth b x ≡ c) (join_value all) (join all)
    (λ x y c d p q. join_truth b all x y ∙ ap₂ (join all) p q) (known_truth b all) 0 r _ _
    (λ i _ _. valued_truth b f σ (v ++ (i ∷ [])))
valued_truth b (compared t a c) σ v = known_truth b _
valued_truth b (instance e ts) σ v = refl

-- a value that is the same whatever open is taken as is known
known_by : (x : Option Bool) (c : Bool) → ((b : Bool) → as_truth b x ≡ c) → x ≡ known c
known_by (Some false) false h = refl
known_by (Some false) true h = absurd (true≢false (sym (h true)))
known_by (Some true) true h = refl
known_by (Some true) false h = absurd (true≢false (h true))
known_by None b h = absurd (true≢false (h true ∙ sym (h false)))

-- σ knows the truth of each instance of a list
abbrev pub Knows : (ℕ → Option Bool) → Assign → List Instance → Type 0
Knows σ θ l = (e : ℕ) (x : Args) → Is (mem (e ∷ x) l) → σ (word (e ∷ x)) ≡ known (θ e x)

-- where σ knows the instances left in the simplified formula, the value is the truth, whatever σ says of others
pub known_valued : (f : Formula) (σ : ℕ → Option Bool) (θ : Assign) (v : List ℕ)
    → Knows σ θ (instances (simplified f v)) → valued f σ v ≡ known (holds f θ v)
known_valued f σ θ v h = known_by _ _ (λ b. valued_truth b f σ v
    ∙ holds_depends f v (truths b σ) θ (λ e x i. ap (as_truth b) (h e x i) ∙ known_truth b _))
