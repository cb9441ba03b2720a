-- A right side holds where its simplified form does, so its truth hangs only on the instances left in that.
-- By the parts of the formula; a constant that is dropped is one that does not change the connective's truth.
use Rattle.std.specs.Prelude.{ℕ, ◌<◌, ◌≡◌, refl, Bool, true, false, List, [], ◌∷◌, ◌++◌}
use Rattle.std.proofs.Common.{arith, sym, ap, ap₂, ◌∙◌, ⊎_elim}
use Rattle.meaning.specs.Logic.{◌and◌, ◌or◌, join, over, join_drops, join_makes, over_related}
use Rattle.meaning.specs.Solution.{Set, Assign}
use Rattle.meaning.specs.Formulas.{Formula, constant, joined, quantified, compared, instance, holds}
use Rattle.meaning.specs.Simplification.{Tree, leaf, node, Simplified, decided, left}
use Rattle.meaning.specs.Simplification.{join_simplified, simplified, tree_holds, simplified_holds}
use Rattle.meaning.specs.Reach.{leaves, instances}
use Rattle.meaning.specs.Systems.{Same_on}
use Rattle.meaning.specs.Members.{AllOf}
use Rattle.meaning.proofs.Members.{mem_head, mem_nothing, mem_left, mem_right, mem_split}
use Rattle.meaning.specs.Simplified.{Listed}

join_holds : (all : Bool) (a b : Simplified) (θ : Assign) →
    simplified_holds (join_simplified all a b) θ ≡ join all (simplified_holds a θ) (simplified_holds b θ)
unfolding simplified_holds join_simplified tree_holds join ◌and◌ ◌or◌
join_holds true (decided true) b θ = refl
join_holds true (decided false) b θ = refl
join_holds false (decided true) b θ = refl
join_holds false (decided false) b θ = refl
join_holds true (left t) (decided true) θ = sym (join_drops true (tree_holds t θ))
join_holds true (left t) (decided false) θ = sym (join_makes true (tree_holds t θ))
join_holds false (left t) (decided true) θ = sym (join_makes false (tree_holds t θ))
join_holds false (left t) (decided false) θ = sym (join_drops false (tree_holds t θ))
join_holds all (left t) (left u) θ = refl

-- a right side holds where its simplified form does
pub holds_simplified : (f : Formula) (v : List ℕ) (θ : Assign) →
    holds f θ v ≡ simplified_holds (simplified f v) θ
unfolding holds simplified simplified_holds tree_holds
holds_simplified (constant b) v θ = refl
holds_simplified (joined all f g) v θ =
    ap₂ (join all) (holds_simplified f v θ) (holds_simplified g v θ) ∙ sym (join_holds all _ _ θ)
holds_simplified (quantified all r f) v θ =
    over_related (λ (b : Bool) (s : Simplified). b ≡ simplified_holds s θ) (join all) (join_simplified all)
    (λ b c s t p q. ap₂ (join all) p q ∙ sym (join_holds all s t θ))
    refl 0 r _ _ (λ i _ _. holds_simplified f (v ++ (i ∷ [])) θ)
holds_simplified (compared t a b) v θ = refl
holds_simplified (instance e ts) v θ = refl

tree_depends : (t : Tree) (θ θ' : Assign) → Same_on (Listed (leaves t)) θ θ' →
    tree_holds t θ ≡ tree_holds t θ'
unfolding leaves tree_holds
tree_depends (leaf e x) θ θ' s = s e x (mem_head (e ∷ x) [])
tree_depends (node all t u) θ θ' s = ap₂ (join all)
    (tree_depends t θ θ' (λ m x i. s m x (mem_left (leaves t) (leaves u) (m ∷ x) i)))
    (tree_depends u θ θ' (λ m x i. s m x (mem_right (leaves t) (leaves u) (m ∷ x) i)))

simplified_depends : (a : Simplified) (θ θ' : Assign) → Same_on (Listed (instances a)) θ θ' →
    simplified_holds a θ ≡ simplified_holds a θ'
unfolding instances simplified_holds
simplified_depends (decided c) θ θ' s = refl
simplified_depends (left t) θ θ' s = tree_depends t θ θ' s

-- so its truth hangs only on the instances left in that form
pub holds_depends : (f : Formula) (v : List ℕ) (θ θ' : Assign) →
    Same_on (Listed (instances (simplified f v))) θ θ' → holds f θ v ≡ holds f θ' v
holds_depends f v θ θ' s =
    holds_simplified f v θ ∙ simplified_depends (simplified f v) θ θ' s ∙ sym (holds_simplified f v θ')

-- and where that form is a constant, the constant is its truth
pub decided_holds : (f : Formula) (v : List ℕ) (c : Bool) → simplified f v ≡ decided c →
    (θ : Assign) → holds f θ v ≡ c
unfolding simplified_holds
decided_holds f v c e θ = holds_simplified f v θ ∙ ap (λ (a : Simplified). simplified_holds a θ) e

-- what holds of two parts, and of a node where it holds of its two trees, holds of the parts' join
pub join_kept : (P : Simplified → Type 0) (all : Bool) →
    ((t u : Tree) → P (left t) → P (left u) → P (left (node all t u))) →
    (a b : Simplified) → P a → P b → P (join_simplified all a b)
unfolding join_simplified
join_kept P true f (decided true) b p q = q
join_kept P true f (decided false) b p q = p
join_kept P false f (decided true) b p q = p
join_kept P false f (decided false) b p q = q
join_kept P true f (left t) (decided true) p q = p
join_kept P true f (left t) (decided false) p q = q
join_kept P false f (left t) (decided true) p q = q
join_kept P false f (left t) (decided false) p q = p
join_kept P all f (left t) (left u) p q = f t u p q

-- what holds of all that is left in two parts holds of all that is left of their join
pub join_left : (C : Set) (all : Bool) (a b : Simplified) → AllOf C (instances a) → AllOf C (instances b) →
    AllOf C (instances (join_simplified all a b))
unfolding instances leaves
join_left C all = join_kept (λ a. AllOf C (instances a)) all
    (λ t u p q i h. ⊎_elim (p i) (q i) (mem_split (leaves t) (leaves u) i h))

-- and so it is with the values of a quantified variable
pub over_left : (C : Set) (all : Bool) (n : ℕ) (a : ℕ → Simplified) →
    ((i : ℕ) → i < n → AllOf C (instances (a i))) →
    AllOf C (instances (over (join_simplified all) (decided all) 0 n a))
unfolding instances
over_left C all n a f =
    over_related (λ (s _ : Simplified). AllOf C (instances s)) (join_simplified all) (join_simplified all)
    (λ s t _ _. join_left C all s t) {b = decided all} (λ i h. absurd (mem_nothing i h)) 0 n a a
    (λ i _ l. f i (omega arith))
