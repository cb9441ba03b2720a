-- What the quantifiers over a summand's own variables say, and formulas joined in a row.
-- "For all" is the negation of "for some" of the negated: `turned` lets one law speak of both.
use Rattle.std.specs.Prelude.{ℕ, zero, suc, ◌+◌, ◌≤◌, ◌<◌, ◌≡◌, refl, Bool, true, false, List, [], ◌∷◌, ◌++◌}
use Rattle.std.proofs.Common.{arith, sym, ◌∙◌, ap, ap₂, append-nil, append_assoc, ⊎_elim, ltb→lt, lt→ltb}
use Rattle.std.proofs.Math.Decide.{ℕ_discrete}
use Rattle.meaning.specs.Logic.{◌and◌, ◌or◌, join, over, Is, is, never, Is→T, T→Is}
use Rattle.meaning.specs.Logic.{and_l, and_r, and_i, or_l, or_r, or_e, join_drops, over_related}
use Rattle.meaning.specs.Solution.{Args, Set, Assign, mem}
use Rattle.meaning.specs.Formulas.{Formula, holds}
use Rattle.meaning.specs.Ranges.{within}
use Rattle.meaning.proofs.Members.{mem_head, mem_tail, mem_cases, mem_nothing}
use Rattle.translation.specs.Processes.{any}
use Rattle.translation.specs.Translation.{quantifiers, joined_all}
use Rattle.translation.specs.Quantifiers.{OneOf, SomeValue, SomeValues, some_values, turned}

pub turned_twice : (all b : Bool) → turned all (turned all b) ≡ b
unfolding turned
turned_twice true true = refl
turned_twice true false = refl
turned_twice false b = refl

pub turned_none : (all : Bool) → all ≡ turned all false
unfolding turned
turned_none true = refl
turned_none false = refl

pub join_turned : (all a b : Bool) → join all (turned all a) (turned all b) ≡ turned all (a or b)
unfolding turned join ◌and◌ ◌or◌
join_turned true true b = refl
join_turned true false b = refl
join_turned false a b = refl

-- p holds for one of a list
pub any_i : (D : List Args) (p : Set) (x : Args) → Is (mem x D) → Is (p x) → Is (any D p)
unfolding any
any_i [] p x m h = absurd (mem_nothing x m)
any_i (y ∷ D) p x m h =
    ⊎_elim (λ e. or_l _ (rw e at h)) (λ k. or_r _ (any_i D p x k h)) (mem_cases x y D m)

pub any_e : (D : List Args) (p : Set) → Is (any D p) → OneOf D p
unfolding any
any_e [] p h = never h
any_e (y ∷ D) p h = ⊎_elim (λ k. (y, mem_head y D, k))
    (λ k. let r = any_e D p k in (r.0, mem_tail r.0 y D r.1, r.2)) (or_e _ _ h)

-- p holds for one of the n values from v on
pub over_i : (v n : ℕ) (p : ℕ → Bool) (i : ℕ) → v ≤ i → i < v + n → Is (p i) →
    Is (over (join false) false v n p)
unfolding over join
over_i v zero p i a b h = absurd (omega arith)
over_i v (suc n) p i a b h = elim (ℕ_discrete v i) [
  | yes e ↦ or_l _ (rw e h)
  | no e ↦ or_r _ (over_i (v + 1) n p i (omega arith) (omega arith) h)
]

pub over_e : (v n : ℕ) (p : ℕ → Bool) → Is (over (join false) false v n p) → SomeValue v n p
unfolding over join
over_e v zero p h = never h
over_e v (suc n) p h = ⊎_elim (λ k. (v, omega arith, omega arith, k))
    (λ k. let r = over_e (v + 1) n p k in (r.0, omega (arith, r.1), omega (arith, r.2), r.3)) (or_e _ _ h)

-- where p is q turned, all of p is some of q, turned
pub over_turned : (all : Bool) (v n : ℕ) (p q : ℕ → Bool) → ((i : ℕ) → p i ≡ turned all (q i)) →
    over (join all) all v n p ≡ turned all (over (join false) false v n q)
unfolding join
over_turned all v n p q h = over_related (λ a b. a ≡ turned all b) (join all) (join false)
    (λ a a' b b' e e'. ap₂ (join all) e e' ∙ join_turned all b b') (turned_none all) v n p q (λ i _ _. h i)

within_more : (i r : ℕ) (e rs : List ℕ) → i < r → Is (within e rs) → Is (within (i ∷ e) (r ∷ rs))
unfolding within
within_more i r e rs l w = and_i (T→Is _ (lt→ltb i r l)) w

pub some_values_i : (rs : List ℕ) (p : Set) (e : Args) → Is (within e rs) → Is (p e) → Is (some_values rs p)
unfolding some_values within
some_values_i [] p [] w h = h
some_values_i [] p (i ∷ e) w h = never w
some_values_i (r ∷ rs) p [] w h = never w
some_values_i (r ∷ rs) p (i ∷ e) w h =
    let l = ltb→lt i r (Is→T (and_l _ _ w)) in
    over_i 0 r _ i (omega arith) (omega arith) (some_values_i rs (λ y. p (i ∷ y)) e (and_r _ _ w) h)

pub some_values_e : (rs : List ℕ) (p : Set) → Is (some_values rs p) → SomeValues rs p
unfolding some_values within
some_values_e [] p h = ([], is, h)
some_values_e (r ∷ rs) p h =
    let one = over_e 0 r _ h in
    let rest = some_values_e rs (λ y. p (one.0 ∷ y)) one.3 in
    (one.0 ∷ rest.0, within_more one.0 r rest.0 rs (omega (arith, one.2)) rest.1, rest.2)

pub some_values_same : (rs : List ℕ) (p q : Set) → ((e : Args) → Is (within e rs) → p e ≡ q e) →
    some_values rs p ≡ some_values rs q
unfolding some_values within
some_values_same [] p q h = h [] is
some_values_same (r ∷ rs) p q h = over_related ◌≡◌ (join false) (join false)
    (λ a a' b b' e e'. ap₂ (join false) e e') refl 0 r _ _ (λ i _ l.
    some_values_same rs (λ e. p (i ∷ e)) (λ e. q (i ∷ e))
    (λ e w. h (i ∷ e) (within_more i r e rs (omega arith) w)))

pub holds_quantifiers : (all : Bool) (rs : List ℕ) (f : Formula) (θ : Assign) (v : List ℕ) →
    holds (quantifiers all rs f) θ v ≡ turned all (some_values rs (λ e. turned all (holds f θ (v ++ e))))
unfolding quantifiers some_values holds
holds_quantifiers all [] f θ v =
    ap (holds f θ) (sym (append-nil v)) ∙ sym (turned_twice all (holds f θ (v ++ [])))
holds_quantifiers all (r ∷ rs) f θ v = over_turned all 0 r _ _ (λ i.
    holds_quantifiers all rs f θ (v ++ (i ∷ [])) ∙ ap (turned all) (some_values_same rs _ _ (λ e _.
    ap (λ (x : Args). turned all (holds f θ x)) (append_assoc v (i ∷ []) e))))

-- formulas in a row
pub holds_joined_all : (all : Bool) (f : Formula) (fs : List Formula) (θ : Assign) (v : List ℕ) →
    holds (joined_all all (f ∷ fs)) θ v ≡ join all (holds f θ v) (holds (joined_all all fs) θ v)
unfolding joined_all holds
holds_joined_all all f [] θ v = sym (join_drops all (holds f θ v))
holds_joined_all all f (g ∷ fs) θ v = refl
