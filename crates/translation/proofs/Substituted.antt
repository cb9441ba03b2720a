-- With terms in place of its variables, a condition has the value that it has at the values of the terms.
-- Negated, it has the other value. By the shape of the term or the condition.
use Rattle.std.specs.Prelude.{ℕ, suc, ◌≡◌, refl, Bool, true, false, not, List, [], ◌∷◌, ◌++◌, length, get_or, eqb, ltb}
use Rattle.std.proofs.Common.{arith, sym, subst, ◌∙◌, ap, ap₂, append_assoc, length-append, ltb→lt}
use Rattle.std.proofs.Math.Bool.{not-not}
use Rattle.std.proofs.Math.ListN.{get_or-map, get_or-append}
use Rattle.std.proofs.Math.Seq.{get_or-append_seam}
use Rattle.meaning.specs.Logic.{◌and◌, ◌or◌, join, Is, never, Is→T, and_l, and_r}
use Rattle.meaning.specs.Solution.{Assign}
use Rattle.meaning.specs.Formulas.{Term, number, variable, calculated, calculation, value, values, holds}
use Rattle.meaning.specs.Formulas.{Test, equal, less, unequal, not_less, test_holds, Formula, constant}
use Rattle.meaning.specs.Formulas.{joined, quantified, compared, instance}
use Rattle.meaning.specs.Models.{nowhere}
use Rattle.meaning.specs.Ranges.{sound_term, sound_terms}
use Rattle.translation.specs.Rules.{plain}
use Rattle.translation.specs.Translation.{substituted_term, substituted_terms, substituted, opposite}
use Rattle.translation.specs.Translation.{negated, guard, variables_from}
use Rattle.translation.specs.Quantifiers.{turned}

pub value_substituted : (ts : List Term) (t : Term) (v : List ℕ) →
    value (substituted_term ts t) v ≡ value t (values ts v)
unfolding value substituted_term
value_substituted ts (number n) v = refl
value_substituted ts (variable i) v = sym (get_or-map (λ (t : Term). value t v) ts i (number 0))
value_substituted ts (calculated plus r a b) v =
    ap₂ (calculation plus r) (value_substituted ts a v) (value_substituted ts b v)

pub values_substituted : (ts us : List Term) (v : List ℕ) →
    values (substituted_terms ts us) v ≡ values us (values ts v)
values_substituted ts [] v = refl
values_substituted ts (u ∷ us) v = ap₂ ◌∷◌ (value_substituted ts u v) (values_substituted ts us v)

pub holds_substituted : (f : Formula) → Is (plain f) → (ts : List Term) (θ : Assign) (v : List ℕ) →
    holds (substituted ts f) θ v ≡ holds f nowhere (values ts v)
unfolding plain substituted holds
holds_substituted (constant b) p ts θ v = refl
holds_substituted (joined all f g) p ts θ v =
    ap₂ (join all) (holds_substituted f (and_l _ _ p) ts θ v) (holds_substituted g (and_r _ _ p) ts θ v)
holds_substituted (quantified all r f) p ts θ v = never p
holds_substituted (compared t a b) p ts θ v =
    ap₂ (test_holds t) (value_substituted ts a v) (value_substituted ts b v)
holds_substituted (instance e us) p ts θ v = never p

de_morgan : (all a b : Bool) → join (not all) (not a) (not b) ≡ not (join all a b)
unfolding join ◌and◌ ◌or◌
de_morgan true true b = refl
de_morgan true false b = refl
de_morgan false true b = refl
de_morgan false false b = refl

opposite_holds : (t : Test) (a b : ℕ) → test_holds (opposite t) a b ≡ not (test_holds t a b)
unfolding opposite
opposite_holds equal a b = refl
opposite_holds less a b = refl
opposite_holds unequal a b = sym (not-not (eqb a b))
opposite_holds not_less a b = sym (not-not (ltb a b))

pub holds_negated : (f : Formula) → Is (plain f) → (ts : List Term) (θ : Assign) (v : List ℕ) →
    holds (substituted ts (negated f)) θ v ≡ not (holds f nowhere (values ts v))
unfolding plain substituted negated holds
holds_negated (constant b) p ts θ v = refl
holds_negated (joined all f g) p ts θ v =
    ap₂ (join (not all)) (holds_negated f (and_l _ _ p) ts θ v) (holds_negated g (and_r _ _ p) ts θ v) ∙
    de_morgan all _ _
holds_negated (quantified all r f) p ts θ v = never p
holds_negated (compared t a b) p ts θ v =
    ap₂ (test_holds (opposite t)) (value_substituted ts a v) (value_substituted ts b v) ∙ opposite_holds t _ _
holds_negated (instance e us) p ts θ v = never p

-- a guard says the condition's value, in a box the other one
pub holds_guard : (all : Bool) (c : Formula) → Is (plain c) → (ts : List Term) (θ : Assign) (v : List ℕ) →
    holds (substituted ts (guard all c)) θ v ≡ turned all (holds c nowhere (values ts v))
unfolding guard turned
holds_guard true c p ts θ v = holds_negated c p ts θ v
holds_guard false c p ts θ v = holds_substituted c p ts θ v

-- further variables in reach change nothing for a term that does not name them
pub value_more : (t : Term) (v e : List ℕ) → Is (sound_term (length v) t) → value t (v ++ e) ≡ value t v
unfolding value sound_term
value_more (number n) v e s = refl
value_more (variable i) v e s = get_or-append v e 0 i (ltb→lt i _ (Is→T s))
value_more (calculated plus r a b) v e s =
    ap₂ (calculation plus r) (value_more a v e (and_r _ _ (and_l _ _ s))) (value_more b v e (and_r _ _ s))

pub values_more : (ts : List Term) (v e : List ℕ) → Is (sound_terms (length v) ts) →
    values ts (v ++ e) ≡ values ts v
unfolding sound_terms
values_more [] v e s = refl
values_more (t ∷ ts) v e s = ap₂ ◌∷◌ (value_more t v e (and_l _ _ s)) (values_more ts v e (and_r _ _ s))

pub values_append : (ts us : List Term) (v : List ℕ) → values (ts ++ us) v ≡ values ts v ++ values us v
values_append [] us v = refl
values_append (t ∷ ts) us v = ap (◌∷◌ (value t v)) (values_append ts us v)

-- the variables that follow those of v have the values that follow v
pub variables_values : (rs : List ℕ) (i : ℕ) (v e : List ℕ) → i ≡ length v → length e ≡ length rs →
    values (variables_from i rs) (v ++ e) ≡ e
unfolding variables_from value
variables_values [] i v [] h l = refl
variables_values [] i v (a ∷ e) h l = absurd (omega arith)
variables_values (r ∷ rs) i v [] h l = absurd (omega arith)
variables_values (r ∷ rs) i v (a ∷ e) h l =
    let longer : suc i ≡ length (v ++ (a ∷ [])) = omega (arith, length-append v (a ∷ [])) in
    let later = variables_values rs (suc i) (v ++ (a ∷ [])) e longer (omega arith) in
    ap₂ ◌∷◌ here (rw append_assoc at later)
  where
    here : get_or (v ++ (a ∷ e)) i 0 ≡ a
    here = subst (λ (j : ℕ). get_or (v ++ (a ∷ e)) j 0 ≡ a) (sym h) (get_or-append_seam v a e 0)

-- a summand's variables: the state, then its own
pub reach_values : (state : List Term) (rs : List ℕ) (i : ℕ) (v e : List ℕ) → i ≡ length v →
    length e ≡ length rs → Is (sound_terms (length v) state) →
    values (state ++ variables_from i rs) (v ++ e) ≡ values state v ++ e
reach_values state rs i v e h l s =
    values_append state (variables_from i rs) (v ++ e) ∙
    ap₂ ◌++◌ (values_more state v e s) (variables_values rs i v e h l)
