-- The value of a formula by the kind of its code, and what was looked at for it; and the values of a quantifier.
-- Each law is one step of the definition of what stands at a place, with the laws of what settles a value.
use Prim.Native.Nat.{ℕ, ◌+◌, ◌≤◌, ◌<◌}
use mathlib.Core.Path.{◌≡◌, refl, sym, ap, ap₂, ◌∙◌}
use mathlib.Core.Bool.{Bool, true, false, not}
use mathlib.Core.List.{List, [], ◌∷◌, ◌++◌}
use lib.ListN.{length}
use borrow.Author.Tests.{lt-ltb, le-ltb}
use Rattle.meaning.specs.Formulas.{Formula, test_holds}
use Rattle.meaning.specs.Ranges.{is_range}
use Rattle.meaning.specs.Words.{word}
use Rattle.formulas.specs.declared.Kind.{Kind}
use Rattle.formulas.specs.declared.Kind.TheVariants.{Constant, Join, Quantifier, Compare, Instance}
use Rattle.formulas.specs.declared.Test.{Test}
use Rattle.formulas.specs.Codes.{kind_of}
use Rattle.formulas.specs.Decode.{test_of}
use Rattle.looked.specs.Looked.{looks_at, at_value}
use Rattle.looked.proofs.Laws.{settled_constant, settled_map, settled_both, settled_decided, settled_term, settled_values}
use Rattle.looked.proofs.OverLaws.{settled_over, over_decided, over_one, over_more, one_for_all, over_all}
use Rattle.prepared.specs.Prepared.{byte_at, end_at, formula_by, formula_there}
use Rattle.prepared.proofs.Steps.{formula_step, formula_past}
use Rattle.looked.specs.declared.Looked.{Looked}
use Rattle.looked.specs.Alone.{alone}
use Rattle.std.proofs.Common.{Option, Some, None}
use Rattle.evaluator.specs.Values.{known, join_value, decides, valued}
use Rattle.evaluator.specs.Replies.{first_term, second_term, arguments_there, test_there, word_there}
use Rattle.evaluator.specs.Folds.{joined_values, FormulaValued, FoldValued}
use Rattle.evaluator.proofs.Folding as by
use Rattle.evaluator.proofs.Folding.{joins_decided, deciding}

-- ---- what is false or known without a look
pub past_formula : (p : List ℕ) (k at : ℕ) {σ : ℕ → Option Bool} {v : List ℕ} → 256 ≤ at
    → FormulaValued (formula_there p k at) σ v (alone (Some false))
unfolding valued
past_formula p k at l = rw (formula_past p k at l) (record { value = refl; settled = settled_constant (Some false) })

-- what is read of a formula: its code's kind, or that it has none
pub record Head (p : List ℕ) (at : ℕ) (kind : Option Kind) : Type 0 where
  pub inside : at < 256
  pub named : kind_of (byte_at p at) ≡ kind

pub head : {p : List ℕ} {at code : ℕ} {found kind : Option Kind} → at < 256 → code ≡ byte_at p at → found ≡ kind_of code
    → found ≡ kind → Head p at kind
head l c k e = record { inside = l; named = ap kind_of (sym c) ∙ sym k ∙ e }

pub no_formula : {p : List ℕ} {at : ℕ} (h : Head p at None) (k : ℕ) {σ : ℕ → Option Bool} {v : List ℕ}
    → FormulaValued (formula_there p k at) σ v (alone (Some false))
unfolding valued formula_by
no_formula {p} {at} h k =
    rw (formula_step p k at h.inside, h.named) (record { value = refl; settled = settled_constant (Some false) })

module _ {p : List ℕ} {at : ℕ} {kind : Kind} (h : Head p at (Some kind)) (k : ℕ) {σ : ℕ → Option Bool} {v : List ℕ} where
  pub a_constant : {b : Bool} → kind ≡ Constant b → FormulaValued (formula_there p k at) σ v (alone (Some b))
  unfolding valued formula_by
  a_constant {b} t =
      rw (formula_step p k at h.inside, h.named, t) (record { value = refl; settled = settled_constant (known b) })

  -- ---- joins
  module _ {all : Bool} (t : kind ≡ Join all) {a : Looked (Option Bool)}
      (first : FormulaValued (formula_there p k (at + 1)) σ v a) where
    pub join_decided : decides all a.value ≡ true → FormulaValued (formula_there p k at) σ v a
    unfolding valued formula_by
    join_decided d =
        let z = deciding all a.value d in
        let rest = formula_there p k (end_at p (at + 1)) in
        rw (formula_step p k at h.inside, h.named, t) (record {
          value = z ∙ sym (ap (λ (x : Option Bool). join_value all x (valued rest σ v)) (sym first.value ∙ z)
              ∙ (joins_decided all).first (valued rest σ v));
          settled = settled_decided (join_value all) (known (not all)) (joins_decided all).first
              (sym first.value ∙ z) first.settled (valued rest σ);
        })

    pub a_join : {m : ℕ} {b : Looked (Option Bool)} → m ≡ end_at p (at + 1) → FormulaValued (formula_there p k m) σ v b
        → FormulaValued (formula_there p k at) σ v (joined_values all a b)
    unfolding valued formula_by
    a_join e second =
        rw (formula_step p k at h.inside, h.named, t, ← e) (record {
          value = ap₂ (join_value all) first.value second.value;
          settled = settled_both (join_value all) first.settled second.settled;
        })

  -- ---- quantifiers
  module _ {all : Bool} (t : kind ≡ Quantifier all) where
    pub no_place : 8 ≤ k → FormulaValued (formula_there p k at) σ v (alone (Some false))
    unfolding valued formula_by
    no_place l =
        rw (formula_step p k at h.inside, h.named, t, le-ltb k 8 l)
        (record { value = refl; settled = settled_constant (Some false) })

    module _ (l : k < 8) {r : ℕ} (byte : r ≡ byte_at p (at + 1)) where
      pub no_range : is_range r ≡ false → FormulaValued (formula_there p k at) σ v (alone (Some false))
      unfolding valued formula_by
      no_range n =
          rw (formula_step p k at h.inside, h.named, t, lt-ltb k 8 l, ← byte, n)
          (record { value = refl; settled = settled_constant (Some false) })

      pub a_quantifier : {x : Looked (Option Bool)} → is_range r ≡ true
          → FoldValued all r (formula_there p (k + 1) (at + 2)) σ v x
          → FormulaValued (formula_there p k at) σ v x
      unfolding valued formula_by
      a_quantifier i f =
          rw (formula_step p k at h.inside, h.named, t, lt-ltb k 8 l, ← byte, i) (record {
            value = f.value;
            settled = settled_over (joins_decided all) f.settled;
          })

  -- ---- tests and instances
  pub a_comparison : {test : Test} → kind ≡ Compare test
      → let x = test_there p at v test in
      FormulaValued (formula_there p k at) σ v (record { value = Some x.value; looked = x.looked })
  unfolding valued formula_by
  a_comparison {test} t =
      rw (formula_step p k at h.inside, h.named, t) (record {
        value = refl;
        settled = settled_map known (settled_both (test_holds (test_of test)) (settled_term (first_term p at) v)
            (settled_term (second_term p at) v));
      })

  pub an_instance : kind ≡ Instance
      → let x = word_there p at v in
      FormulaValued (formula_there p k at) σ v (record { value = σ x.value; looked = x.looked })
  unfolding valued formula_by
  an_instance t =
      rw (formula_step p k at h.inside, h.named, t) (record {
        value = refl;
        settled = settled_map (λ (l : List ℕ). σ (word (byte_at p (at + 1) ∷ l))) (settled_values (arguments_there p at) 0 v);
      })

-- ---- the values of a quantified variable
-- where one more variable has the value i
abbrev one_more : Formula → (ℕ → Option Bool) → List ℕ → ℕ → Option Bool
one_more f σ v i = at_value (valued f σ) i v

module _ (all : Bool) (f : Formula) {σ : ℕ → Option Bool} {v : List ℕ} where
  pub the_first : {r : Looked (Option Bool)} → FormulaValued f σ (v ++ (0 ∷ [])) r → FoldValued all 1 f σ v r
  the_first t = record { value = t.value ∙ by.first_value all (one_more f σ v); settled = over_one t.settled }

  module _ {n : ℕ} {a : Looked (Option Bool)} (l : 0 < n) (first : FoldValued all n f σ v a) where
    pub these_decide : {m : ℕ} → n ≤ m → decides all a.value ≡ true → FoldValued all m f σ v a
    these_decide h d = record {
      value = first.value ∙ by.decided_early all (one_more f σ v) h (ap (decides all) (sym first.value) ∙ d);
      settled = over_decided (joins_decided all) h (sym first.value ∙ deciding all a.value d) first.settled;
    }

    pub not_looked_at : {m : ℕ} → n ≤ m → looks_at a.looked (length v) ≡ false → FoldValued all m f σ v a
    not_looked_at h none = record {
      value = first.value ∙ by.same_early all (one_more f σ v) l h (one_for_all l none first.settled);
      settled = over_all l none first.settled;
    }

    pub the_next : {b : Looked (Option Bool)} → FormulaValued f σ (v ++ (n ∷ [])) b
        → FoldValued all (n + 1) f σ v (joined_values all a b)
    the_next next = record {
      value = ap₂ (join_value all) first.value next.value ∙ by.one_more all (one_more f σ v) n;
      settled = over_more first.settled next.settled;
    }
