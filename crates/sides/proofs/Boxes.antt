-- What a box or a diamond puts: for one summand a step and the formula inside, then the same for those that match later.
-- Spelled, the step stands before the formula inside; summands that do not match leave nothing.
use Prim.Native.Nat.{ℕ, zero, suc, ◌+◌, ◌-◌, ◌≤◌, ◌<◌}
use native.Mathlib.Omega.{arith}
use mathlib.Core.Path.{◌≡◌, refl, sym, ◌∙◌, ap}
use mathlib.Core.Bool.{Bool, true, false, not}
use mathlib.Core.List.{List, [], ◌∷◌, ◌++◌, append_assoc}
use lib.Dec.{leb, ltb}
use lib.ListN.{length, get_or, drop, drop_of_length-le}
use lib.Seq.{drop-cons}
use borrow.Author.Tests.{le-leb, lt-leb, ltb-true, ltb-false}
use Rattle.meaning.specs.Logic.{◌and◌, Is, never, and_l, and_r, and_i, cases}
use Rattle.meaning.specs.Formulas.{Term}
use Rattle.meaning.specs.Formulas.{Formula, constant, joined, quantified, compared, instance}
use Rattle.spelling.specs.Spelled.{either_code, spelled}
use Rattle.translation.specs.Processes.{Summand, Process}
use Rattle.translation.specs.Modal.{Actions, one_of}
use Rattle.translation.specs.Rules.{plain}
use Rattle.translation.specs.Translation.{substituted_terms, substituted, negated, guard, quantifiers}
use Rattle.translation.specs.Translation.{reach, after_summand, matching, four_quantifiers}
use Rattle.inputs.specs.Inputs.{no_summand}
use Rattle.scans.specs.Summands.{nth_summand, FirstMatch}
use Rattle.sides.specs.Emitted.{Emits}
use Rattle.sides.specs.Told.{quantifier_bytes, EmitsFormula}
use Rattle.sides.proofs.EmittedLaws.{emits_as, emits_fits, emits_then, emits_next}

-- ---- quantifiers
quantifiers_spelled : (all : Bool) (rs : List ℕ) (h : Formula)
    → spelled (quantifiers all rs h) ≡ quantifier_bytes all rs ++ spelled h
unfolding quantifiers spelled quantifier_bytes
quantifiers_spelled all [] h = refl
quantifiers_spelled all (r ∷ rs) h =
    ap (λ (w : List ℕ). either_code all 0x14 0x15 ∷ r ∷ w) (quantifiers_spelled all rs h)

quantifiers_four : (all : Bool) (rs : List ℕ) (q : ℕ) (h : Formula) → q ≤ 4
    → four_quantifiers q (quantifiers all rs h) ≡ (leb (q + length rs) 4 and four_quantifiers (q + length rs) h)
unfolding quantifiers four_quantifiers ◌and◌
quantifiers_four all [] q h l = let e : q + 0 ≡ q = omega arith in rw (e, le-leb q 4 l) refl
quantifiers_four all (r ∷ rs) q h l = cases (ltb q 4)
    (λ t. rw (t, next) (quantifiers_four all rs (suc q) h (ltb-true q 4 t)))
    (λ f. rw (f, lt-leb (q + suc (length rs)) 4 (fifth (ltb-false q 4 f))) refl)
  where
    next : q + suc (length rs) ≡ suc q + length rs
    next = omega arith

    fifth : 4 ≤ q → 4 < q + suc (length rs)
    fifth g = omega arith

-- ---- a plain condition has no quantifiers, negated or not, and whatever stands for its variables
module _ (ts : List Term) (q : ℕ) where
  plain_four : (c : Formula) → Is (plain c) → four_quantifiers q (substituted ts c) ≡ true
  unfolding plain four_quantifiers substituted ◌and◌
  plain_four (constant b) h = refl
  plain_four (joined all f g) h =
      rw (plain_four f (and_l (plain f) (plain g) h)) (plain_four g (and_r (plain f) (plain g) h))
  plain_four (quantified all r f) h = never h
  plain_four (compared t a b) h = refl
  plain_four (instance e us) h = never h

plain_negated : (c : Formula) → Is (plain c) → Is (plain (negated c))
unfolding plain negated
plain_negated (constant b) h = h
plain_negated (joined all f g) h = and_i (plain_negated f (and_l _ _ h)) (plain_negated g (and_r _ _ h))
plain_negated (quantified all r f) h = never h
plain_negated (compared t a b) h = h
plain_negated (instance e us) h = never h

guard_four : (ts : List Term) (q : ℕ) (all : Bool) (c : Formula) → Is (plain c)
    → four_quantifiers q (substituted ts (guard all c)) ≡ true
unfolding guard
guard_four ts q true c h = plain_four ts q (negated c) (plain_negated c h)
guard_four ts q false c h = plain_four ts q c h

-- ---- two formulas under a connective
module _ (q : ℕ) (all : Bool) (f g : Formula) {out first second left : List ℕ} {count c d r : ℕ} where
  pub emits_joined : Emits true (either_code all 0x12 0x13 ∷ []) out count first c → EmitsFormula q f first c second d
      → EmitsFormula q g second d left r → EmitsFormula q (joined all f g) out count left r
  unfolding spelled four_quantifiers
  emits_joined a b p = emits_next a (emits_then b p)

-- ---- a step of one summand, and the formula inside
module _ (process : Process) (all : Bool) (inside : List Term → ℕ → Formula) (state : List Term) (q : ℕ) (s : Summand) where
  abbrev pub condition_after : Formula
  condition_after = substituted (reach process state q s) (guard all s.condition)

  abbrev pub step_bytes : List ℕ
  step_bytes = quantifier_bytes all s.own ++ (either_code all 0x13 0x12 ∷ spelled condition_after)

  abbrev pub inner_formula : Formula
  inner_formula = inside (substituted_terms (reach process state q s) s.next) (q + length s.own)

  opposite_code : (b : Bool) → either_code (not b) 0x12 0x13 ≡ either_code b 0x13 0x12
  unfolding either_code
  opposite_code true = refl
  opposite_code false = refl

  after_spelled : step_bytes ++ spelled inner_formula ≡ spelled (after_summand process all inside state q s)
  unfolding after_summand spelled
  after_spelled =
      append_assoc (quantifier_bytes all s.own) _ (spelled inner_formula)
      ∙ sym (quantifiers_spelled all s.own (joined (not all) condition_after inner_formula)
      ∙ ap (λ (b : ℕ). quantifier_bytes all s.own ++ (b ∷ (spelled condition_after ++ spelled inner_formula)))
      (opposite_code all))

  after_four : q ≤ 4 → Is (plain s.condition)
      → (leb (q + length s.own) 4 and four_quantifiers (q + length s.own) inner_formula)
      ≡ four_quantifiers q (after_summand process all inside state q s)
  unfolding after_summand four_quantifiers ◌and◌
  after_four l p =
      let Q = q + length s.own in
      sym (quantifiers_four all s.own q (joined (not all) condition_after inner_formula) l
      ∙ ap (λ (b : Bool). leb Q 4 and (b and four_quantifiers Q inner_formula))
      (guard_four (reach process state q s) Q all s.condition p))

  pub emits_after : {out between left : List ℕ} {count c r : ℕ} → q ≤ 4 → Is (plain s.condition)
      → Emits (leb (q + length s.own) 4) step_bytes out count between c
      → EmitsFormula (q + length s.own) inner_formula between c left r
      → EmitsFormula q (after_summand process all inside state q s) out count left r
  emits_after l p a b = emits_as after_spelled (emits_fits (after_four l p) (emits_then a b))

-- ---- the matching summands from one on
module _ (A : Actions) (ss : List Summand) where
  -- those that do not match can be left out
  one_less : (n : ℕ) → (n < length ss → one_of A (get_or ss n no_summand).action ≡ false)
      → matching A (drop n ss) ≡ matching A (drop (suc n) ss)
  unfolding matching
  one_less n g = cases (ltb n (length ss))
      (λ t. let l = ltb-true n (length ss) t in rw (drop-cons ss n no_summand l, g l) refl)
      (λ f. let l = ltb-false n (length ss) f in
      ap (matching A) (drop_of_length-le ss l ∙ sym (drop_of_length-le ss {i = suc n} (omega arith))))

  later_matching : (p k : ℕ)
      → ((j : ℕ) → p ≤ j → j < p + k → j < length ss → one_of A (get_or ss j no_summand).action ≡ false)
      → matching A (drop p ss) ≡ matching A (drop (p + k) ss)
  later_matching p zero h = let e : p ≡ p + 0 = omega arith in ap (λ (n : ℕ). matching A (drop n ss)) e
  later_matching p (suc k) h =
      let e : suc (p + k) ≡ p + suc k = omega arith in
      later_matching p k (λ j a b c. h j a (omega arith) c)
      ∙ one_less (p + k) (λ l. h (p + k) (omega arith) (omega arith) l)
      ∙ ap (λ (n : ℕ). matching A (drop n ss)) e

  -- one that matches is the first of them
  here_matching : (n : ℕ) → n < length ss → one_of A (get_or ss n no_summand).action ≡ true
      → matching A (drop n ss) ≡ get_or ss n no_summand ∷ matching A (drop (suc n) ss)
  unfolding matching
  here_matching n l t = rw (drop-cons ss n no_summand l, t) refl

module _ {process : Process} {A : Actions} {from r : ℕ} (m : FirstMatch process A from r) (some : 1 ≤ from) where
  up_to : matching A (drop (from - 1) process.summands) ≡ matching A (drop (r - 1) process.summands)
  up_to =
      let late = m.late in
      let e : from - 1 + (r - from) ≡ r - 1 = omega arith in
      later_matching A process.summands (from - 1) (r - from) (λ j a b c. m.unmatched j (omega arith) (omega arith) c)
      ∙ ap (λ (n : ℕ). matching A (drop n process.summands)) e

  -- none, where all places are gone through
  pub none_matching : 16 < r → length process.summands ≤ 16
      → matching A (drop (from - 1) process.summands) ≡ []
  unfolding matching
  none_matching g l = up_to ∙ ap (matching A) (drop_of_length-le process.summands {i = r - 1} (omega arith))

  -- or the one in place r, and those behind it
  pub first_matching : (j : ℕ) → r ≡ j + 1 → r ≤ 16
      → (matching A (drop (from - 1) process.summands) ≡ matching A (drop (r - 1) process.summands))
      × (matching A (drop (from - 1) process.summands) ≡ nth_summand process j ∷ matching A (drop r process.summands))
  first_matching j e l =
      let found = m.matched j e (omega arith) in
      let here : r - 1 ≡ j = omega arith in
      let next : suc j ≡ r = omega arith in (
        up_to,
        up_to ∙ ap (λ (n : ℕ). matching A (drop n process.summands)) here
            ∙ here_matching A process.summands j found.0 found.1
            ∙ ap (λ (n : ℕ). nth_summand process j ∷ matching A (drop n process.summands)) next,
      )
