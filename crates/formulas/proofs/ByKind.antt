-- The laws by kind: what is told of a term or of a formula of a kind, where it is told of its parts.
-- Each law is one step of the decoder, and P any property of what was read: its range, its value, what is left in it.
use Prim.Native.Nat.{ℕ, zero, suc, ◌+◌, ◌-◌, ◌≤◌, ◌<◌}
use native.Mathlib.Omega.{arith}
use mathlib.Core.Path.{◌≡◌, refl, sym, ap, ◌∙◌}
use mathlib.Core.Bool.{Bool, true, false}
use mathlib.Core.List.{List, [], ◌∷◌}
use Rattle.std.specs.Prelude.{Option, None, Some}
use lib.Dec.{eqb, leb}
use lib.ListN.{length, get_or, get_or-eq_default}
use borrow.Author.Tests.{lt-ltb, le-ltb, le-leb, lt-leb, leb-true, leb-false}
use Rattle.meaning.specs.Formulas.{Term, number, variable, calculated}
use Rattle.meaning.specs.Formulas.{Formula, constant, joined, quantified, compared, instance}
use Rattle.meaning.specs.Ranges.{is_range}
use Rattle.meaning.specs.Logic.{cases}
use Rattle.formulas.specs.declared.Kind.{Kind}
use Rattle.formulas.specs.declared.Kind.TheVariants.{Constant, Join, Quantifier, Compare, Instance}
use Rattle.formulas.specs.declared.TermKind.{TermKind}
use Rattle.formulas.specs.declared.TermKind.TheVariants.{Number, Variable, Calculation}
use Rattle.formulas.specs.declared.Test.{Test}
use Rattle.formulas.specs.Codes.{kind_of, term_kind_of, operands_of}
use Rattle.formulas.specs.Decode.{in_row, nth_term, test_of, term_at, formula_at}
use Rattle.formulas.specs.Shapes.{term_counts}
use Rattle.formulas.proofs.Shapes.{formula_operands, term_operands}
use Rattle.formulas.proofs.Shapes.{no_term_kind, shape_no_term, shape_number, shape_variable, shape_calculation}
use Rattle.formulas.proofs.Shapes.{no_kind, shape_no_formula, shape_constant, shape_join, shape_quantifier}
use Rattle.formulas.proofs.Shapes.{shape_compare, shape_instance}
use Rattle.formulas.specs.Contract.{Told, refused, told, TermTold, TermsTold, InstanceTold}
use Rattle.formulas.specs.Contract.{ToldWithin, within, FormulaTold, Tells}
use Rattle.formulas.specs.declared.Span.{Span}
use Rattle.formulas.proofs.Told.{told_then, told_stop, told_last, told_when, told_unless, told_map}
use Rattle.formulas.proofs.Told.{within_then, within_stop, within_last, within_when}
use Rattle.formulas.proofs.Told.{deep}
use Rattle.formulas.proofs.Decoded.{told_on, told_past, told_every}
use Rattle.formulas.proofs.Decoded.{every_term, every_terms, every_formula}

-- ---- terms
-- a term that was read goes on from its place
pub term_on : {P : Term → Type 0} {s : List ℕ} {k at e : ℕ} → TermTold s k at P true e → at ≤ e
term_on {s} {k} {at} t =
    told_on {limit = 0} {size = 0} (within (t.tells (length s) (omega arith))) (every_term s k (length s) at)

-- ---- terms in a row: none, the next one stops it, one more, the last, and two
pub terms_none : {P : List Term → Type 0} {c : ℕ} {s : List ℕ} {k at : ℕ} → c ≡ 0 → P [] → TermsTold c s k at P true at
unfolding in_row
terms_none h p = record { tells = λ n _. rw h (told p) }

one_more : {c : ℕ} → 0 < c → c ≡ suc (c - 1)
one_more h = omega arith

module _ {P : List Term → Type 0} {c : ℕ} (some : 0 < c) {s : List ℕ} {k at e : ℕ} {Q : Term → Type 0} where
  pub terms_stop : {m : ℕ} → TermTold s k at Q false m → TermsTold c s k at P false e
  unfolding in_row
  terms_stop first = record { tells = λ n l. rw (one_more some) (told_stop _ (first.tells n l)) }

  pub terms_more : {R : List Term → Type 0} {m : ℕ} {ok : Bool} → TermTold s k at Q true m → TermsTold (c - 1) s k m R ok e
      → ((a : Term) (l : List Term) → Q a → R l → P (a ∷ l)) → TermsTold c s k at P ok e
  unfolding in_row
  terms_more first rest f = record {
    tells = λ n l. rw (one_more some) (told_then _ (first.tells n l)
        (λ a p. told_last _ (rest.tells n (omega (arith, term_on first))) (λ l q. f a l p q)));
  }

pub terms_last : {P : List Term → Type 0} {Q : Term → Type 0} {s : List ℕ} {k at e : ℕ} {ok : Bool} → TermTold s k at Q ok e
    → ((a : Term) → Q a → P (a ∷ [])) → TermsTold 1 s k at P ok e
unfolding in_row
terms_last t f = record { tells = λ n l. told_last (λ a. a ∷ []) (t.tells n l) f }

pub terms_map : {P Q : List Term → Type 0} {c : ℕ} {s : List ℕ} {k at e : ℕ} {ok : Bool} → TermsTold c s k at Q ok e
    → ((ts : List Term) → Q ts → P ts) → TermsTold c s k at P ok e
terms_map t f = record { tells = λ n l. told_map (t.tells n l) f }

pub two_terms : {Q R : Term → Type 0} {s : List ℕ} {k at m e : ℕ} {ok : Bool} → TermTold s k at Q true m
    → TermTold s k m R ok e → TermsTold 2 s k at (λ ts. Q (nth_term ts 0) × R (nth_term ts 1)) ok e
two_terms {R} first second =
    terms_more (omega arith) first (terms_last {P = λ ts. R (nth_term ts 0)} second (λ b r. r)) (λ a ts q r. (q, r))

-- byte 0, which is what stands past the end, is no code
no_term : {P : Term → Type 0} (s : List ℕ) (k at : ℕ) {e : ℕ} → term_kind_of (get_or s at 0) ≡ None → (n : ℕ)
    → Told P e (term_at n s k at) false
unfolding term_at
no_term s k at h zero = refused
no_term s k at h (suc n) = rw (shape_no_term n s k at h) refused

pub term_past : {P : Term → Type 0} {s : List ℕ} {k at e : ℕ} → length s ≤ at → TermTold s k at P false e
term_past {s} {k} {at} h = record { tells = λ n _. no_term s k at (rw (get_or-eq_default s 0 {n = at} h) no_term_kind) n }

pub term_none : {P : Term → Type 0} {s : List ℕ} {k at e : ℕ} → term_kind_of (get_or s at 0) ≡ None → TermTold s k at P false e
term_none {s} {k} {at} h = record { tells = λ n _. no_term s k at h n }

-- what is read in front of a term: the byte x behind its code, the code's kind, and the place behind its operands
pub record TermHead (s : List ℕ) (at x next : ℕ) (kind : TermKind) : Type 0 where
  pub inside : at < length s
  pub byte : x ≡ get_or s (at + 1) 0
  pub named : term_kind_of (get_or s at 0) ≡ Some kind
  pub past : next ≡ at + (1 + operands_of (get_or s at 0))

pub term_head : {s : List ℕ} {at x code operands : ℕ} {o : Option TermKind} {kind : TermKind} → at < length s
    → code ≡ get_or s at 0 → x ≡ get_or s (at + 1) 0 → operands ≡ operands_of code → o ≡ term_kind_of code → o ≡ Some kind
    → TermHead s at x (at + 1 + operands) kind
term_head {at} inside here byte many of_code is = record {
  inside = inside;
  byte = byte;
  named = ap term_kind_of (sym here) ∙ sym of_code ∙ is;
  past = omega (arith, many ∙ ap operands_of here);
}

module _ {s : List ℕ} {at x next : ℕ} {kind : TermKind} (h : TermHead s at x next kind) where
  coded : {t : TermKind} → kind ≡ t → term_kind_of (get_or s at 0) ≡ Some t
  coded t = h.named ∙ ap Some t

  -- a number and a variable have one operand
  leaf_past : {t : TermKind} → kind ≡ t → term_counts (Some t) (operands_of (get_or s at 0)) ≡ eqb (operands_of (get_or s at 0)) 1
      → next ≡ at + 2
  leaf_past t one = omega (arith, h.past, term_operands (get_or s at 0) 1 (coded t) one)

  module _ {P : Term → Type 0} {k : ℕ} where
    term_step : {e : ℕ} {ok : Bool} → ((n : ℕ) → length s ≤ n + (at + 1) → Told P e (term_at (suc n) s k at) ok)
        → TermTold s k at P ok e
    term_step {e} {ok} f = record { tells = λ n l. deep s at (λ n. Told P e (term_at n s k at) ok) n l h.inside f }

    pub term_number_no : {e : ℕ} → kind ≡ Number → 15 < x → TermTold s k at P false e
    term_number_no t b = term_step (λ n _. rw (shape_number n s k at (coded t), ← h.byte) (told_unless _ _ (lt-leb x 15 b)))

    pub term_number : kind ≡ Number → x ≤ 15 → P (number x) → TermTold s k at P true next
    term_number t b p =
        term_step (λ n _. rw (shape_number n s k at (coded t), ← h.byte, ← leaf_past t refl)
        (told_when _ (le-leb x 15 b) (told p)))

    pub term_variable_no : {e : ℕ} → kind ≡ Variable → k ≤ x → TermTold s k at P false e
    term_variable_no t b = term_step (λ n _. rw (shape_variable n s k at (coded t), ← h.byte) (told_unless _ _ (le-ltb x k b)))

    pub term_variable : kind ≡ Variable → x < k → P (variable x) → TermTold s k at P true next
    term_variable t b p =
        term_step (λ n _. rw (shape_variable n s k at (coded t), ← h.byte, ← leaf_past t refl)
        (told_when _ (lt-ltb x k b) (told p)))

    module _ {e : ℕ} {plus : Bool} (t : kind ≡ Calculation plus) where
      pub term_calculation_no : is_range x ≡ false → TermTold s k at P false e
      term_calculation_no r =
          term_step (λ n _. rw (shape_calculation n s k at plus (coded t), ← h.byte) (told_unless _ _ r))

      pub term_calculation : {Q : List Term → Type 0} {ok : Bool} → is_range x ≡ true → TermsTold 2 s k (at + 2) Q ok e
          → ((ts : List Term) → Q ts → P (calculated plus x (nth_term ts 0) (nth_term ts 1))) → TermTold s k at P ok e
      term_calculation r two f =
          term_step (λ n l. rw (shape_calculation n s k at plus (coded t), ← h.byte)
          (told_when _ r (told_last _ (two.tells n (omega arith)) f)))

-- ---- an instance: its equation, how many arguments it has, and these
module _ {P : Formula → Type 0} {s : List ℕ} {k at e c : ℕ} (number : c ≡ get_or s (at + 1) 0) where
  pub instance_no : 4 < c → InstanceTold s k at P false e
  instance_no h = record { tells = λ n _. rw (← number) (told_unless _ _ (lt-leb c 4 h)) }

  module _ (few : c ≤ 4) {Q : List Term → Type 0} where
    pub instance_read : {x : ℕ} {ok : Bool} → x ≡ get_or s at 0 → TermsTold c s k (at + 2) Q ok e
        → ((l : List Term) → length l ≡ c → Q l → P (instance x l)) → InstanceTold s k at P ok e
    instance_read i t f = record {
      tells = λ n l. rw (← i, ← number) (told_when _ (le-leb c 4 few)
          (told_last _ (told_every (t.tells n (omega arith)) (every_terms s k n c (at + 2))) (λ l q. f l q.1.long q.0)));
    }

-- the same of an option of a span, which is handed on as it is
module _ {T : Type 0} (s : List ℕ) (k at : ℕ) (P : T → Formula → Type 0) {c : ℕ} (number : c ≡ get_or s (at + 1) 0) (few : c ≤ 4)
    {x : ℕ} (named : x ≡ get_or s at 0) (Q : T → List Term → Type 0) where
  pub instance_tells : (o : Option (Span T)) → Tells (TermsTold c s k (at + 2)) Q o
      → ((v : T) (l : List Term) → length l ≡ c → Q v l → P v (instance x l)) → Tells (InstanceTold s k at) P o
  instance_tells None t f = instance_read number few named t (λ l long u. u)
  instance_tells (Some span) t f = instance_read number few named t (f span.found)

-- ---- formulas
-- a formula takes a byte at least
pub formula_on : {P : Formula → Type 0} {s : List ℕ} {limit k q at e : ℕ} → FormulaTold s limit k q at P true e → at < e
formula_on {s} {k} {q} {at} t =
    omega (arith, told_on (t.tells (length s) (omega arith)) (every_formula s (length s) k q at))

-- byte 0 is no code here either; and what starts at the limit or later ends past it
no_formula : {P : Formula → Type 0} (s : List ℕ) (k q at : ℕ) {e : ℕ} → kind_of (get_or s at 0) ≡ None → (n : ℕ)
    → Told P e (formula_at n s k q at) false
unfolding formula_at
no_formula s k q at h zero = refused
no_formula s k q at h (suc n) = rw (shape_no_formula n s k q at h) refused

late : {P : Formula → Type 0} (s : List ℕ) (k q at : ℕ) {limit e : ℕ} → limit ≤ at → (n : ℕ)
    → ToldWithin limit (length s) P e (formula_at n s k q at) false
late s k q at h n =
    cases (leb (length s) at)
    (λ l. within (no_formula s k q at (rw (get_or-eq_default s 0 {n = at} (leb-true (length s) at l)) no_kind) n))
    (λ l. told_past (omega (arith, leb-false (length s) at l)) (omega arith) (every_formula s n k q at))

pub formula_late : {P : Formula → Type 0} {s : List ℕ} {limit k q at e : ℕ} → limit ≤ at → FormulaTold s limit k q at P false e
formula_late {s} {k} {q} {at} h = record { tells = λ n _. late s k q at h n }

pub formula_none : {P : Formula → Type 0} {s : List ℕ} {limit k q at e : ℕ} → kind_of (get_or s at 0) ≡ None
    → FormulaTold s limit k q at P false e
formula_none {s} {k} {q} {at} h = record { tells = λ n _. within (no_formula s k q at h n) }

-- what is read in front of a formula: the code's kind, and the place behind its operands
pub record Head (s : List ℕ) (at next : ℕ) (kind : Kind) : Type 0 where
  pub inside : at < length s
  pub named : kind_of (get_or s at 0) ≡ Some kind
  pub past : next ≡ at + (1 + operands_of (get_or s at 0))

pub formula_head : {s : List ℕ} {at code operands : ℕ} {o : Option Kind} {kind : Kind} → at < length s → code ≡ get_or s at 0
    → operands ≡ operands_of code → o ≡ kind_of code → o ≡ Some kind → Head s at (at + 1 + operands) kind
formula_head {at} inside here many of_code is = record {
  inside = inside;
  named = ap kind_of (sym here) ∙ sym of_code ∙ is;
  past = omega (arith, many ∙ ap operands_of here);
}

module _ {s : List ℕ} {at next : ℕ} {kind : Kind} (h : Head s at next kind) where
  kinded : {t : Kind} → kind ≡ t → kind_of (get_or s at 0) ≡ Some t
  kinded t = h.named ∙ ap Some t

  module _ {P : Formula → Type 0} {limit k q : ℕ} where
    formula_step : {e : ℕ} {ok : Bool}
        → ((n : ℕ) → length s ≤ n + (at + 1) → ToldWithin limit (length s) P e (formula_at (suc n) s k q at) ok)
        → FormulaTold s limit k q at P ok e
    formula_step {e} {ok} f = record {
      tells = λ n l. deep s at (λ n. ToldWithin limit (length s) P e (formula_at n s k q at) ok) n l h.inside f;
    }

    pub formula_constant : {b : Bool} → kind ≡ Constant b → P (constant b) → FormulaTold s limit k q at P true next
    formula_constant {b} t p =
        let alone : next ≡ at + 1 = omega (arith, h.past, formula_operands (get_or s at 0) 0 (kinded t) refl) in
        formula_step (λ n _. rw (shape_constant n s k q at b (kinded t), ← alone) (within (told p)))

    -- the first operand has a limit of its own, at most a byte less: the second takes a byte at least
    module _ {e : ℕ} {all : Bool} (t : kind ≡ Join all) {Q : Formula → Type 0} {low m : ℕ} where
      pub formula_join_stop : limit ≤ low + 1 → FormulaTold s low k q (at + 1) Q false m → FormulaTold s limit k q at P false e
      formula_join_stop b first =
          formula_step (λ n l. rw (shape_join n s k q at all (kinded t)) (within_stop _ (first.tells n l)
          (λ f j y. within_last (joined all f) (late {P = λ g. P (joined all f g)} s k q j (omega arith) n) (λ g p. p))))

      pub formula_join : {R : Formula → Type 0} {ok : Bool} → FormulaTold s low k q (at + 1) Q true m
          → FormulaTold s limit k q m R ok e → ((f g : Formula) → Q f → R g → P (joined all f g))
          → FormulaTold s limit k q at P ok e
      formula_join first second f =
          formula_step (λ n l. rw (shape_join n s k q at all (kinded t)) (within_then _ (first.tells n l)
          (λ x p. within_last _ (second.tells n (omega (arith, formula_on first))) (λ y r. f x y p r))))

    module _ {e : ℕ} {all : Bool} (t : kind ≡ Quantifier all) where
      pub formula_fifth : 4 ≤ q → FormulaTold s limit k q at P false e
      formula_fifth d =
          formula_step (λ n _. rw (shape_quantifier n s k q at all (kinded t)) (within (told_unless _ _ (le-ltb q 4 d))))

      module _ (d : q < 4) {r : ℕ} (byte : r ≡ get_or s (at + 1) 0) where
        pub formula_quantifier_no : is_range r ≡ false → FormulaTold s limit k q at P false e
        formula_quantifier_no i =
            formula_step (λ n _. rw (shape_quantifier n s k q at all (kinded t), ← byte)
            (within (told_when _ (lt-ltb q 4 d) (told_unless _ _ i))))

        pub formula_quantifier : {Q : Formula → Type 0} {ok : Bool} → is_range r ≡ true
            → FormulaTold s limit (k + 1) (q + 1) (at + 2) Q ok e → ((f : Formula) → Q f → P (quantified all r f))
            → FormulaTold s limit k q at P ok e
        formula_quantifier i inner f =
            formula_step (λ n l. rw (shape_quantifier n s k q at all (kinded t), ← byte)
            (within_when _ (lt-ltb q 4 d) (within_when _ i (within_last _ (inner.tells n (omega arith)) f))))

    pub formula_compare : {e : ℕ} {test : Test} {Q : List Term → Type 0} {ok : Bool} → kind ≡ Compare test
        → TermsTold 2 s k (at + 1) Q ok e
        → ((ts : List Term) → Q ts → P (compared (test_of test) (nth_term ts 0) (nth_term ts 1)))
        → FormulaTold s limit k q at P ok e
    formula_compare {test} t two f =
        formula_step (λ n l. rw (shape_compare n s k q at test (kinded t)) (within (told_last _ (two.tells n l) f)))

    pub formula_instance : {e : ℕ} {ok : Bool} → kind ≡ Instance → InstanceTold s k (at + 1) P ok e
        → FormulaTold s limit k q at P ok e
    formula_instance t i = formula_step (λ n l. rw (shape_instance n s k q at (kinded t)) (within (i.tells n l)))

-- the same of an option of a span, which is handed on as it is
module _ {s : List ℕ} {at next : ℕ} {kind : Kind} (h : Head s at next kind) {T : Type 0} (limit k q : ℕ)
    (P : T → Formula → Type 0) where
  pub quantifier_tells : {all : Bool} {r : ℕ} (Q : T → Formula → Type 0) (o : Option (Span T)) → kind ≡ Quantifier all → q < 4
      → r ≡ get_or s (at + 1) 0 → is_range r ≡ true → Tells (FormulaTold s limit (k + 1) (q + 1) (at + 2)) Q o
      → ((v : T) (f : Formula) → Q v f → P v (quantified all r f)) → Tells (FormulaTold s limit k q at) P o
  quantifier_tells Q None t d byte i inner f = formula_quantifier h t d byte i inner (λ g u. u)
  quantifier_tells Q (Some span) t d byte i inner f = formula_quantifier h t d byte i inner (f span.found)

  pub compare_tells : {test : Test} (Q : T → List Term → Type 0) (o : Option (Span T)) → kind ≡ Compare test
      → Tells (TermsTold 2 s k (at + 1)) Q o
      → ((v : T) (ts : List Term) → Q v ts → P v (compared (test_of test) (nth_term ts 0) (nth_term ts 1)))
      → Tells (FormulaTold s limit k q at) P o
  compare_tells Q None t two f = formula_compare h t two (λ ts u. u)
  compare_tells Q (Some span) t two f = formula_compare h t two (f span.found)

  pub instance_told : (o : Option (Span T)) → kind ≡ Instance → Tells (InstanceTold s k (at + 1)) P o
      → Tells (FormulaTold s limit k q at) P o
  instance_told None t i = formula_instance h t i
  instance_told (Some span) t i = formula_instance h t i
