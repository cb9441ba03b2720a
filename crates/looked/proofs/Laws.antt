-- What was looked at settles a value: where these variables have the same values, it is the same.
-- A set of two sets has the variables of both; one more variable behind changes none of the others.
use Prim.Native.Nat.{ℕ, ◌+◌, ◌<◌}
use native.Mathlib.Omega.{arith}
use native.Mathlib.Decide.{dec_lt}
use mathlib.Core.Path.{◌≡◌, refl, sym, ap, ap₂, ◌∙◌}
use mathlib.Core.Bool.{Bool, true, false, true≢false, ◌||◌}
use mathlib.Core.List.{List, [], ◌∷◌, ◌++◌}
use lib.Dec.{eqb, leb}
use lib.ListN.{length, get_or, length-append, get_or-append, get_or-eq_default}
use lib.Seq.{get_or-append-add}
use borrow.Author.Tests.{le-leb, lt-ltb}
use Rattle.meaning.specs.Formulas.{Term, number, variable, calculated, calculation, value, values}
use Rattle.truth.specs.Bits.{digit}
use Rattle.truth.proofs.Digits.{lit, op_lit, or_digits, pow_same}
use Rattle.looked.specs.Looked.{only, both, looks_at, looked_term, looked_terms, Alike, Settled, at_value}

-- ---- which variables a set has
or_first : (p q : Bool) → p ≡ true → p || q ≡ true
or_first true q h = refl
or_first false q h = absurd (true≢false (sym h))

or_second : (p q : Bool) → q ≡ true → p || q ≡ true
or_second true q h = refl
or_second false q h = h

both_digit : (a b i : ℕ) → looks_at (both a b) i ≡ (leb 8 i || (lit a i || lit b i))
unfolding looks_at both
both_digit a b i = ap (λ (x : Bool). leb 8 i || x) (op_lit or_digits a b i)

pub in_first : (a b i : ℕ) → looks_at a i ≡ true → looks_at (both a b) i ≡ true
unfolding looks_at
in_first a b i h = both_digit a b i ∙ go (leb 8 i) (lit a i) (lit b i) h
  where
    go : (n p q : Bool) → n || p ≡ true → n || (p || q) ≡ true
    go true p q h = refl
    go false p q h = or_first p q h

pub in_second : (a b i : ℕ) → looks_at b i ≡ true → looks_at (both a b) i ≡ true
unfolding looks_at
in_second a b i h = both_digit a b i ∙ go (leb 8 i) (lit a i) (lit b i) h
  where
    go : (n p q : Bool) → n || q ≡ true → n || (p || q) ≡ true
    go true p q h = refl
    go false p q h = or_second p q h

in_itself : (i : ℕ) → looks_at (only i) i ≡ true
unfolding looks_at only
in_itself i = go (dec_lt i 8)
  where
    go : Dec (i < 8) → leb 8 i || eqb (digit (only i) i) 1 ≡ true
    go (yes h) = or_second (leb 8 i) _ (rw (lt-ltb i 8 h) (pow_same i))
    go (no h) = or_first (leb 8 i) _ (le-leb 8 i (omega arith))

-- ---- alike
module _ (a b : ℕ) {v w : List ℕ} (h : Alike (both a b) v w) where
  alike_first : Alike a v w
  alike_first = record { sized = h.sized; same = λ i z. h.same i (in_first a b i z) }

  alike_second : Alike b v w
  alike_second = record { sized = h.sized; same = λ i z. h.same i (in_second a b i z) }

-- a place before the end of both, or the place of one more, or past it
module _ (v w : List ℕ) (long : length w ≡ length v) (a b n : ℕ) where
  before : n < length v → get_or w n 0 ≡ get_or v n 0 → get_or (w ++ (a ∷ [])) n 0 ≡ get_or (v ++ (b ∷ [])) n 0
  before l h = get_or-append w (a ∷ []) 0 n (omega (arith, long)) ∙ h ∙ sym (get_or-append v (b ∷ []) 0 n l)

  behind : length v < n → get_or (w ++ (a ∷ [])) n 0 ≡ get_or (v ++ (b ∷ [])) n 0
  behind l = get_or-eq_default (w ++ (a ∷ [])) 0 {n = n} (omega (arith, length-append w (a ∷ []), long))
      ∙ sym (get_or-eq_default (v ++ (b ∷ [])) 0 {n = n} (omega (arith, length-append v (b ∷ []))))

  elsewhere : (n ≡ length v → ⊥) → get_or w n 0 ≡ get_or v n 0 → get_or (w ++ (a ∷ [])) n 0 ≡ get_or (v ++ (b ∷ [])) n 0
  elsewhere ne h = elim (dec_lt n (length v)) [
    | yes l ↦ before l h
    | no l ↦ behind (omega (arith, ne))
  ]

at_end : (v : List ℕ) (a n : ℕ) → n ≡ length v → get_or (v ++ (a ∷ [])) n 0 ≡ a
at_end v a n e =
    let z : length v + 0 ≡ n = omega (arith, e) in
    ap (λ (k : ℕ). get_or (v ++ (a ∷ [])) k 0) (sym z) ∙ get_or-append-add v (a ∷ []) 0 0

more_sized : (v w : List ℕ) (a b : ℕ) → length w ≡ length v → length (w ++ (a ∷ [])) ≡ length (v ++ (b ∷ []))
more_sized v w a b long = omega (arith, long, length-append w (a ∷ []), length-append v (b ∷ []))

-- one more variable: of the same value, or of any, where it is not in the set
module _ {set : ℕ} {v w : List ℕ} (h : Alike set v w) where
  alike_more : (a : ℕ) → Alike set (v ++ (a ∷ [])) (w ++ (a ∷ []))
  alike_more a = record { sized = more_sized v w a a h.sized; same = λ i z. go i (h.same i z) (dec_lt i (length v)) }
    where
      go : (i : ℕ) → get_or w i 0 ≡ get_or v i 0 → Dec (i < length v) → get_or (w ++ (a ∷ [])) i 0 ≡ get_or (v ++ (a ∷ [])) i 0
      go i e (yes l) = before v w h.sized a a i l e
      go i e (no l) = elim (dec_lt (length v) i) [
        | yes m ↦ behind v w h.sized a a i m
        | no m ↦ at_end w a i (omega (arith, h.sized)) ∙ sym (at_end v a i (omega arith))
      ]

  alike_any : (a b : ℕ) → looks_at set (length v) ≡ false → Alike set (v ++ (a ∷ [])) (w ++ (b ∷ []))
  alike_any a b none = record {
    sized = more_sized v w b a h.sized;
    same = λ i z. elsewhere v w h.sized b a i
        (λ e. true≢false (sym z ∙ ap (looks_at set) e ∙ none)) (h.same i z);
  }

alike_then : {set : ℕ} {u v w : List ℕ} → Alike set u v → Alike set v w → Alike set u w
alike_then f g = record { sized = g.sized ∙ f.sized; same = λ i z. g.same i z ∙ f.same i z }

alike_itself : (set : ℕ) (v : List ℕ) → Alike set v v
alike_itself set v = record { sized = refl; same = λ i z. refl }

-- ---- settled
pub settled_constant : {A : Type 0} {set : ℕ} {v : List ℕ} (x : A) → Settled set v (λ _. x)
settled_constant x = record { always = λ w h. refl }

module _ {A : Type 0} {set : ℕ} {v : List ℕ} {d : List ℕ → A} where
  -- it is by a larger set
  pub settled_first : (b : ℕ) → Settled set v d → Settled (both set b) v d
  settled_first b s = record { always = λ w h. s.always w (alike_first set b h) }

  pub settled_second : (a : ℕ) → Settled set v d → Settled (both a set) v d
  settled_second a s = record { always = λ w h. s.always w (alike_second a set h) }

  -- what is made of it is settled too
  pub settled_map : {B : Type 0} (f : A → B) → Settled set v d → Settled set v (λ w. f (d w))
  settled_map f s = record { always = λ w h. ap f (s.always w h) }

  -- a part that decides settles the whole, whatever the other part is
  pub settled_decided : (join : A → A → A) (z : A) → ((x : A) → join z x ≡ z) → d v ≡ z → Settled set v d
      → (e : List ℕ → A) → Settled set v (λ w. join (d w) (e w))
  settled_decided join z decides is s e = record {
    always = λ w h. ap (λ (x : A). join x (e w)) (s.always w h ∙ is) ∙ decides (e w)
        ∙ sym (ap (λ (x : A). join x (e v)) is ∙ decides (e v));
  }

pub settled_both : {A B C : Type 0} {a b : ℕ} {v : List ℕ} {d : List ℕ → A} {e : List ℕ → B} (f : A → B → C)
    → Settled a v d → Settled b v e → Settled (both a b) v (λ w. f (d w) (e w))
settled_both {a = a} {b = b} f s t = record {
  always = λ w h. ap₂ f (s.always w (alike_first a b h)) (t.always w (alike_second a b h));
}

-- one more variable: at the value that it has, and at every other one, where it is not in the set
module _ {A : Type 0} {set : ℕ} (v : List ℕ) (a : ℕ) {d : List ℕ → A} (s : Settled set (v ++ (a ∷ [])) d) where
  pub settled_more : Settled set v (at_value d a)
  settled_more = record { always = λ w h. s.always (w ++ (a ∷ [])) (alike_more h a) }

  module _ (none : looks_at set (length v) ≡ false) (i : ℕ) where
    pub same_value : at_value d i v ≡ at_value d a v
    same_value = s.always (v ++ (i ∷ [])) (alike_any (alike_itself set v) a i none)

    pub settled_any : Settled set (v ++ (i ∷ [])) d
    settled_any = record {
      always = λ w h. s.always w (alike_then (alike_any (alike_itself set v) a i none) h) ∙ sym same_value;
    }

-- ---- terms
pub settled_term : (t : Term) (v : List ℕ) → Settled (looked_term t) v (value t)
unfolding looked_term value
settled_term (number n) v = settled_constant n
settled_term (variable i) v = record { always = λ w h. h.same i (in_itself i) }
settled_term (calculated plus r a b) v = settled_both (calculation plus r) (settled_term a v) (settled_term b v)

-- some terms besides a set: what the set settles stays settled, and so are the terms
alike_terms : {v w : List ℕ} (ts : List Term) (set : ℕ) → Alike (looked_terms set ts) v w → Alike set v w
unfolding looked_terms
alike_terms [] set h = h
alike_terms (t ∷ ts) set h = alike_first set (looked_term t) (alike_terms ts (both set (looked_term t)) h)

pub settled_values : (ts : List Term) (set : ℕ) (v : List ℕ) → Settled (looked_terms set ts) v (values ts)
unfolding looked_terms
settled_values [] set v = settled_constant []
settled_values (t ∷ ts) set v = record {
  always = λ w h.
      let more = both set (looked_term t) in
      ap₂ (λ (x : ℕ) (xs : List ℕ). x ∷ xs)
      ((settled_term t v).always w (alike_second set (looked_term t) (alike_terms ts more h)))
      ((settled_values ts more v).always w h);
}
