-- What was looked at settles the whole over the values of one more variable, also where not all of them were gone through.
-- One value that decides settles it, whatever the others are; where the variable was not looked at, all values are as one.
use Prim.Native.Nat.{ℕ, zero, suc, ◌+◌, ◌≤◌, ◌<◌}
use native.Mathlib.Omega.{arith}
use native.Mathlib.Decide.{dec_lt}
use mathlib.Core.Path.{◌≡◌, sym, ap, ap₂, ◌∙◌, refl}
use mathlib.Core.Bool.{false}
use mathlib.Core.List.{List, [], ◌∷◌, ◌++◌}
use mathlib.Core.Logic.{◌⊎◌, ⊎_elim}
use lib.ListN.{length}
use Rattle.meaning.specs.Logic.{over}
use Rattle.looked.specs.Looked.{both, looks_at, Settled, at_value, SettledOver, at_each, at_one}
use Rattle.looked.proofs.Laws.{settled_first, settled_second, settled_more, settled_any, same_value}

-- z decides a join from either side, nothing else does, and `unit` is not z
pub record Decider {A : Type 0} (join : A → A → A) (unit z : A) : Type 0 where
  pub first : (x : A) → join z x ≡ z
  pub second : (x : A) → join x z ≡ z
  pub either : (x y : A) → join x y ≡ z → (x ≡ z) ⊎ (y ≡ z)
  pub other : unit ≡ z → ⊥

module _ {A : Type 0} {join : A → A → A} {unit z : A} (decider : Decider join unit z) where
  -- a value that decides, and the whole that it decides
  over_has : (p : ℕ → A) (v n i : ℕ) → v ≤ i → i < v + n → p i ≡ z → over join unit v n p ≡ z
  unfolding over
  over_has p v zero i l h e = absurd (omega arith)
  over_has p v (suc n) i l h e = elim (dec_lt v i) [
    | yes q ↦ ap (join (p v)) (over_has p (v + 1) n i (omega arith) (omega arith) e) ∙ decider.second _
    | no q ↦
        let here : v ≡ i = omega arith in
        ap (λ (x : A). join x (over join unit (v + 1) n p)) (ap p here ∙ e) ∙ decider.first _
  ]

  -- among the values of a decided whole is one that decides
  record Deciding (p : ℕ → A) (v n : ℕ) : Type 0 where
    pub value : ℕ
    pub low : v ≤ value
    pub high : value < v + n
    pub is : p value ≡ z

  deciding : (p : ℕ → A) (v n : ℕ) → over join unit v n p ≡ z → Deciding p v n
  unfolding over
  deciding p v zero e = absurd (decider.other e)
  deciding p v (suc n) e = ⊎_elim
      (λ h. record { value = v; low = omega arith; high = omega arith; is = h })
      (λ h. let d = deciding p (v + 1) n h in
      record { value = d.value; low = omega (arith, d.low); high = omega (arith, d.high); is = d.is })
      (decider.either (p v) (over join unit (v + 1) n p) e)

  over_same : (p q : ℕ → A) (v n : ℕ) → ((i : ℕ) → v ≤ i → i < v + n → p i ≡ q i) → over join unit v n p ≡ over join unit v n q
  unfolding over
  over_same p q v zero h = refl
  over_same p q v (suc n) h = ap₂ join (h v (omega arith) (omega arith))
      (over_same p q (v + 1) n (λ i l m. h i (omega arith) (omega arith)))

  module _ {v : List ℕ} {d : List ℕ → A} where
    -- the whole over some values is settled
    pub settled_over : {n set : ℕ} → SettledOver z n set v d → Settled set v (λ w. over join unit 0 n (λ i. at_value d i w))
    settled_over {n} (at_each f) = record {
      always = λ w h. over_same (λ i. at_value d i w) (λ i. at_value d i v) 0 n
          (λ i _ m. (settled_more v i (f i (omega arith))).always w h);
    }
    settled_over {n} (at_one i m s e) = record {
      always = λ w h. over_has (λ i. at_value d i w) 0 n i (omega arith) (omega arith) ((settled_more v i s).always w h ∙ e)
          ∙ sym (over_has (λ i. at_value d i v) 0 n i (omega arith) (omega arith) e);
    }

    -- the first values decide
    pub over_decided : {n m set : ℕ} → n ≤ m → over join unit 0 n (λ i. at_value d i v) ≡ z → SettledOver z n set v d
        → SettledOver z m set v d
    over_decided {n} l e (at_each f) =
        let one = deciding (λ i. at_value d i v) 0 n e in
        at_one one.value (omega (arith, one.high)) (f one.value (omega (arith, one.high))) one.is
    over_decided l e (at_one i h s q) = at_one i (omega arith) s q

module _ {A : Type 0} {z : A} {v : List ℕ} {d : List ℕ → A} where
  -- the first value
  pub over_one : {set : ℕ} → Settled set (v ++ (0 ∷ [])) d → SettledOver z 1 set v d
  over_one s = at_each (λ i m. let e : i ≡ 0 = omega arith in rw e s)

  -- by a larger set
  pub over_first : (b : ℕ) {n set : ℕ} → SettledOver z n set v d → SettledOver z n (both set b) v d
  over_first b (at_each f) = at_each (λ i h. settled_first b (f i h))
  over_first b (at_one i h s e) = at_one i h (settled_first b s) e

  -- one more
  pub over_more : {a b n : ℕ} → SettledOver z n a v d → Settled b (v ++ (n ∷ [])) d → SettledOver z (n + 1) (both a b) v d
  over_more {b = b} (at_one i h s e) g = at_one i (omega arith) (settled_first b s) e
  over_more {a} {b} {n} (at_each f) g = at_each (λ i h. elim (dec_lt i n) [
    | yes m ↦ settled_first b (f i m)
    | no m ↦ let e : i ≡ n = omega arith in rw e (settled_second a g)
  ])

  -- the variable was not looked at: at every value it is as at the first
  module _ {n set : ℕ} (some : 0 < n) (none : looks_at set (length v) ≡ false) where
    pub one_for_all : SettledOver z n set v d → (i : ℕ) → at_value d i v ≡ at_value d 0 v
    one_for_all (at_each f) i = same_value v 0 (f 0 some) none i
    one_for_all (at_one j h t e) i = same_value v j t none i ∙ sym (same_value v j t none 0)

    pub over_all : {m : ℕ} → SettledOver z n set v d → SettledOver z m set v d
    over_all (at_each f) = at_each (λ i h. settled_any v 0 (f 0 some) none i)
    over_all (at_one j h t e) = at_each (λ i h. settled_any v j t none i)
