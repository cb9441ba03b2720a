-- Bytes put one part after another are put as both in a row.
-- Where the first part had no room, the count is past 256, and nothing has room any more.
use Prim.Native.Nat.{ℕ, ◌+◌, ◌≤◌, ◌<◌}
use native.Mathlib.Omega.{arith}
use mathlib.Core.Path.{◌≡◌, refl, sym, ap, ◌∙◌}
use mathlib.Core.Bool.{Bool, true, false, false≢true}
use mathlib.Core.List.{List, [], ◌∷◌, ◌++◌}
use lib.Dec.{leb}
use lib.ListN.{length, set, length-append, length-set}
use lib.Seq.{sets}
use borrow.Author.Tests.{leb-true, leb-false}
use Rattle.meaning.specs.Logic.{◌and◌, cases}
use Rattle.frames.proofs.Stores.{sets_append}
use Rattle.sides.specs.Emitted.{Emits, Grows, Puts}

-- ---- nothing put, and no room
pub emits_none : {out : List ℕ} {count : ℕ} → count ≤ 257 → Emits true [] out count out count
emits_none h = record {
  put = λ t l. (omega arith, refl);
  over = λ g. let past = g refl in omega arith;
}

-- the frame is full already
pub emits_full : {fits : Bool} {w out left : List ℕ} {count r : ℕ} → 256 < count → r ≡ 257
    → Emits fits w out count left r
emits_full h e = record { put = λ t l. absurd (omega arith); over = λ g. e }

-- a fifth quantifier is in them
pub emits_fifth : {fits : Bool} {w out left : List ℕ} {count r : ℕ} → fits ≡ false → r ≡ 257
    → Emits fits w out count left r
emits_fifth f e = record { put = λ t l. absurd (false≢true (sym f ∙ t)); over = λ g. e }

-- ---- other words for the bytes, and for whether they fit
module _ {fits : Bool} {u w out left : List ℕ} {count r : ℕ} where
  pub emits_as : u ≡ w → Emits fits u out count left r → Emits fits w out count left r
  emits_as e p = rw (← e) p

module _ {a b : Bool} {w out left : List ℕ} {count r : ℕ} where
  pub emits_fits : a ≡ b → Emits a w out count left r → Emits b w out count left r
  emits_fits e p = rw (← e) p

-- ---- one part after another
both_true : (a b : Bool) → (a and b) ≡ true → (a ≡ true) × (b ≡ true)
unfolding ◌and◌
both_true true b e = (refl, e)
both_true false b e = absurd (false≢true e)

true_both : (a b : Bool) → a ≡ true → b ≡ true → (a and b) ≡ true
unfolding ◌and◌
true_both true b e f = f
true_both false b e f = absurd (false≢true e)

module _ {a b : Bool} {u w out between left : List ℕ} {count c r : ℕ} where
  pub emits_then : Emits a u out count between c → Emits b w between c left r
      → Emits (a and b) (u ++ w) out count left r
  emits_then p q = record { put = both_put; over = both_over }
    where
      sum : length (u ++ w) ≡ length u + length w
      sum = length-append u w

      both_put : (a and b) ≡ true → count + length (u ++ w) ≤ 256
          → (r ≡ count + length (u ++ w)) × (left ≡ sets out count (u ++ w))
      both_put t l =
          let ts = both_true a b t in
          let x = p.put ts.0 (omega (arith, sum)) in
          let y = q.put ts.1 (omega (arith, sum, x.0)) in (
            omega (arith, sum, x.0, y.0),
            y.1
                ∙ ap (λ (m : List ℕ). sets m c w) x.1
                ∙ ap (λ (n : ℕ). sets (sets out count u) n w) x.0
                ∙ sym (sets_append out count u w),
          )

      past : c ≡ 257 → r ≡ 257
      past e = q.over (λ t. omega arith)

      within : ((a and b) ≡ true → 256 < count + length (u ++ w)) → a ≡ true → count + length u ≤ 256 → r ≡ 257
      within g t l =
          let x = p.put t l in
          q.over (λ s. let over = g (true_both a b t s) in omega (arith, sum, x.0))

      both_over : ((a and b) ≡ true → 256 < count + length (u ++ w)) → r ≡ 257
      both_over g = cases a
          (λ t. cases (leb (count + length u) 256)
          (λ l. within g t (leb-true _ 256 l))
          (λ l. past (p.over (λ _. leb-false _ 256 l))))
          (λ f. past (p.over (λ t. absurd (false≢true (sym f ∙ t)))))

-- the first part without a quantifier
module _ {b : Bool} {u w out between left : List ℕ} {count c r : ℕ} where
  pub emits_next : Emits true u out count between c → Emits b w between c left r → Emits b (u ++ w) out count left r
  unfolding ◌and◌
  emits_next p q = emits_then p q

-- ---- growing
module _ {out between left : List ℕ} {count c r : ℕ} where
  pub grows_then : Grows out count between c → Grows between c left r → Grows out count left r
  grows_then p q = record {
    size = q.size ∙ p.size;
    more = λ h. let first = p.more h in cases (leb c 256)
        (λ l. let second = q.more (leb-true c 256 l) in omega arith)
        (λ l. let second = q.full (leb-false c 256 l) in omega arith);
    full = λ h. let first = p.full h in q.full (omega arith);
    most = q.most;
  }

-- the count never falls
module _ {out left : List ℕ} {count r : ℕ} where
  pub grows_on : Grows out count left r → count ≤ 257 → (count ≤ r) × (r ≤ 257)
  grows_on p h = (
    cases (leb count 256)
        (λ l. let more = p.more (leb-true count 256 l) in omega arith)
        (λ l. let full = p.full (leb-false count 256 l) in omega arith),
    p.most,
  )

module _ {b : Bool} {u w out between left : List ℕ} {count c r : ℕ} where
  pub puts_next : Puts true u out count between c → Puts b w between c left r → Puts b (u ++ w) out count left r
  puts_next p q = (grows_then p.0 q.0, emits_next p.1 q.1)

-- ---- one byte
pub puts_byte : (out : List ℕ) (count b : ℕ) → count < 256 → Puts true (b ∷ []) out count (set out count b) (count + 1)
puts_byte out count b h = (
  record { size = length-set out count b; more = λ l. omega arith; full = λ g. absurd (omega arith); most = omega arith },
  record { put = λ t l. (omega arith, refl); over = λ g. let past = g refl in absurd (omega arith) },
)

-- into a frame that is full
pub puts_full : {fits : Bool} {w out : List ℕ} {count : ℕ} → 256 ≤ count → 1 ≤ length w → Puts fits w out count out 257
puts_full h some = (
  record { size = refl; more = λ l. omega arith; full = λ g. refl; most = omega arith },
  record { put = λ t l. absurd (omega arith); over = λ g. refl },
)
