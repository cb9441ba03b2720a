-- LAWS of rows of sets, for those who use them: the last number of a set, a row with one number more, and a row replaced.
-- A set either has no number below n or has its last one; a row's numbers are the bits of the list from i * 512 on.
use mathlib.Core.Path.{◌≡◌, refl, sym, ap, ◌∙◌, fun_ext}
use mathlib.Core.Logic.{◌⊎◌, inl, inr, ⊎_elim}
use mathlib.Core.Bool.{Bool, true, false, cond, and-false, and-eq-true_iff}
use mathlib.Core.List.{List}
use Prim.Native.Nat.{ℕ, zero, suc, ◌+◌, ◌-◌, ◌*◌, ◌/◌, ◌%◌, ◌<◌, ◌≤◌}
use native.Mathlib.Nat.{add-zero, add-suc}
use native.Mathlib.Decide.{ℕ_discrete, dec_lt}
use native.Mathlib.Omega.{arith}
use lib.Dec.{ltb, eqb}
use lib.ListN.{length}
use borrow.Author.Tests.{eq-eqb, ne_eqb, lt-ltb, le-ltb, le-leb, not-false}
use Rattle.std.specs.Prelude.{Some, None}
use Rattle.meaning.specs.Logic.{cases}
use Rattle.truth.specs.Bits.{bit_of, updated}
use Rattle.truth.specs.Rows.{row_of, unlike, unlike_in, last_below, LastOf, with_bit, with_row, replaced, Becomes}
use Rattle.truth.proofs.Bits.{bit_past, beq_self, beq_eq}

-- ---- the last number
pub last_zero : (p : ℕ → Bool) → last_below 0 p ≡ 512
unfolding last_below
last_zero p = refl

pub last_skip : (p : ℕ → Bool) (n d : ℕ) → ((k : ℕ) → n ≤ k → k < n + d → p k ≡ false) → last_below (n + d) p ≡ last_below n p
unfolding last_below
last_skip p n zero none = rw (add-zero n)
last_skip p n (suc d) none =
    rw (add-suc n d, none (n + d) (omega arith) (omega arith)) (last_skip p n d (λ k l h. none k l (omega arith)))

pub last_nowhere : (p : ℕ → Bool) (n : ℕ) → ((k : ℕ) → k < n → p k ≡ false) → last_below n p ≡ 512
last_nowhere p n none =
    let e : 0 + n ≡ n = omega arith in
    ap (λ (x : ℕ). last_below x p) (sym e) ∙ last_skip p 0 n (λ k l h. none k (omega arith)) ∙ last_zero p

pub last_is : (p : ℕ → Bool) (k n : ℕ) → k < n → p k ≡ true → ((j : ℕ) → k < j → j < n → p j ≡ false) → last_below n p ≡ k
unfolding last_below
last_is p k n l has none =
    let e : suc k + (n - suc k) ≡ n = omega arith in
    ap (λ (x : ℕ). last_below x p) (sym e) ∙ last_skip p (suc k) (n - suc k) (λ j a b. none j a (omega arith)) ∙ rw has refl

-- p has no number below n, or one that is the last
record NoneBelow (p : ℕ → Bool) (n : ℕ) : Type 0 where
  pub last : last_below n p ≡ 512
  pub nowhere : (k : ℕ) → k < n → p k ≡ false

record SomeBelow (p : ℕ → Bool) (n : ℕ) : Type 0 where
  pub small : last_below n p < n
  pub here : p (last_below n p) ≡ true

one_more : (p : ℕ → Bool) (n : ℕ) (b : Bool) → p n ≡ b → NoneBelow p n ⊎ SomeBelow p n → NoneBelow p (suc n) ⊎ SomeBelow p (suc n)
unfolding last_below
one_more p n true e below = inr (record { small = rw e (omega arith); here = rw e e })
one_more p n false e (inl none) = inl (record {
  last = rw e none.last;
  nowhere = λ k l. elim (ℕ_discrete k n) [
    | yes q ↦ rw q e
    | no ne ↦ none.nowhere k (omega arith)
  ];
})
one_more p n false e (inr some) = inr (record { small = rw e (omega (arith, some.small)); here = rw e some.here })

none_or_some : (p : ℕ → Bool) (n : ℕ) → NoneBelow p n ⊎ SomeBelow p n
none_or_some p zero = inl (record { last = last_zero p; nowhere = λ k l. absurd (omega arith) })
none_or_some p (suc n) = one_more p n (p n) refl (none_or_some p n)

pub last_none : (p : ℕ → Bool) (n : ℕ) → last_below n p ≡ 512 → n ≤ 512 → (k : ℕ) → k < n → p k ≡ false
last_none p n e h = ⊎_elim (λ a. a.nowhere) (λ a. absurd (omega (arith, a.small))) (none_or_some p n)

pub last_some : (p : ℕ → Bool) (n r : ℕ) → r ≡ last_below n p → r < 512 → (r < n) × (p r ≡ true)
last_some p n r e l = ⊎_elim (λ a. absurd (omega (arith, a.last))) (λ a. rw e (a.small, a.here)) (none_or_some p n)

pub last_within : (p : ℕ → Bool) (n : ℕ) → n ≤ 512 → last_below n p ≤ 512
last_within p n h = ⊎_elim (λ a. omega (arith, a.last)) (λ a. omega (arith, a.small)) (none_or_some p n)

-- how far a number is from 512, which stands for none
abbrev pub rank : ℕ → ℕ
rank r = (r + 1) % 513

last_rank : (p : ℕ → Bool) (n : ℕ) → n ≤ 512 → rank (last_below n p) ≤ n
last_rank p n h = ⊎_elim (λ a. omega (arith, a.last)) (λ a. omega (arith, a.small)) (none_or_some p n)

-- of a smaller set without the last number of a set the last one is before it
last_smaller : (p q : ℕ → Bool) (n : ℕ) → n ≤ 512 → ((k : ℕ) → p k ≡ false → q k ≡ false)
    → last_below n p < 512 → q (last_below n p) ≡ false → rank (last_below n q) < rank (last_below n p)
unfolding last_below
last_smaller p q zero h less l out = absurd (omega arith)
last_smaller p q (suc n) h less l out = cases (p n)
    (λ t. let gone = rw t at out in rw (t, gone) (omega (arith, last_rank q n (omega arith))))
    (λ f. rw (f, less n f) (last_smaller p q n (omega arith) less (rw f at l) (rw f at out)))

-- ---- the last number r of a set at which f is not b
-- how far it is from none
abbrev pub unlike_left : (set f : ℕ → Bool) → Bool → ℕ
unlike_left set f b = rank (last_below 512 (unlike_in set f b))

-- it is of the set
pub last_member : (set f : ℕ → Bool) (b : Bool) {r : ℕ} → LastOf (unlike_in set f b) (Some r) → set r ≡ true
unfolding unlike_in
last_member set f b {r} last = ((and-eq-true_iff (set r) _).0 (last_some (unlike_in set f b) 512 r last.number last.small).1).0

-- where it gets b, the last one is before it
pub last_falls : (set f : ℕ → Bool) (b : Bool) {r : ℕ} → LastOf (unlike_in set f b) (Some r)
    → unlike_left set (updated f r b) b < unlike_left set f b
unfolding unlike_in updated
last_falls set f b {r} last =
    let e : r ≡ last_below 512 (unlike_in set f b) = last.number in
    let out : unlike (updated f r b) b r ≡ false = rw (eq-eqb r r refl, beq_self b) refl in
    let gone : unlike_in set (updated f r b) b r ≡ false = rw out (and-false (set r)) in
    let less : (k : ℕ) → unlike_in set f b k ≡ false → unlike_in set (updated f r b) b k ≡ false = λ k o. cases (eqb k r)
    (λ t. rw (t, beq_self b) (and-false (set k))) (λ d. rw d o) in
    let falls = last_smaller (unlike_in set f b) (unlike_in set (updated f r b) b) 512 (omega arith) less in
    falls (omega (arith, e, last.small)) (rw (← e) gone)

-- where there is none, f is b at each number of the set
pub none_unlike : (set f : ℕ → Bool) (b : Bool) → LastOf (unlike_in set f b) None → (k : ℕ) → k < 512 → set k ≡ true
    → f k ≡ b
unfolding unlike_in
none_unlike set f b last k l t =
    beq_eq (f k) b (not-false _ (rw t at (last_none (unlike_in set f b) 512 (sym last.number) (omega arith) k l)))

-- ---- rows
-- a row that begins past the last word has nothing in it
pub row_past : (ws : List ℕ) (i k : ℕ) → length ws ≤ i → row_of ws i k ≡ false
unfolding row_of
row_past ws i k h = rw (bit_past ws (i * 512 + k) (omega arith)) (and-false (ltb k 512))

-- the rows of a list after one of them became another set
pub record RowIs (entry exit : List ℕ) (i : ℕ) (set : ℕ → Bool) : Type 0 where
  pub here : row_of exit i ≡ set
  pub others : (j : ℕ) → (j ≡ i → ⊥) → row_of exit j ≡ row_of entry j

pub rows_then : {entry exit : List ℕ} {i : ℕ} {set : ℕ → Bool} → RowIs entry exit i set
    → (j : ℕ) → row_of exit j ≡ cond (eqb j i) set (row_of entry j)
rows_then {i = i} r j = elim (ℕ_discrete j i) [
  | yes e ↦ rw (e, eq-eqb i i refl) r.here
  | no ne ↦ rw (ne_eqb j i ne) (r.others j ne)
]

pub row_end : (ws : List ℕ) (i k : ℕ) → 512 ≤ k → row_of ws i k ≡ false
unfolding row_of
row_end ws i k h = rw (le-ltb k 512 h) refl

pub row_bit : (ws : List ℕ) (i k : ℕ) → k < 512 → row_of ws i k ≡ bit_of ws (i * 512 + k)
unfolding row_of
row_bit ws i k h = rw (lt-ltb k 512 h) refl

-- a row is a set that has its bits below 512 and nothing from there on
row_ext : (ws : List ℕ) (i : ℕ) (f : ℕ → Bool) → ((k : ℕ) → 512 ≤ k → f k ≡ false)
    → ((k : ℕ) → k < 512 → bit_of ws (i * 512 + k) ≡ f k) → row_of ws i ≡ f
row_ext ws i f past below = fun_ext λ k. elim (dec_lt k 512) [
  | yes l ↦ row_bit ws i k l ∙ below k l
  | no g ↦ row_end ws i k (omega arith) ∙ sym (past k (omega arith))
]

-- the bits of row i are the set's, and the others are as they were
row_is : (entry exit : List ℕ) (i : ℕ) (set : ℕ → Bool) → ((k : ℕ) → 512 ≤ k → set k ≡ false)
    → ((k : ℕ) → k < 512 → bit_of exit (i * 512 + k) ≡ set k)
    → ((n : ℕ) → (n / 512 ≡ i → ⊥) → bit_of exit n ≡ bit_of entry n) → RowIs entry exit i set
row_is entry exit i set past inside outside = record {
  here = row_ext exit i set past inside;
  others = λ j ne. row_ext exit j (row_of entry j) (row_end entry j)
      (λ k l. outside (j * 512 + k) (λ e. ne (omega arith)) ∙ sym (row_bit entry j k l));
}

-- `mark` adds number k to row i
pub row_with_bit : {entry exit : List ℕ} (i k : ℕ) → k < 512 → i * 8 + 8 ≤ length entry
    → Becomes entry exit (with_bit entry (i * 512 + k)) → RowIs entry exit i (updated (row_of entry i) k true)
unfolding updated
row_with_bit {entry} {exit} i k small there b =
    let at = i * 512 + k in
    let e : bit_of exit ≡ updated (bit_of entry) at true = b.bits ∙ rw (lt-ltb (at / 64) (length entry) (omega arith)) refl in
    let same : (n : ℕ) → (n ≡ at → ⊥) → bit_of exit n ≡ bit_of entry n =
    λ n ne. ap (λ (f : ℕ → Bool). f n) e ∙ rw (ne_eqb n at ne) refl in
    row_is entry exit i _ (λ m h. rw (ne_eqb m k (λ q. omega arith)) (row_end entry i m h))
    (λ m l. elim (ℕ_discrete m k) [
      | yes q ↦ rw (q, eq-eqb k k refl) (ap (λ (f : ℕ → Bool). f at) e ∙ rw (eq-eqb at at refl) refl)
      | no ne ↦ rw (ne_eqb m k ne) (same (i * 512 + m) (λ q. ne (omega arith)) ∙ sym (row_bit entry i m l))
    ])
    (λ n ne. same n (λ q. ne (omega arith)))

-- `put_row` makes row i the set
pub row_replaced : {entry exit : List ℕ} (i : ℕ) (t : List ℕ) → length t ≡ 8 → i * 8 + 8 ≤ length entry
    → Becomes entry exit (with_row entry i (bit_of t)) → RowIs entry exit i (bit_of t)
unfolding replaced
row_replaced {entry} {exit} i t eight there b =
    let e : bit_of exit ≡ replaced (bit_of entry) i (bit_of t) = b.bits ∙ rw (le-leb (i * 8 + 8) (length entry) there) refl in
    row_is entry exit i (bit_of t) (λ k h. bit_past t k (omega arith))
    (λ k l. let q : (i * 512 + k) / 512 ≡ i = omega arith in
    let m : (i * 512 + k) % 512 ≡ k = omega arith in
    ap (λ (f : ℕ → Bool). f (i * 512 + k)) e ∙ rw (q, m, eq-eqb i i refl) refl)
    (λ n ne. ap (λ (f : ℕ → Bool). f n) e ∙ rw (ne_eqb (n / 512) i ne) refl)
