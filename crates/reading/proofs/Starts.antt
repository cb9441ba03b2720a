-- The four ranges of a head, and a start's arguments below the ranges of its equation.
-- The four tests of the code are the tests on lists, computed for each number of parameters.
use Prim.Native.Nat.{ℕ, zero, suc, ◌+◌, ◌≤◌, ◌<◌, min}
use native.Mathlib.Omega.{arith}
use mathlib.Core.Path.{◌≡◌, refl, sym, ap, ◌∙◌}
use mathlib.Core.Bool.{Bool, true, false, ◌&&◌, and-false}
use mathlib.Core.List.{List, [], ◌∷◌}
use lib.Dec.{ltb, leb}
use lib.ListN.{length, get_or, take, length-take}
use borrow.Author.Tests.{le-leb, leb-true, lt-ltb, le-ltb}
use Rattle.std.specs.Bool.{MatchBool}
use Rattle.std.specs.List.{AllWithin, HoldsAt, list_all, range_with_len}
use Rattle.meaning.specs.Logic.{◌and◌, eq→Is, cases}
use Rattle.meaning.proofs.Typed.{within_length}
use Rattle.meaning.specs.Ranges.{is_range, all_ranges, within, typed}
use Rattle.formulas.specs.Bodies.{blank, ranges_of}
use Rattle.formulas.proofs.Bodies.{take_most, signatures_length, signature_at}
use Rattle.reading.specs.Contract.{is_start}
use Rattle.reading.specs.Records.{ModelRecord}

-- ---- the ranges of a head
each_range : (s : List ℕ) → AllWithin (λ r. is_range r ≡ true) s 0 (length s) → all_ranges s ≡ true
unfolding all_ranges ◌and◌
each_range [] h = refl
each_range (r ∷ s) h =
    rw (h 0 0 (omega arith) (omega arith), each_range s (λ k d l m. h (suc k) d (omega arith) (omega arith))) refl

no_range : (s : List ℕ) (k : ℕ) → k < length s → HoldsAt (λ r. is_range r ≡ false) s k → all_ranges s ≡ false
unfolding all_ranges ◌and◌
no_range [] k l h = absurd (omega arith)
no_range (r ∷ s) zero l h = rw (h 0) refl
no_range (r ∷ s) (suc k) l h = rw (no_range s k (omega arith) h) (and-false (is_range r))

pub ranges_said : (b : Bool) (s : List ℕ) → MatchBool b (AllWithin (λ r. is_range r ≡ true) s 0 (length s))
    ((k : ℕ) × (k < length s) × HoldsAt (λ r. is_range r ≡ false) s k) → b ≡ all_ranges s
ranges_said true s h = sym (each_range s h)
ranges_said false s h = sym (no_range s h.0 h.1 h.2)

-- ---- the arguments of a start: the first n of some, below the first n ranges or not
abbrev pub below_at : List ℕ → List ℕ → ℕ → Bool
below_at x rs i = ltb (get_or x i 0) (get_or rs i 0)

both : (b : Bool) {x y : Bool} → x ≡ y → b && x ≡ b and y
unfolding ◌and◌
both true e = e
both false e = refl

behind_first : (a r : ℕ) (x rs : List ℕ) (i j n : ℕ) → j ≡ suc i
    → list_all (below_at (a ∷ x) (r ∷ rs)) (range_with_len j n) ≡ list_all (below_at x rs) (range_with_len i n)
behind_first a r x rs i j zero e = refl
behind_first a r x rs i j (suc n) e =
    rw e (ap (λ b. below_at x rs i && b) (behind_first a r x rs (i + 1) (suc i + 1) n (omega arith)))

each_below : (x rs : List ℕ) (n : ℕ) → n ≤ length x → n ≤ length rs
    → list_all (below_at x rs) (range_with_len 0 n) ≡ within (take n x) (take n rs)
unfolding within
each_below x rs zero p q = refl
each_below [] rs (suc n) p q = absurd (omega arith)
each_below (a ∷ x) [] (suc n) p q = absurd (omega arith)
each_below (a ∷ x) (r ∷ rs) (suc n) p q =
    both (ltb a r) (behind_first a r x rs 0 1 n refl ∙ each_below x rs n (omega arith) (omega arith))

pub other_length : (x rs : List ℕ) → (length x ≡ length rs → ⊥) → within x rs ≡ false
other_length x rs h = cases (within x rs) (λ e. absurd (h (within_length x rs (eq→Is e)))) (λ e. e)

-- n arguments, of which the first four are x, for k parameters, of which the first four have the ranges rs
module _ (n k m : ℕ) (x rs : List ℕ) (hx : length x ≡ 4) (hr : length rs ≡ 4) (e : m ≡ min k 4) where
  pub wrong_number : (n ≡ m → ⊥) → false ≡ leb n 4 && within (take n x) (take k rs)
  wrong_number h = sym (cases (leb n 4) (λ l. rw l (other_length (take n x) (take k rs) (λ q. h
      (omega (arith, leb-true n 4 l, length-take n x, length-take k rs, q, hx, hr, e))))) (λ l. rw l refl))

  module _ (same : n ≡ m) where
    of_these : leb n 4 && within (take n x) (take k rs) ≡ within (take m x) (take m rs)
    of_these = rw (same, le-leb m 4 (omega (arith, e)), ← take_most rs k 4 hr (leb k 4) refl, ← e) refl

    pub all_below : list_all (below_at x rs) (range_with_len 0 m) ≡ leb n 4 && within (take n x) (take k rs)
    all_below = each_below x rs m (omega (arith, hx, e)) (omega (arith, hr, e)) ∙ sym of_these

-- the start's equation
module _ (m : ModelRecord) (l : m.count ≤ length m.equations) {i : ℕ} (e : i ≡ m.start.equation) where
  pub start_unnamed : m.count ≤ i → false ≡ is_start m
  unfolding is_start typed ◌and◌
  start_unnamed h = rw (signatures_length m.equations m.count l, ← e, le-ltb i m.count h)
      (sym (and-false (leb m.start.count 4)))

  pub start_named : {r : Bool} → i < m.count
      → r ≡ leb m.start.count 4 && within (take m.start.count m.start.arguments)
      (ranges_of (get_or m.equations i blank))
      → r ≡ is_start m
  unfolding is_start typed ◌and◌
  start_named h f =
      rw (signatures_length m.equations m.count l, ← e, lt-ltb i m.count h, signature_at m.equations m.count i h) f
