-- The signatures of some equations as bytes, and read back.
-- Byte j is byte j % 5 of equation j / 5; four ranges and their number make the signature again.
use Prim.Native.Nat.{ℕ, zero, suc, ◌+◌, ◌*◌, ◌/◌, ◌%◌, ◌≤◌, ◌<◌, min}
use native.Mathlib.Omega.{arith}
use native.Mathlib.Decide.{ℕ_discrete}
use mathlib.Core.Path.{◌≡◌, refl, sym, ap, ◌∙◌}
use mathlib.Core.List.{List, [], map}
use borrow.Author.Tests.{lt-ltb}
use lib.Dec.{leb}
use lib.ListN.{length, length-set, get_or, take, set, replicate, length-take}
use lib.Seq.{get_or-take, get_or-set_same, get_or-set_other, ext_get_or}
use Rattle.formulas.specs.declared.Equation.{Equation}
use Rattle.formulas.specs.Bodies.{blank, ranges_of, signatures_of}
use Rattle.formulas.specs.Contract.{signature_byte, part, signature_in, signatures_from, signatures_in}
use Rattle.formulas.proofs.Bodies.{take_most, signatures_length, signature_at}

-- ---- reading back
module _ (table : List ℕ) where
  pub part_length : (j c : ℕ) → length (part table j c) ≡ c
  unfolding part
  part_length j zero = refl
  part_length j (suc c) = ap suc (part_length (j + 1) c)

  pub part_at : (j c i : ℕ) → i < c → get_or (part table j c) i 0 ≡ get_or table (j + i) 0
  unfolding part
  part_at j zero i h = absurd (omega arith)
  part_at j (suc c) zero h = ap (λ (x : ℕ). get_or table x 0) (omega arith)
  part_at j (suc c) (suc i) h = part_at (j + 1) c i (omega arith) ∙ ap (λ (x : ℕ). get_or table x 0) (omega arith)

  from_length : (x n : ℕ) → length (signatures_from table x n) ≡ n
  unfolding signatures_from
  from_length x zero = refl
  from_length x (suc n) = ap suc (from_length (x + 1) n)

  from_at : (x n i : ℕ) → i < n → get_or (signatures_from table x n) i [] ≡ signature_in table (x + i)
  unfolding signatures_from
  from_at x zero i h = absurd (omega arith)
  from_at x (suc n) zero h = ap (signature_in table) (omega arith)
  from_at x (suc n) (suc i) h = from_at (x + 1) n i (omega arith) ∙ ap (signature_in table) (omega arith)

  pub known_length : length (signatures_in table) ≡ get_or table 40 0
  known_length = from_length 0 (get_or table 40 0)

  pub known_at : (x : ℕ) → x < get_or table 40 0 → get_or (signatures_in table) x [] ≡ signature_in table x
  known_at x h = from_at 0 (get_or table 40 0) x h ∙ ap (signature_in table) (omega arith)

-- ---- writing
module _ (equations : List Equation) (count : ℕ) where
  pub record Signing (table : List ℕ) (j : ℕ) : Type 0 where
    pub near : j ≤ 40
    pub whole : length table ≡ 41
    pub last : get_or table 40 0 ≡ min count 8
    pub put : (i : ℕ) → i < j → get_or table i 0 ≡ signature_byte (get_or equations (i / 5) blank) (i % 5)
    pub four : (i : ℕ) → i < j → length (get_or equations (i / 5) blank).ranges ≡ 4

  pub signing_start : {w : ℕ} → w ≡ min count 8 → Signing (set (replicate 41 0) 40 w) 0
  signing_start q = record {
    near = omega arith;
    whole = refl;
    last = q;
    put = λ i h. absurd (omega arith);
    four = λ i h. absurd (omega arith);
  }

  pub signing_more : {table : List ℕ} {j b : ℕ} → j < 40
      → (b ≡ signature_byte (get_or equations (j / 5) blank) (j % 5)) × (length (get_or equations (j / 5) blank).ranges ≡ 4)
      → Signing table j → Signing (set table j b) (j + 1)
  signing_more {table} {j} {b} l q s = record {
    near = omega arith;
    whole = length-set table j b ∙ s.whole;
    last = get_or-set_other table j 40 b 0 (λ e. absurd (omega (arith, e))) ∙ s.last;
    put = λ i m. elim (ℕ_discrete i j) [
      | yes e ↦ rw e (get_or-set_same table j b 0 (omega (arith, s.whole)) ∙ q.0)
      | no d ↦ get_or-set_other table j i b 0 d ∙ s.put i (omega arith)
    ];
    four = λ i m. elim (ℕ_discrete i j) [ yes e ↦ rw e q.1 | no d ↦ s.four i (omega arith) ];
  }

  module _ {table : List ℕ} {j : ℕ} (s : Signing table j) (done : 40 ≤ j) (eight : length equations ≡ 8) where
    four_of : (x : ℕ) → x < 8 → length (get_or equations x blank).ranges ≡ 4
    four_of x l = let q : (5 * x) / 5 ≡ x = omega arith in rw q at (s.four (5 * x) (omega arith))

    number_of : (x : ℕ) → x < 8 → get_or table (5 * x + 4) 0 ≡ min (get_or equations x blank).k 4
    number_of x l =
        let q : (5 * x + 4) / 5 ≡ x = omega arith in
        let r : (5 * x + 4) % 5 ≡ 4 = omega arith in
        rw (q, r) at (s.put (5 * x + 4) (omega arith))

    range_at : (x i : ℕ) → x < 8 → i < 4 → get_or table (5 * x + i) 0 ≡ get_or (get_or equations x blank).ranges i 0
    range_at x i l m =
        let q : (5 * x + i) / 5 ≡ x = omega arith in
        let r : (5 * x + i) % 5 ≡ i = omega arith in
        rw (lt-ltb i 4 m) at (rw (q, r) at (s.put (5 * x + i) (omega arith)))

    written : (x : ℕ) → x < 8 → signature_in table x ≡ ranges_of (get_or equations x blank)
    written x l =
        let e = get_or equations x blank in
        rw (number_of x l) (ext_get_or 0 (part table (5 * x) (min e.k 4)) (take e.k e.ranges)
        (part_length table (5 * x) (min e.k 4) ∙ sym (length-take e.k e.ranges ∙ ap (min e.k) (four_of x l)))
        (λ i h.
        let m : i < min e.k 4 = rw (← part_length table (5 * x) (min e.k 4)) h in
        part_at table (5 * x) (min e.k 4) i m ∙ range_at x i l (omega arith) ∙
        sym (get_or-take e.k e.ranges i 0 (omega arith))))

    pub signed : signatures_in table ≡ signatures_of equations count
    signed =
        let n : length (signatures_in table) ≡ min count 8 = known_length table ∙ s.last in
        let m : signatures_of equations (min count 8) ≡ signatures_of equations count =
        ap (map ranges_of) (take_most equations count 8 eight (leb count 8) refl) in
        ext_get_or [] (signatures_in table) (signatures_of equations (min count 8))
        (n ∙ sym (signatures_length equations (min count 8) (omega (arith, eight))))
        (λ x h.
        let l : x < min count 8 = rw (← n) h in
        known_at table x (rw s.last l) ∙ written x (omega arith) ∙
        sym (signature_at equations (min count 8) x l)) ∙ m
