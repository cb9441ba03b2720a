-- Request 2026-04: `23 r a b` is the one number from 0 to r-1 that differs from a-b by a multiple of r.
-- A number does so exactly where, with b added, it leaves the same remainder by r as a.
use Rattle.std.specs.Prelude.{ℕ, suc, ◌+◌, ◌*◌, ◌-◌, ◌/◌, ◌%◌, ◌<◌, ◌≤◌, ◌≡◌, refl, false, List, ◌⊎◌, ℤ, pos, negsuc, neg_ℤ}
use Rattle.std.specs.Prelude.{nat_abs, ◌+ℤ◌, ◌-ℤ◌, ◌*ℤ◌}
use Rattle.std.proofs.Common.{arith, add-mul, le-mul_of_pos_right, mod-eq_of_lt, eq-zero-or-pos, sym, ap, ◌∙◌, inl, inr}
use Rattle.std.proofs.Math.Nat.{mod-add-div', mod-add-mod, add-mul-mod_self_right, mul-add-mod_self_right}
use Rattle.std.proofs.Math.IntN.{neg_ℤ-+ℤ, neg_ℤ-neg_ℤ, +ℤ_comm, +ℤ_assoc, +ℤ_idl, +ℤ_invr, +ℤ-neg_ℤ_cancel, -ℤ-+ℤ_cancel}
use Rattle.meaning.specs.Formulas.{Term, calculated, sum, difference, value}
use Rattle.meaning.proofs.Calculations.{calculation_below}
use Rattle.meaning.specs.GoesRound.{GoesRound, MultipleOf}

-- computed: 2-3 of range 4, the case of document 01 that changes; 0-15 goes round more than once; 15-0 too
pub values_computed : (difference 4 2 3 ≡ 3) × (difference 4 0 15 ≡ 1) × (difference 7 15 0 ≡ 1)
unfolding difference
values_computed = (refl, refl, refl)

-- THEOREM: b added again, going round as well, gives a back
pub added_again : (r a b : ℕ) → 0 < r → sum r (difference r a b) b ≡ a % r
unfolding sum difference
added_again r a b h =
    let whole : a + b * r - b + b ≡ a + b * r = omega (arith, le-mul_of_pos_right b h) in
    mod-add-mod (a + b * r - b) r b ∙ ap (λ n. n % r) whole ∙ add-mul-mod_self_right a b r

-- THEOREM: of no other number below r
pub only_added_again : (r a b d : ℕ) → d < r → sum r d b ≡ a % r → d ≡ difference r a b
unfolding sum difference
only_added_again r a b d below again =
    let rest = b * r - b in
    let of_d : d + b * r ≡ d + b + rest = omega (arith, le-mul_of_pos_right {m = r} b (omega arith)) in
    let of_a : a + rest ≡ a + b * r - b = omega (arith, le-mul_of_pos_right {m = r} b (omega arith)) in
    sym (mod-eq_of_lt below) ∙ sym (add-mul-mod_self_right d b r) ∙ ap (λ n. n % r) of_d ∙
    sym (mod-add-mod (d + b) r rest) ∙ ap (λ n. (n + rest) % r) again ∙ mod-add-mod a r rest ∙
    ap (λ n. n % r) of_a

-- THEOREM: where b is not greater than a it is the remainder of a-b, as before this request
pub not_below_zero : (r a b : ℕ) → b ≤ a → difference r a b ≡ (a - b) % r
unfolding difference
not_below_zero r a b h =
    let apart : a + b * r - b ≡ a - b + b * r = omega arith in
    ap (λ n. n % r) apart ∙ add-mul-mod_self_right (a - b) b r

-- x is n ranges above y, or so many below it: x - y is that multiple
above : (r x y n : ℕ) → x ≡ n * r + y → MultipleOf r (pos x -ℤ pos y)
above r x y n h =
    record { times = pos n; equals = ap (λ k. pos k -ℤ pos y) h ∙ +ℤ-neg_ℤ_cancel (pos (n * r)) (pos y) }

less_itself : (x y : ℤ) → x -ℤ (x +ℤ y) ≡ neg_ℤ y
less_itself x y =
    ap (λ k. x +ℤ k) (neg_ℤ-+ℤ x y) ∙ sym (+ℤ_assoc x (neg_ℤ x) (neg_ℤ y)) ∙
    ap (λ k. k +ℤ neg_ℤ y) (+ℤ_invr x) ∙ +ℤ_idl (neg_ℤ y)

beneath : (r x y n : ℕ) → x + suc n * r ≡ y → MultipleOf r (pos x -ℤ pos y)
beneath r x y n h = record {
  times = negsuc n;
  equals = ap (λ k. pos x -ℤ pos k) (sym h) ∙ less_itself (pos x) (pos (suc n * r));
}

-- p times is what it is more often than q times, and q times
parted : (r p q : ℕ) → q ≤ p → p * r ≡ (p - q) * r + q * r
parted r p q h = ap (λ n. n * r) (omega arith) ∙ add-mul (p - q) q r

-- the same remainder by r, and the quotients p and q: x - y is a multiple of r, whichever quotient is greater
by_quotients : (r x y p q : ℕ) → x % r ≡ y % r → x % r + p * r ≡ x → y % r + q * r ≡ y
    → (q - p ≡ 0) ⊎ (0 < q - p) → MultipleOf r (pos x -ℤ pos y)
by_quotients r x y p q same of_x of_y (inl h) =
    let apart = parted r p q (omega arith) in
    above r x y (p - q) (omega (arith, apart, same, of_x, of_y))
by_quotients r x y p q same of_x of_y (inr h) =
    let apart = parted r q p (omega arith) in
    let one_more : suc (q - p - 1) * r ≡ (q - p) * r = ap (λ n. n * r) (omega arith) in
    beneath r x y (q - p - 1) (omega (arith, one_more, apart, same, of_x, of_y))

same_remainder_multiple : (r x y : ℕ) → x % r ≡ y % r → MultipleOf r (pos x -ℤ pos y)
same_remainder_multiple r x y same =
    by_quotients r x y (x / r) (y / r) same (mod-add-div' x r) (mod-add-div' y r)
    (eq-zero-or-pos (y / r - x / r))

-- and the other way: x - y is a multiple of r, then the remainder is the same
multiple_same_remainder : (r x y : ℕ) (n : ℤ) → pos x -ℤ pos y ≡ n *ℤ pos r → x % r ≡ y % r
multiple_same_remainder r x y (pos n) h =
    let back : pos x ≡ pos (n * r) +ℤ pos y = sym (-ℤ-+ℤ_cancel (pos x) (pos y)) ∙ ap (λ k. k +ℤ pos y) h in
    ap (λ k. k % r) (ap nat_abs back) ∙ mul-add-mod_self_right n r y
multiple_same_remainder r x y (negsuc n) h =
    let m = pos (suc n * r) in
    let back : pos x ≡ neg_ℤ m +ℤ pos y = sym (-ℤ-+ℤ_cancel (pos x) (pos y)) ∙ ap (λ k. k +ℤ pos y) h in
    let all : pos x +ℤ m ≡ pos y =
    ap (λ k. k +ℤ m) (back ∙ +ℤ_comm (neg_ℤ m) (pos y)) ∙ -ℤ-+ℤ_cancel (pos y) m in
    sym (add-mul-mod_self_right x (suc n) r) ∙ ap (λ k. k % r) (ap nat_abs all)

-- d - (a - b) is d + b - a
turned : (d a b : ℤ) → d -ℤ (a -ℤ b) ≡ d +ℤ b -ℤ a
turned d a b =
    ap (λ k. d +ℤ k) (neg_ℤ-+ℤ a (neg_ℤ b) ∙ ap (λ k. neg_ℤ a +ℤ k) (neg_ℤ-neg_ℤ b) ∙ +ℤ_comm (neg_ℤ a) b) ∙
    sym (+ℤ_assoc d b (neg_ℤ a))

-- THEOREM: the value of `23 r a b` is such a number
pub goes_round : (r a b : ℕ) → 0 < r → GoesRound r a b (difference r a b)
unfolding sum
goes_round r a b h =
    let d = difference r a b in
    let m = same_remainder_multiple r (d + b) a (added_again r a b h) in
    record {
      below = calculation_below false r a b h;
      differs = record {
        times = m.times;
        equals = turned (pos d) (pos a) (pos b) ∙ m.equals;
      };
    }

-- THEOREM: so is the value of the term, whatever the values v of the variables in reach are
pub value_goes_round : (r : ℕ) (a b : Term) (v : List ℕ) → 0 < r →
    GoesRound r (value a v) (value b v) (value (calculated false r a b) v)
unfolding value
value_goes_round r a b v h = goes_round r (value a v) (value b v) h

-- THEOREM: there is just one such number
pub only_goes_round : (r a b d : ℕ) → GoesRound r a b d → d ≡ difference r a b
unfolding sum
only_goes_round r a b d g =
    let m = g.differs in
    only_added_again r a b d g.below
    (multiple_same_remainder r (d + b) a m.times (sym (turned (pos d) (pos a) (pos b)) ∙ m.equals))
