-- Writing where the formula or term at a place ends changes nothing else that is asked for from that place on.
-- What is asked for stands at later places: an end is never before its place.
use Prim.Native.Nat.{ℕ, zero, suc, ◌+◌, ◌-◌, ◌≤◌, ◌<◌, min}
use native.Mathlib.Omega.{arith}
use mathlib.Core.Path.{◌≡◌, refl, sym, ap, ◌∙◌}
use mathlib.Core.List.{List, ◌++◌}
use lib.Dec.{ltb, leb}
use lib.ListN.{length, drop, set, get_or, length-set, length-append, length-drop, get_or-append, get_or-eq_default}
use lib.Seq.{get_or-set_same, get_or-set_other, get_or-append-add, get_or-drop}
use borrow.Author.Tests.{lt-ltb, ltb-true, ltb-false, leb-true, leb-false}
use Rattle.meaning.specs.Logic.{cases}
use Rattle.prepared.specs.Prepared.{byte_at, end_at}
use Rattle.prepared.proofs.Steps.{end_on}
use Rattle.preparing.specs.Ends.{parts_of, width_of, after, parts_end, Clear, Marked}
use Rattle.preparing.proofs.CodeSteps.{width_few}

-- ---- the place after some formulas and terms in a row
module _ (p : List ℕ) where
  after_on : (c m : ℕ) → m ≤ after p c m
  unfolding after
  after_on zero m = omega arith
  after_on (suc c) m = omega (arith, end_on p m, after_on c (end_at p m))

  pub after_turn : (c m : ℕ) → 0 < c → after p (c - 1) (end_at p m) ≡ after p c m
  unfolding after
  after_turn zero m h = absurd (omega arith)
  after_turn (suc c) m h =
      let less : suc c - 1 ≡ c = omega arith in
      rw less refl

-- ---- v is written for the place `at`
module _ (p : List ℕ) (at v : ℕ) (size : length p ≡ 512) (inside : at < 256) where
  abbrev written : List ℕ
  written = set p (256 + at) v

  byte_kept : (i : ℕ) → byte_at written i ≡ byte_at p i
  unfolding byte_at
  byte_kept i =
      cases (ltb i 256)
      (λ h. rw h (get_or-set_other p (256 + at) i v 0 (λ e. omega (arith, ltb-true i 256 h))))
      (λ h. rw h refl)

  end_kept : (i : ℕ) → at < i → end_at written i ≡ end_at p i
  unfolding end_at
  end_kept i l = rw (get_or-set_other p (256 + at) (256 + i) v 0 (λ e. omega arith)) refl

  end_here : end_at written at ≡ at + 1 + v
  unfolding end_at
  end_here = rw (lt-ltb at 256 inside, get_or-set_same p (256 + at) v 0 (omega arith)) refl

  after_kept : (c m : ℕ) → at < m → after written c m ≡ after p c m
  unfolding after
  after_kept zero m h = refl
  after_kept (suc c) m h =
      after_kept c (end_at written m) (omega (arith, end_on written m)) ∙ ap (after p c) (end_kept m h)

module _ {s p : List ℕ} {at : ℕ} (k : Marked s p (at + 1)) (inside : at < length s) (short : length s ≤ 256) where
  -- the parts of a code end past it
  pub parts_past : at < parts_end s p at
  parts_past =
      let code = get_or s at 0 in
      omega (arith, (width_few code).0, after_on p (parts_of code (get_or s (at + 2) 0)) (at + width_of code))

  pub marked_more : {next : ℕ} → next ≡ min (parts_end s p at) 256 → Marked s (set p (256 + at) (next - at - 1)) at
  marked_more {next} h =
      let v = next - at - 1 in
      let q = set p (256 + at) v in
      let within : at < 256 = omega arith in
      let same : (i : ℕ) → at ≤ i → parts_end s q i ≡ parts_end s p i =
      λ i l. after_kept p at v k.size within (parts_of (get_or s i 0) (get_or s (i + 2) 0)) (i + width_of (get_or s i 0))
      (omega (arith, (width_few (get_or s i 0)).0)) in
      record {
        size = length-set p (256 + at) v ∙ k.size;
        bytes = λ i. byte_kept p at v k.size within i ∙ k.bytes i;
        ends = λ i l b. cases (leb i at)
            (λ z. let here : i ≡ at = omega (arith, leb-true i at z) in
            rw here (end_here p at v k.size within ∙ omega (arith, parts_past, same at (omega arith))))
            (λ z. let later = leb-false i at z in
            end_kept p at v k.size within i later ∙ k.ends i (omega arith) b ∙ ap (λ (x : ℕ). min x 256) (sym (same i l)));
      }

-- the end of the parts, as it is found
pub end_found : (s p : List ℕ) (at : ℕ) {code n parts width end next : ℕ} → code ≡ get_or s at 0 → n ≡ get_or s (at + 2) 0
    → parts ≡ parts_of code n → width ≡ width_of code → end ≡ after p parts (at + width) → next ≡ min end 256
    → next ≡ min (parts_end s p at) 256
end_found s p at c n x y e z = z ∙ rw (e, x, y, c, n) refl

-- ---- the bytes of a body are written over zeros
pub marked_none : {s p q : List ℕ} → Clear p 512 → length s ≤ 256 → q ≡ s ++ drop (length s) p → Marked s q (length s)
unfolding byte_at
marked_none {s} {p} k short h = rw h (record {
  size = omega (arith, length-append s (drop (length s) p), length-drop (length s) p, k.size);
  bytes = λ i. cases (ltb i 256) (λ l. rw l (byte i))
      (λ l. rw l (sym (get_or-eq_default s 0 (omega (arith, ltb-false i 256 l)))));
  ends = λ i l b. absurd (omega arith);
})
  where
    byte : (i : ℕ) → get_or (s ++ drop (length s) p) i 0 ≡ get_or s i 0
    byte i =
        cases (ltb i (length s))
        (λ l. get_or-append s (drop (length s) p) 0 i (ltb-true i (length s) l))
        (λ l. let past = ltb-false i (length s) l in
        let n = i - length s in
        let e : i ≡ length s + n = omega arith in
        rw (get_or-eq_default s 0 past) (rw e (get_or-append-add s (drop (length s) p) n 0
        ∙ get_or-drop (length s) p n 0 ∙ k.zeros (length s + n))))
