-- Some bytes, put one by one into an array of 256 zeros.
-- Below the place that is next stands what was put, from it on 0; a byte past the last reads 0 as well.
use Prim.Native.Nat.{ℕ, ◌+◌, ◌-◌, ◌≤◌, ◌<◌, min}
use native.Mathlib.Omega.{arith}
use native.Mathlib.Decide.{ℕ_discrete, dec_lt}
use mathlib.Core.Path.{◌≡◌, sym, ap, ◌∙◌}
use mathlib.Core.List.{List, ◌++◌}
use lib.ListN.{length, length-append, length-set, length-replicate, get_or, take, set, replicate, get_or-replicate}
use lib.ListN.{get_or-append, get_or-eq_default}
use lib.Seq.{length-take-le, take-take, take-append-le, take_all}
use lib.Seq.{get_or-take, get_or-append-add, get_or-set_same, get_or-set_other, ext_get_or}
use Rattle.digits.specs.Digits.{padded}

module _ (bytes : List ℕ) where
  pub record Filling (list : List ℕ) (i : ℕ) : Type 0 where
    pub near : i ≤ min (length bytes) 256
    pub whole : length list ≡ 256
    pub put : (j : ℕ) → j < i → get_or list j 0 ≡ get_or bytes j 0
    pub left : (j : ℕ) → i ≤ j → j < 256 → get_or list j 0 ≡ 0

  pub filling_start : Filling (replicate 256 0) 0
  filling_start = record {
    near = omega arith;
    whole = length-replicate {A = ℕ} 256 0;
    put = λ j l. absurd (omega arith);
    left = λ j _ l. get_or-replicate 256 j 0 0 l;
  }

  pub filling_more : {list : List ℕ} {i b : ℕ} → i < min (length bytes) 256 → b ≡ get_or bytes i 0 → Filling list i
      → Filling (set list i b) (i + 1)
  filling_more {list} {i} {b} l q f = record {
    near = omega arith;
    whole = length-set list i b ∙ f.whole;
    put = λ j m. elim (ℕ_discrete j i) [
      | yes e ↦ rw e (get_or-set_same list i b 0 (omega (arith, f.whole)) ∙ q)
      | no d ↦ get_or-set_other list i j b 0 d ∙ f.put j (omega arith)
    ];
    left = λ j m z. get_or-set_other list i j b 0 (λ e. absurd (omega (arith, e))) ∙ f.left j (omega arith) z;
  }

  past : (j : ℕ) → length bytes ≤ j → get_or bytes j 0 ≡ 0
  past j h = get_or-eq_default bytes 0 {n = j} h

  -- what stands at a place of the bytes with zeros after them
  zeros_after : (i : ℕ) → i < 256 → get_or (bytes ++ replicate 256 0) i 0 ≡ get_or bytes i 0
  zeros_after i m = elim (dec_lt i (length bytes)) [
    | yes h ↦ get_or-append bytes (replicate 256 0) 0 i h
    | no h ↦
        let e : i ≡ length bytes + (i - length bytes) = omega arith in
        ap (λ (x : ℕ). get_or (bytes ++ replicate 256 0) x 0) e ∙
        get_or-append-add bytes (replicate 256 0) (i - length bytes) 0 ∙
        get_or-replicate 256 (i - length bytes) 0 0 (omega arith) ∙ sym (past i (omega arith))
  ]

  pub length_padded : length (padded bytes) ≡ 256
  unfolding padded
  length_padded =
      length-take-le 256 (bytes ++ replicate 256 0)
      (omega (arith, length-append bytes (replicate 256 0), length-replicate {A = ℕ} 256 0))

  at_end : {list : List ℕ} {i : ℕ} → min (length bytes) 256 ≤ i → Filling list i → (j : ℕ) → j < 256
      → get_or list j 0 ≡ get_or bytes j 0
  at_end {list} {i} e f j m = elim (dec_lt j i) [
    | yes h ↦ f.put j h
    | no h ↦ f.left j (omega arith) m ∙ sym (past j (omega arith))
  ]

  pub all_filled : {list : List ℕ} {i : ℕ} → min (length bytes) 256 ≤ i → Filling list i → list ≡ padded bytes
  unfolding padded
  all_filled {list} {i} e f =
      ext_get_or 0 list (padded bytes) (f.whole ∙ sym length_padded) (λ j m.
      let l : j < 256 = omega (arith, f.whole) in
      at_end e f j l ∙ sym (get_or-take 256 (bytes ++ replicate 256 0) j 0 l ∙ zeros_after j l))

  -- bytes that have place in 256 are the first of them
  pub padded_first : length bytes ≤ 256 → take (length bytes) (padded bytes) ≡ bytes
  unfolding padded
  padded_first l =
      take-take (length bytes) 256 (bytes ++ replicate 256 0) l ∙
      take-append-le (length bytes) bytes (replicate 256 0) (omega arith) ∙
      take_all (length bytes) bytes (omega arith)
