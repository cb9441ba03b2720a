-- LAWS for the loops over a row's eight words: what the words passed have shown, and what the words written have made.
-- All is said word by word: number w * 64 + m of a set is digit m of its word w.
use mathlib.Core.Path.{◌≡◌, refl, sym, ap, ◌∙◌, fun_ext}
use mathlib.Core.Bool.{Bool, true, false, not, ◌&&◌, ◌||◌, beq, or-true, or-false}
use mathlib.Core.List.{List, [], ◌∷◌}
use Prim.Native.Nat.{ℕ, suc, ◌+◌, ◌-◌, ◌*◌, ◌/◌, ◌%◌, ◌^◌, ◌<◌, ◌≤◌}
use native.Mathlib.Decide.{ℕ_discrete, dec_lt}
use native.Mathlib.Omega.{arith}
use lib.Bits.{bit_and, bit_or}
use lib.Count.{count_leading_zeros, leading_top}
use lib.ListN.{length, get_or, set, length-set}
use lib.Seq.{get_or-set_same, get_or-set_other}
use borrow.Author.Tests.{eq-eqb, ne_eqb, lt-ltb, le-ltb}
use Rattle.truth.specs.Bits.{bit_of, updated}
use Rattle.truth.specs.Rows.{row_of, unlike, unlike_in, joined, last_below, replaced, LastOf}
use Rattle.std.specs.Prelude.{Some, None}
use Rattle.truth.proofs.Bits.{bit_at, bit_past}
use Rattle.truth.proofs.RowLaws.{row_past, last_zero, last_skip, last_is, last_nowhere}
use Rattle.truth.proofs.Flips.{word_updated}
use Rattle.truth.proofs.Digits.{lit, op_lit, and_digits, or_digits, not_lit, pow_same, pow_other, lit_above, lit_top}

-- ---- the words of a set
-- r is word w of the set f
pub record Word (f : ℕ → Bool) (w r : ℕ) : Type 0 where
  pub told : (m : ℕ) → m < 64 → f (w * 64 + m) ≡ lit r m

-- eight words are the set whose words they are
pub by_words : (ws : List ℕ) (f : ℕ → Bool) → length ws ≡ 8 → ((w : ℕ) → w < 8 → Word f w (get_or ws w 0))
    → ((k : ℕ) → 512 ≤ k → f k ≡ false) → bit_of ws ≡ f
by_words ws f n each past = fun_ext λ k. elim (dec_lt k 512) [
  | yes l ↦ let e : k / 64 * 64 + k % 64 ≡ k = omega arith in
      let h : k % 64 < 64 = omega arith in
      ap (bit_of ws) (sym e) ∙ bit_at ws (k / 64) (k % 64) h
      ∙ sym ((each (k / 64) (omega arith)).told (k % 64) h) ∙ ap f e
  | no g ↦ bit_past ws k (omega arith) ∙ sym (past k (omega arith))
]

row_word : (ws : List ℕ) (i w : ℕ) → w < 8 → Word (row_of ws i) w (get_or ws (i * 8 + w) 0)
unfolding row_of
row_word ws i w l = record {
  told = λ m h. let e : i * 512 + (w * 64 + m) ≡ (i * 8 + w) * 64 + m = omega arith in
      rw (lt-ltb (w * 64 + m) 512 (omega arith), e) (bit_at ws (i * 8 + w) m h);
}

-- ---- one word at which another is not b
one_word : (w m : ℕ) → m < 64 → bit_of (w ∷ []) m ≡ lit w m
one_word w m h = let e : 0 * 64 + m ≡ m = omega arith in ap (bit_of (w ∷ [])) (sym e) ∙ bit_at (w ∷ []) 0 m h

-- `unlike` as a set of one word
abbrev pub UnlikeWord : (word other : ℕ) → Bool → ℕ → Type 0
UnlikeWord word other b r = bit_of (r ∷ []) ≡ unlike_in (bit_of (word ∷ [])) (bit_of (other ∷ [])) b

unlike_told : (word other r : ℕ) (b : Bool) → ((m : ℕ) → m < 64 → lit r m ≡ lit word m && unlike (lit other) b m)
    → UnlikeWord word other b r
unfolding unlike_in
unlike_told word other r b each = fun_ext λ m. elim (dec_lt m 64) [
  | yes l ↦ rw (one_word r m l, one_word word m l, one_word other m l) (each m l)
  | no g ↦ let past : (w : ℕ) → bit_of (w ∷ []) m ≡ false = λ w. bit_past (w ∷ []) m (omega arith) in
      rw (past r, past word) refl
]

beq_true : (x : Bool) → x ≡ beq x true
beq_true true = refl
beq_true false = refl

beq_false : (x : Bool) → x ≡ not (beq x false)
beq_false true = refl
beq_false false = refl

-- `word & !other` and `word & other`
pub unlike_true : (word other : ℕ) → other < 2 ^ 64 → UnlikeWord word other true (bit_and word ((2 ^ 64 - 1) - other))
unlike_true word other h =
    unlike_told word other _ true (λ m l. op_lit and_digits word ((2 ^ 64 - 1) - other) m
    ∙ ap (λ (x : Bool). lit word m && x) (not_lit other m h l ∙ ap not (beq_true (lit other m))))

pub unlike_false : (word other : ℕ) → UnlikeWord word other false (bit_and word other)
unlike_false word other =
    unlike_told word other _ false (λ m l. op_lit and_digits word other m
    ∙ ap (λ (x : Bool). lit word m && x) (beq_false (lit other m)))

-- the same of word w of a row and of word w of a set
pub word_unlike : (ws t : List ℕ) (i w : ℕ) (b : Bool) (x r : ℕ) → w < 8 → x ≡ get_or ws (i * 8 + w) 0
    → UnlikeWord x (get_or t w 0) b r → Word (unlike_in (row_of ws i) (bit_of t) b) w r
unfolding unlike_in
word_unlike ws t i w b x r l e u = record {
  told = λ m h.
      rw ((row_word ws i w l).told m h, bit_at t w m h, ← e, ← one_word x m h, ← one_word (get_or t w 0) m h)
      (sym (ap (λ (f : ℕ → Bool). f m) u) ∙ one_word r m h);
}

-- nothing from 512 on
pub joined_past : (d ws : List ℕ) (i : ℕ) (f : ℕ → Bool) (b : Bool) (k : ℕ) → length d ≡ 8 → 512 ≤ k
    → joined (bit_of d) (unlike_in (row_of ws i) f b) k ≡ false
unfolding joined unlike_in row_of
joined_past d ws i f b k n h = rw (bit_past d k (omega arith), le-ltb k 512 h) refl

-- nothing of a row that is not there
pub past_unlike : (ws : List ℕ) (i : ℕ) (f : ℕ → Bool) (b : Bool) (k : ℕ) → length ws ≤ i → unlike_in (row_of ws i) f b k ≡ false
unfolding unlike_in
past_unlike ws i f b k h = rw (row_past ws i k h) refl

-- ---- the last number, looked for from the last word on
-- none of the numbers from w * 64 on is in p
pub record Passed (p : ℕ → Bool) (w : ℕ) : Type 0 where
  pub most : w ≤ 8
  pub same : last_below 512 p ≡ last_below (w * 64) p

pub passed_none : {p : ℕ → Bool} → Passed p 8
passed_none = record { most = omega arith; same = refl }

pub passed_all : {p : ℕ → Bool} {w : ℕ} → Passed p w → w ≤ 0 → LastOf p None
passed_all {p} {w} s h =
    let e : w * 64 ≡ 0 = omega arith in
    record { number = sym (s.same ∙ ap (λ (x : ℕ). last_below x p) e ∙ last_zero p); small = tt }

-- nothing is there
pub none_last : (p : ℕ → Bool) → ((k : ℕ) → k < 512 → p k ≡ false) → LastOf p None
none_last p none = record { number = sym (last_nowhere p 512 none); small = tt }

module _ {p : ℕ → Bool} {w r : ℕ} (s : Passed p w) (some_left : 0 < w) (word : Word p (w - 1) r) where
  one_less : last_below 512 p ≡ last_below ((w - 1) * 64 + 64) p
  one_less = let e : w * 64 ≡ (w - 1) * 64 + 64 = omega arith in s.same ∙ ap (λ (x : ℕ). last_below x p) e

  in_word : (k : ℕ) → (w - 1) * 64 ≤ k → k < (w - 1) * 64 + 64 → p k ≡ lit r (k - (w - 1) * 64)
  in_word k l h =
      let e : (w - 1) * 64 + (k - (w - 1) * 64) ≡ k = omega arith in
      ap p (sym e) ∙ word.told (k - (w - 1) * 64) (omega arith)

  -- a word that is 0 has none; any other has its highest digit
  pub passed_more : r ≡ 0 → Passed p (w - 1)
  passed_more zero_word = record {
    most = omega (arith, s.most);
    same = one_less ∙ last_skip p ((w - 1) * 64) 64 (λ k l h. in_word k l h ∙ ap (λ (x : ℕ). lit x (k - (w - 1) * 64)) zero_word
        ∙ lit_above 0 0 (k - (w - 1) * 64) (omega arith) (omega arith));
  }

  pub passed_top : 0 < r → r < 2 ^ 64 → LastOf p (Some ((w - 1) * 64 + (63 - count_leading_zeros 64 r)))
  passed_top pos fits =
      let top = leading_top 64 r pos fits in
      let j = top.0 in
      let at : 63 - count_leading_zeros 64 r ≡ j = omega (arith, top.1) in
      let small : j < 64 = omega (arith, top.1) in
      rw at (record {
        number = sym (one_less ∙ last_is p ((w - 1) * 64 + j) ((w - 1) * 64 + 64) (omega arith)
            (word.told j small ∙ lit_top r j top.2 top.3)
            (λ k l h. in_word k (omega arith) h ∙ lit_above r (suc j) (k - (w - 1) * 64) top.3 (omega arith)));
        small = omega (arith, s.most);
      })

pub leading_small : (r : ℕ) → 0 < r → r < 2 ^ 64 → count_leading_zeros 64 r ≤ 63
leading_small r pos fits = let top = leading_top 64 r pos fits in omega (arith, top.1)

-- ---- words written one after the other
-- the words of s₀ at from .. to - 1 are now as P says, and the others are as they were
pub record Filled (P : ℕ → ℕ → Type 0) (s₀ : List ℕ) (from to : ℕ) (s : List ℕ) : Type 0 where
  pub done : (k : ℕ) → from ≤ k → k < to → P k (get_or s k 0)
  pub before : (k : ℕ) → k < from → get_or s k 0 ≡ get_or s₀ k 0
  pub after : (k : ℕ) → to ≤ k → get_or s k 0 ≡ get_or s₀ k 0
  pub size : length s ≡ length s₀

pub fill_none : {P : ℕ → ℕ → Type 0} {s₀ : List ℕ} {from : ℕ} → Filled P s₀ from from s₀
fill_none = record {
  done = λ k l h. absurd (omega arith);
  before = λ k h. refl;
  after = λ k h. refl;
  size = refl;
}

pub fill_more : {P : ℕ → ℕ → Type 0} {s₀ : List ℕ} {from to next : ℕ} {s : List ℕ} → Filled P s₀ from to s
    → from ≤ to → to < length s → (at v : ℕ) → at ≡ to → P to v → next ≡ to + 1 → Filled P s₀ from next (set s at v)
fill_more {P} {to = to} {s = s} f l h at v e here up = record {
  done = λ k a b. elim (ℕ_discrete k to) [
    | yes q ↦ rw (q, e, get_or-set_same s to v 0 h) here
    | no n ↦ rw (e, get_or-set_other s to k v 0 n) (f.done k a (omega arith))
  ];
  before = λ k a. get_or-set_other s at k v 0 (λ q. omega arith) ∙ f.before k a;
  after = λ k a. get_or-set_other s at k v 0 (λ q. omega arith) ∙ f.after k (omega arith);
  size = length-set s at v ∙ f.size;
}

-- a set to which another one is joined word by word
pub word_joined : (d : List ℕ) (p : ℕ → Bool) (w r v : ℕ) → Word p w r → v ≡ bit_or (get_or d w 0) r
    → Word (joined (bit_of d) p) w v
unfolding joined
word_joined d p w r v word e = record {
  told = λ m h. rw (e, bit_at d w m h, word.told m h) (sym (op_lit or_digits (get_or d w 0) r m));
}

pub joined_none : (f p : ℕ → Bool) → ((k : ℕ) → p k ≡ false) → f ≡ joined f p
unfolding joined
joined_none f p none = fun_ext λ k. rw (none k) (sym (or-false (f k)))

-- word k of a list whose row i is the set t
abbrev pub FromRow : List ℕ → ℕ → ℕ → ℕ → Type 0
FromRow t i k v = v ≡ get_or t (k - i * 8) 0

-- a list with the words of a row replaced is the list with that row replaced
pub row_put : (ws t : List ℕ) (i : ℕ) (s : List ℕ) → Filled (FromRow t i) ws (i * 8) (i * 8 + 8) s
    → bit_of s ≡ replaced (bit_of ws) i (bit_of t)
unfolding replaced bit_of
row_put ws t i s f = fun_ext λ n. elim (ℕ_discrete (n / 512) i) [
  | yes e ↦ let w : n % 512 / 64 ≡ n / 64 - i * 8 = omega arith in
      let m : n % 512 % 64 ≡ n % 64 = omega arith in
      rw (eq-eqb (n / 512) i e, w, m) (ap (λ (x : ℕ). lit x (n % 64)) (f.done (n / 64) (omega arith) (omega arith)))
  | no g ↦ rw (ne_eqb (n / 512) i g) (ap (λ (x : ℕ). lit x (n % 64)) (elim (dec_lt (n / 64) (i * 8)) [
    | yes l ↦ f.before (n / 64) l
    | no l ↦ f.after (n / 64) (omega arith)
  ]))
]

-- ---- one bit set
pub marked : (ws : List ℕ) (at : ℕ) → at / 64 < length ws
    → bit_of (set ws (at / 64) (bit_or (get_or ws (at / 64) 0) (2 ^ (at % 64)))) ≡ updated (bit_of ws) at true
marked ws at h =
    let w = get_or ws (at / 64) 0 in
    let k = at % 64 in
    word_updated ws at _ true h
    (op_lit or_digits w (2 ^ k) k ∙ ap (λ (x : Bool). lit w k || x) (pow_same k) ∙ or-true (lit w k))
    (λ m ne. op_lit or_digits w (2 ^ k) m ∙ ap (λ (x : Bool). lit w m || x) (pow_other k m ne) ∙ or-false (lit w m))
