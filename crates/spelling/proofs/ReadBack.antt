-- THEOREM: a sound formula that stands at a place as it is spelled is read there as that formula, to its end;
-- and the frame of an equation gives the equation back.
-- Each code's row says the kind and the operands; each operand is read back in turn.
use Rattle.std.specs.Prelude.{ℕ, zero, suc, ◌+◌, ◌≤◌, ◌≡◌, Bool, true, false, List, [], ◌∷◌, ◌++◌, eqb, leb, get_or, drop}
use Rattle.std.proofs.Common.{add-one, arith, ap, ◌∙◌, length-append}
use Rattle.std.proofs.Math.Path.{refl}
use Rattle.std.proofs.Math.ListN.{length}
use Rattle.std.proofs.Math.Seq.{take-append_seam, drop-append_seam, drop-nil}
use borrow.Author.Tests.{eq-eqb, le-leb}
use Rattle.meaning.specs.Logic.{◌and◌, Is, is, Is→eq, and_l, and_r, and_i}
use Rattle.meaning.specs.Formulas as meaning
use Rattle.meaning.specs.Formulas.{Term, number, variable, calculated}
use Rattle.meaning.specs.Formulas.{Formula, constant, joined, quantified, compared, instance}
use Rattle.meaning.specs.Ranges.{sound_term, sound_terms, sound, all_ranges}
use Rattle.meaning.specs.Models.{ModelEquation}
use Rattle.meaning.specs.Reach.{Instance}
use Rattle.std.specs.Prelude.{Some}
use Rattle.formulas.specs.declared.Kind.TheVariants.{Constant, Join, Quantifier, Compare}
use Rattle.formulas.specs.declared.TermKind.TheVariants.{Calculation}
use Rattle.formulas.specs.declared.Test.{Test}
use Rattle.formulas.specs.declared.Test.TheVariants.{Equal, Less, Unequal, NotLess}
use Rattle.formulas.specs.Codes.{row_of, kind_of, term_kind_of}
use Rattle.formulas.specs.Decode.{Parsed, some, then, in_row, test_of, term_at, terms_at, formula_at}
use Rattle.formulas.proofs.Shapes.{shape_number, shape_variable, shape_calculation, shape_constant, shape_join}
use Rattle.formulas.proofs.Shapes.{shape_quantifier, shape_compare, shape_instance}
use Rattle.formulas.specs.Bodies.{body_at, is_body}
use Rattle.reading.specs.Equations.{four_ranges, ranges_in, body_in, is_valid_head, equation_of}
use Rattle.reading.proofs.Drafts.{EquationSound}
use Rattle.spelling.specs.Spelled.{either_code, test_code, spelled_term, spelled_terms, spelled}
use Rattle.spelling.specs.Spelled.{equation_frame, start_frame}
use Rattle.spelling.specs.Stands.{Stands, first, after_one, left_part, right_part, moved, stands_whole}

-- ---- what is read in a row
row_more : {A : Type 0} (one : ℕ → Parsed A) (c p m e : ℕ) (a : A) (rest : List A) → one p ≡ some a m →
    in_row one c m ≡ some rest e → in_row one (suc c) p ≡ some (a ∷ rest) e
unfolding in_row
row_more {A} one c p m e a rest h k =
    ap (λ (x : Parsed A). then x (λ y l. then (in_row one c l) (λ r z. some (y ∷ r) z))) h ∙
    ap (λ (x : Parsed (List A)). then x (λ r z. some (a ∷ r) z)) k

row_none : {A : Type 0} (one : ℕ → Parsed A) (p e : ℕ) → p ≡ e → in_row one 0 p ≡ some [] e
unfolding in_row
row_none one p e h = ap (some []) h

row_two : {A : Type 0} (one : ℕ → Parsed A) (p m e : ℕ) (a b : A) → one p ≡ some a m → one m ≡ some b e →
    in_row one 2 p ≡ some (a ∷ b ∷ []) e
row_two one p m e a b h k =
    row_more one 1 p m e a (b ∷ []) h (row_more one 0 m e e b [] k (row_none one e e refl))

-- ---- the kinds of the codes
-- what holds of either code holds of the one that is written
pub either_way : (P : Bool → ℕ → Type 0) (b : Bool) (t f : ℕ) → P true t → P false f → P b (either_code b t f)
unfolding either_code
either_way P true t f h k = h
either_way P false t f h k = k

-- the test of a model as the reader has it
tested : meaning.Test → Test
tested meaning.equal = Equal
tested meaning.less = Less
tested meaning.unequal = Unequal
tested meaning.not_less = NotLess

test_tested : (t : meaning.Test) → test_of (tested t) ≡ t
unfolding tested
test_tested meaning.equal = refl
test_tested meaning.less = refl
test_tested meaning.unequal = refl
test_tested meaning.not_less = refl

compare_kind : (t : meaning.Test) → kind_of (test_code t) ≡ Some (Compare (tested t))
unfolding row_of test_code tested
compare_kind meaning.equal = refl
compare_kind meaning.less = refl
compare_kind meaning.unequal = refl
compare_kind meaning.not_less = refl

-- ---- terms
pub term_read : (t : Term) (k n p e : ℕ) (s : List ℕ) → Is (sound_term k t) → Stands s p (spelled_term t) →
    length (spelled_term t) ≤ n → p + length (spelled_term t) ≡ e → term_at n s k p ≡ some t e
unfolding sound_term spelled_term row_of
term_read (number v) k zero p e s f h l o = absurd (omega arith)
term_read (number v) k (suc n) p e s f h l o =
    let code = first s p _ _ h in
    let operand = first s (p + 1) _ _ (after_one s p _ _ h) in
    rw (shape_number n s k p (ap term_kind_of code), operand, Is→eq f, o) refl
term_read (variable i) k zero p e s f h l o = absurd (omega arith)
term_read (variable i) k (suc n) p e s f h l o =
    let code = first s p _ _ h in
    let operand = first s (p + 1) _ _ (after_one s p _ _ h) in
    rw (shape_variable n s k p (ap term_kind_of code), operand, Is→eq f, o) refl
term_read (calculated plus r a b) k zero p e s f h l o = absurd (omega arith)
term_read (calculated plus r a b) k (suc n) p e s f h l o =
    let count = length-append (spelled_term a) (spelled_term b) in
    let m = p + 2 + length (spelled_term a) in
    let code = first s p _ _ h in
    let kinds = either_way (λ b c. term_kind_of c ≡ Some (Calculation b)) plus in
    let one = after_one s p _ _ h in
    let two = moved s (p + 1 + 1) (p + 2) _ (omega arith) (after_one s (p + 1) _ _ one) in
    let a_there = left_part s (p + 2) (spelled_term a) (spelled_term b) two in
    let b_there = right_part s (p + 2) (spelled_term a) (spelled_term b) two in
    let in_a = term_read a k n (p + 2) m s (and_r _ _ (and_l _ _ f)) a_there (omega arith) refl in
    let in_b = term_read b k n m e s (and_r _ _ f) b_there (omega arith) (omega arith) in
    rw (
      shape_calculation n s k p plus (ap term_kind_of code ∙ kinds _ _ refl refl),
      first s (p + 1) _ _ one,
      Is→eq (and_l _ _ (and_l _ _ f)),
      row_two (term_at n s k) (p + 2) m e a b in_a in_b,
    ) refl

pub terms_read : (ts : List Term) (k n p e : ℕ) (s : List ℕ) → Is (sound_terms k ts) →
    Stands s p (spelled_terms ts) → length (spelled_terms ts) ≤ n → p + length (spelled_terms ts) ≡ e →
    terms_at n (length ts) s k p ≡ some ts e
unfolding sound_terms spelled_terms
terms_read [] k n p e s f h l o = row_none (term_at n s k) p e (omega arith)
terms_read (t ∷ ts) k n p e s f h l o =
    let count = length-append (spelled_term t) (spelled_terms ts) in
    let m = p + length (spelled_term t) in
    let t_there = left_part s p (spelled_term t) (spelled_terms ts) h in
    let ts_there = right_part s p (spelled_term t) (spelled_terms ts) h in
    row_more (term_at n s k) (length ts) p m e t ts
    (term_read t k n p m s (and_l _ _ f) t_there (omega arith) refl)
    (terms_read ts k n m e s (and_r _ _ f) ts_there (omega arith) (omega arith))

-- ---- formulas
pub formula_read : (f : Formula) (k q n p e : ℕ) (s : List ℕ) → Is (sound k q f) → Stands s p (spelled f) →
    length (spelled f) ≤ n → p + length (spelled f) ≡ e → formula_at n s k q p ≡ some f e
unfolding sound spelled row_of
formula_read (constant b) k q zero p e s x h l o = absurd (omega arith)
formula_read (constant b) k q (suc n) p e s x h l o =
    let code = first s p _ _ h in
    let kinds = either_way (λ b c. kind_of c ≡ Some (Constant b)) b in
    rw (shape_constant n s k q p b (ap kind_of code ∙ kinds _ _ refl refl), o) refl
formula_read (joined all f g) k q zero p e s x h l o = absurd (omega arith)
formula_read (joined all f g) k q (suc n) p e s x h l o =
    let count = length-append (spelled f) (spelled g) in
    let m = p + 1 + length (spelled f) in
    let code = first s p _ _ h in
    let kinds = either_way (λ b c. kind_of c ≡ Some (Join b)) all in
    let one = after_one s p _ _ h in
    let f_there = left_part s (p + 1) (spelled f) (spelled g) one in
    let g_there = right_part s (p + 1) (spelled f) (spelled g) one in
    let in_f = formula_read f k q n (p + 1) m s (and_l _ _ x) f_there (omega arith) refl in
    let in_g = formula_read g k q n m e s (and_r _ _ x) g_there (omega arith) (omega arith) in
    rw (shape_join n s k q p all (ap kind_of code ∙ kinds _ _ refl refl), in_f, in_g) refl
formula_read (quantified all r f) k q zero p e s x h l o = absurd (omega arith)
formula_read (quantified all r f) k q (suc n) p e s x h l o =
    let code = first s p _ _ h in
    let kinds = either_way (λ b c. kind_of c ≡ Some (Quantifier b)) all in
    let one = after_one s p _ _ h in
    let two = moved s (p + 1 + 1) (p + 2) _ (omega arith) (after_one s (p + 1) _ _ one) in
    let inner : Is (sound (k + 1) (q + 1) f) = rw (add-one k, add-one q) (and_r _ _ x) in
    let in_f = formula_read f (k + 1) (q + 1) n (p + 2) e s inner two (omega arith) (omega arith) in
    rw (
      shape_quantifier n s k q p all (ap kind_of code ∙ kinds _ _ refl refl),
      Is→eq (and_l _ _ (and_l _ _ x)),
      first s (p + 1) _ _ one,
      Is→eq (and_r _ _ (and_l _ _ x)),
      in_f,
    ) refl
formula_read (compared t a b) k q zero p e s x h l o = absurd (omega arith)
formula_read (compared t a b) k q (suc n) p e s x h l o =
    let count = length-append (spelled_term a) (spelled_term b) in
    let m = p + 1 + length (spelled_term a) in
    let code = first s p _ _ h in
    let one = after_one s p _ _ h in
    let a_there = left_part s (p + 1) (spelled_term a) (spelled_term b) one in
    let b_there = right_part s (p + 1) (spelled_term a) (spelled_term b) one in
    let in_a = term_read a k n (p + 1) m s (and_l _ _ x) a_there (omega arith) refl in
    let in_b = term_read b k n m e s (and_r _ _ x) b_there (omega arith) (omega arith) in
    rw (
      shape_compare n s k q p (tested t) (ap kind_of code ∙ compare_kind t),
      row_two (term_at n s k) (p + 1) m e a b in_a in_b,
      test_tested t,
    ) refl
formula_read (instance m ts) k q zero p e s x h l o = absurd (omega arith)
formula_read (instance m ts) k q (suc n) p e s x h l o =
    let code = first s p _ _ h in
    let one = after_one s p _ _ h in
    let two = after_one s (p + 1) _ _ one in
    let three = moved s (p + 1 + 1 + 1) (p + 1 + 2) _ (omega arith) (after_one s (p + 1 + 1) _ _ two) in
    let in_ts = terms_read ts k n (p + 1 + 2) e s (and_r _ _ x) three (omega arith) (omega arith) in
    rw (
      shape_instance n s k q p (ap kind_of code),
      first s (p + 1 + 1) _ _ two,
      first s (p + 1) _ _ one,
      Is→eq (and_l _ _ x),
      in_ts,
    ) refl

-- a formula that is written alone
pub whole_read : (f : Formula) (k q : ℕ) → Is (sound k q f) →
    formula_at (length (spelled f)) (spelled f) k q 0 ≡ some f (length (spelled f))
whole_read f k q h =
    formula_read f k q (length (spelled f)) 0 (length (spelled f)) (spelled f) h (stands_whole (spelled f))
    (omega arith) (omega arith)

-- ---- the frame of an equation: how long it is, and its formula read to its end
pub frame_length : (e : ModelEquation) →
    length (equation_frame e) ≡ 3 + length e.ranges + length (spelled e.body)
unfolding equation_frame
frame_length e = omega (arith, length-append e.ranges (spelled e.body))

-- the formula stands behind three bytes and the ranges
pub body_stands : (e : ModelEquation) → Stands (equation_frame e) (3 + length e.ranges) (spelled e.body)
unfolding equation_frame
body_stands e =
    let s = equation_frame e in
    let one = after_one s 0 _ _ (stands_whole s) in
    let two = after_one s (0 + 1) _ _ one in
    let three = after_one s (0 + 1 + 1) _ _ two in
    moved s (0 + 1 + 1 + 1 + length e.ranges) (3 + length e.ranges) (spelled e.body) (omega arith)
    (right_part s (0 + 1 + 1 + 1) e.ranges (spelled e.body) three)

pub frame_read : (e : ModelEquation) → Is (sound (length e.ranges) 0 e.body) →
    formula_at (length (equation_frame e)) (equation_frame e) (length e.ranges) 0 (3 + length e.ranges)
    ≡ some e.body (length (equation_frame e))
frame_read e h =
    let k = length e.ranges in
    let n = length (equation_frame e) in
    let long = frame_length e in
    formula_read e.body k 0 n (3 + k) n (equation_frame e) h (body_stands e) (omega (arith, long))
    (omega (arith, long))

-- ---- what the reader takes from the frame of an equation: sign, number of parameters, ranges, formula
pub first_byte : (e : ModelEquation) → get_or (equation_frame e) 0 0 ≡ 0x01
unfolding equation_frame
first_byte e = refl

sign_valid : (e : ModelEquation) → leb (get_or (equation_frame e) 1 0) 1 ≡ true
unfolding equation_frame
sign_valid e = either_way (λ b c. leb c 1 ≡ true) e.greatest _ _ refl refl

sign_there : (e : ModelEquation) → eqb (get_or (equation_frame e) 1 0) 1 ≡ e.greatest
unfolding equation_frame
sign_there e = either_way (λ b c. eqb c 1 ≡ b) e.greatest _ _ refl refl

count_there : (e : ModelEquation) → get_or (equation_frame e) 2 0 ≡ length e.ranges
unfolding equation_frame
count_there e = refl

-- four ranges: "1 for an absent one"
ones : ℕ → List ℕ
ones k = drop k (1 ∷ 1 ∷ 1 ∷ 1 ∷ [])

ones_ranges : (k : ℕ) → Is (all_ranges (ones k))
unfolding all_ranges ones ◌and◌
ones_ranges zero = is
ones_ranges (suc zero) = is
ones_ranges (suc (suc zero)) = is
ones_ranges (suc (suc (suc zero))) = is
ones_ranges (suc (suc (suc (suc k)))) = rw (drop-nil k) is

all_both : (u w : List ℕ) → Is (all_ranges u) → Is (all_ranges w) → Is (all_ranges (u ++ w))
unfolding all_ranges
all_both [] w f g = g
all_both (r ∷ u) w f g = and_i (and_l _ _ f) (all_both u w (and_r _ _ f) g)

four_are : (c : ℕ) (rs rest : List ℕ) → length rs ≤ 4 →
    four_ranges (0x01 ∷ c ∷ length rs ∷ (rs ++ rest)) ≡ rs ++ ones (length rs)
unfolding ones
four_are c [] rest l = refl
four_are c (r ∷ []) rest l = refl
four_are c (r ∷ q ∷ []) rest l = refl
four_are c (r ∷ q ∷ p ∷ []) rest l = refl
four_are c (r ∷ q ∷ p ∷ o ∷ []) rest l = refl
four_are c (r ∷ q ∷ p ∷ o ∷ n ∷ rs) rest l = absurd (omega arith)

four_there : (e : ModelEquation) → length e.ranges ≤ 4 →
    four_ranges (equation_frame e) ≡ e.ranges ++ ones (length e.ranges)
unfolding equation_frame
four_there e few = four_are (either_code e.greatest 1 0) e.ranges (spelled e.body) few

ranges_there : (e : ModelEquation) → length e.ranges ≤ 4 → ranges_in (equation_frame e) ≡ e.ranges
ranges_there e few =
    rw (four_there e few, count_there e) (take-append_seam e.ranges (ones (length e.ranges)))

body_there : (e : ModelEquation) → body_in (equation_frame e) ≡ spelled e.body
unfolding equation_frame
body_there e =
    let n : 3 + length e.ranges ≡ suc (suc (suc (length e.ranges))) = omega arith in
    rw n (drop-append_seam e.ranges (spelled e.body))

-- ---- so the equation comes back, and its frame passes 5 and 6
module _ (e : ModelEquation) (few : length e.ranges ≤ 4) where
  head_valid : Is (all_ranges e.ranges) → is_valid_head (equation_frame e) ≡ true
  unfolding is_valid_head
  head_valid ranged =
      let absent = ones_ranges (length e.ranges) in
      rw (
        four_there e few,
        count_there e,
        sign_valid e,
        le-leb (3 + length e.ranges) (length (equation_frame e)) (omega (arith, frame_length e)),
        le-leb (length e.ranges) 4 few,
        Is→eq (all_both e.ranges (ones (length e.ranges)) ranged absent),
      ) refl

  module _ (s : Is (sound (length e.ranges) 0 e.body)) (short : length (equation_frame e) ≤ 256) where
    body_read : body_at (body_in (equation_frame e)) (ranges_in (equation_frame e))
        ≡ some e.body (length (spelled e.body))
    unfolding body_at
    body_read = rw (
      body_there e,
      ranges_there e few,
      le-leb (length (spelled e.body)) 256 (omega (arith, frame_length e)),
    ) (whole_read e.body (length e.ranges) 0 s)

    pub equation_back : equation_of (equation_frame e) ≡ e
    equation_back = rw (sign_there e, body_read, ranges_there e few) refl

    pub equation_passes : Is (all_ranges e.ranges) → EquationSound (equation_frame e)
    unfolding is_body
    equation_passes ranged = record {
      head = head_valid ranged;
      body = rw (body_read, body_there e) (eq-eqb (length (spelled e.body)) _ refl);
    }

-- ---- and from the frame of a start
pub start_byte : (start : Instance) → get_or (start_frame start) 0 0 ≡ 0x02
unfolding start_frame
start_byte start = refl
