-- THEOREM: what was read at a place stands there as it is spelled, if it ends inside the bytes.
-- By induction on how deep the reader goes; each kind has its codes, by one test over the rows of the table.
use Prim.Native.Nat.{ℕ, zero, suc, ◌+◌, ◌-◌, ◌≤◌}
use Rattle.std.proofs.Common.{arith, sym, subst, ap, eqb→eq, length-append, leb-true}
use Rattle.std.specs.Prelude.{◌≡◌, Bool, true, ◌&&◌, T, eqb, leb, ltb, length}
use Rattle.std.proofs.Math.Path.{refl}
use mathlib.Core.List.{List, [], ◌∷◌, ◌++◌, append-nil}
use Rattle.std.proofs.Math.ListN.{get_or}
use Rattle.std.proofs.Math.Facts.{and_yes}
use Rattle.meaning.specs.Logic.{cases}
use Rattle.meaning.specs.Formulas.{Term, Formula}
use Rattle.meaning.specs.Ranges.{is_range}
use Rattle.std.specs.Prelude.{Option, None, Some}
use Rattle.formulas.specs.declared.Kind.{Kind}
use Rattle.formulas.specs.declared.Kind.TheVariants.{Constant, Join, Quantifier, Compare}
use Rattle.formulas.specs.declared.Kind.TheVariants.{Instance}
use Rattle.formulas.specs.declared.TermKind.{TermKind}
use Rattle.formulas.specs.declared.TermKind.TheVariants.{Number, Variable, Calculation}
use Rattle.formulas.specs.Codes.{Row, rows, no_row, row_of, kind_of, term_kind_of}
use Rattle.formulas.specs.Decode.{Parsed, some, in_row, nth_term, test_of, term_at, terms_at, formula_at}
use Rattle.formulas.specs.Bodies.{formula_of, is_body}
use Rattle.formulas.proofs.Shapes.{shape_no_term, shape_number, shape_variable, shape_calculation}
use Rattle.formulas.proofs.Shapes.{shape_no_formula, shape_constant, shape_join, shape_quantifier}
use Rattle.formulas.proofs.Shapes.{shape_compare, shape_instance}
use Rattle.formulas.proofs.Decoded.{Every, unread, each, every_then, every_last, every_when, body_whole}
use Rattle.spelling.specs.Spelled.{either_code, test_code, spelled_term, spelled_terms, spelled}
use Rattle.spelling.specs.Stands.{Stands, moved, stands_nothing, before_one, both_parts, stands_alone}
use Rattle.spelling.specs.SpelledThere.{There}

-- ---- the code of a kind
abbrev is_code_of : Option Kind → ℕ → Bool
is_code_of None c = true
is_code_of (Some (Constant b)) c = eqb c (either_code b 0x11 0x10)
is_code_of (Some (Join all)) c = eqb c (either_code all 0x12 0x13)
is_code_of (Some (Quantifier all)) c = eqb c (either_code all 0x14 0x15)
is_code_of (Some (Compare t)) c = eqb c (test_code (test_of t))
is_code_of (Some Instance) c = eqb c 0x1a

abbrev is_term_code_of : Option TermKind → ℕ → Bool
is_term_code_of None c = true
is_term_code_of (Some Number) c = eqb c 0x20
is_term_code_of (Some Variable) c = eqb c 0x21
is_term_code_of (Some (Calculation plus)) c = eqb c (either_code plus 0x22 0x23)

abbrev coded : ℕ → Row → Bool
coded c r = is_code_of r.formula c && is_term_code_of r.term c

-- the rows from code c on
abbrev all_coded : ℕ → List Row → Bool
all_coded c [] = true
all_coded c (r ∷ rs) = coded c r && all_coded (suc c) rs

one_coded : (c : ℕ) (rs : List Row) (i : ℕ) → T (all_coded c rs) → T (coded (c + i) (get_or rs i no_row))
one_coded c [] i t = tt
one_coded c (r ∷ rs) zero t =
    subst (λ (n : ℕ). T (coded n r)) (omega arith) (and_yes (coded c r) (all_coded (suc c) rs) t).0
one_coded c (r ∷ rs) (suc i) t =
    subst (λ (n : ℕ). T (coded n (get_or rs i no_row))) (omega arith)
    (one_coded (suc c) rs i (and_yes (coded c r) (all_coded (suc c) rs) t).1)

row_coded : (c : ℕ) → T (coded c (row_of c))
unfolding row_of either_code test_code
row_coded c = cases (leb 0x10 c)
    (λ b. rw b (subst (λ (n : ℕ). T (coded n (get_or rows (c - 0x10) no_row))) (from b)
    (one_coded 0x10 rows (c - 0x10) tt)))
    (λ b. rw b tt)
  where
    from : leb 0x10 c ≡ true → 0x10 + (c - 0x10) ≡ c
    from b = let there = leb-true 0x10 c b in omega arith

-- `refl` is the last argument where the kind is known
module _ (c code : ℕ) where
  code_is : {kind : Option Kind} → kind_of c ≡ kind → is_code_of kind c ≡ eqb c code → c ≡ code
  code_is {kind} h e =
      let f = is_code_of (kind_of c) c in
      let t = is_term_code_of (term_kind_of c) c in
      eqb→eq c code (rw (h, e) at (and_yes f t (row_coded c)).0)

  term_code_is : {kind : Option TermKind} → term_kind_of c ≡ kind → is_term_code_of kind c ≡ eqb c code → c ≡ code
  term_code_is {kind} h e =
      let f = is_code_of (kind_of c) c in
      let t = is_term_code_of (term_kind_of c) c in
      eqb→eq c code (rw (h, e) at (and_yes f t (row_coded c)).1)

module _ {s : List ℕ} where
  pub there_nothing : (at : ℕ) → There s at [] at
  there_nothing at = record { end = omega arith; stands = stands_nothing s at }

  -- a byte, and what comes after it
  pub there_byte : {at m e b : ℕ} {w : List ℕ} → get_or s at 0 ≡ b → m ≡ at + 1 → There s m w e →
      There s at (b ∷ w) e
  there_byte {at} {m} {e} {b} {w} h o t = record {
    end = omega (arith, t.end);
    stands = λ l. before_one s at b w h (moved s m (at + 1) w o (t.stands l));
  }

  pub there_both : {at m e : ℕ} {u w : List ℕ} → There s at u m → There s m w e → There s at (u ++ w) e
  there_both {at} {m} {e} {u} {w} g h = record {
    end = omega (arith, g.end, h.end, length-append u w);
    stands = λ l. both_parts s at u w (g.stands (omega (arith, h.end)))
        (moved s m (at + length u) w g.end (h.stands l));
  }

-- ---- terms
module _ (s : List ℕ) (k : ℕ) where
  abbrev TermThere : ℕ → Term → ℕ → Type 0
  TermThere at t e = There s at (spelled_term t) e

  abbrev TermsThere : ℕ → ℕ → List Term → ℕ → Type 0
  TermsThere c at ts e = (length ts ≡ c) × There s at (spelled_terms ts) e

  row_there : (one : ℕ → Parsed Term) → ((at : ℕ) → Every (TermThere at) (one at)) → (c at : ℕ) →
      Every (TermsThere c at) (in_row one c at)
  unfolding in_row spelled_terms
  row_there one f zero at = each (refl, there_nothing at)
  row_there one f (suc c) at = every_then _ (f at) (λ t m h.
      every_last _ (row_there one f c m) (λ ts e r. (ap suc r.0, there_both h r.1)))

  -- two terms
  two_there : (at e : ℕ) (ts : List Term) → TermsThere 2 at ts e →
      There s at (spelled_term (nth_term ts 0) ++ spelled_term (nth_term ts 1)) e
  unfolding spelled_terms
  two_there at e [] r = absurd (omega (arith, r.0))
  two_there at e (a ∷ []) r = absurd (omega (arith, r.0))
  two_there at e (a ∷ b ∷ []) r = rw (append-nil (spelled_term b)) at r.1
  two_there at e (a ∷ b ∷ c ∷ ts) r = absurd (omega (arith, r.0))

  every_kind : (n : ℕ) → ((at : ℕ) → Every (TermThere at) (term_at n s k at)) → (at : ℕ) (kind : Option TermKind) →
      term_kind_of (get_or s at 0) ≡ kind → Every (TermThere at) (term_at (suc n) s k at)
  unfolding spelled_term
  every_kind n f at None h = rw (shape_no_term n s k at h) unread
  every_kind n f at (Some Number) h =
      let code = term_code_is (get_or s at 0) 0x20 h refl in
      rw (shape_number n s k at h) (every_when (leb (get_or s (at + 1) 0) 15) (λ _.
      each (there_byte code refl (there_byte refl (omega arith) (there_nothing (at + 2))))))
  every_kind n f at (Some Variable) h =
      let code = term_code_is (get_or s at 0) 0x21 h refl in
      rw (shape_variable n s k at h) (every_when (ltb (get_or s (at + 1) 0) k) (λ _.
      each (there_byte code refl (there_byte refl (omega arith) (there_nothing (at + 2))))))
  every_kind n f at (Some (Calculation plus)) h =
      let code = term_code_is (get_or s at 0) (either_code plus 0x22 0x23) h refl in
      rw (shape_calculation n s k at plus h) (every_when (is_range (get_or s (at + 1) 0)) (λ _.
      every_last _ (row_there (term_at n s k) f 2 (at + 2)) (λ ts e r.
      there_byte code refl (there_byte refl (omega arith) (two_there (at + 2) e ts r)))))

  every_term : (n at : ℕ) → Every (TermThere at) (term_at n s k at)
  unfolding term_at
  every_term zero at = unread
  every_term (suc n) at = every_kind n (every_term n) at (term_kind_of (get_or s at 0)) refl

  every_terms : (n c at : ℕ) → Every (TermsThere c at) (terms_at n c s k at)
  every_terms n c at = row_there (term_at n s k) (every_term n) c at

-- ---- formulas
module _ (s : List ℕ) where
  abbrev FormulaThere : ℕ → Formula → ℕ → Type 0
  FormulaThere at f e = There s at (spelled f) e

  every_formula_kind : (n : ℕ) → ((k q at : ℕ) → Every (FormulaThere at) (formula_at n s k q at)) →
      (k q at : ℕ) (kind : Option Kind) → kind_of (get_or s at 0) ≡ kind →
      Every (FormulaThere at) (formula_at (suc n) s k q at)
  unfolding spelled
  every_formula_kind n sub k q at None h = rw (shape_no_formula n s k q at h) unread
  every_formula_kind n sub k q at (Some (Constant b)) h =
      let code = code_is (get_or s at 0) (either_code b 0x11 0x10) h refl in
      rw (shape_constant n s k q at b h) (each (there_byte code refl (there_nothing (at + 1))))
  every_formula_kind n sub k q at (Some (Join all)) h =
      let code = code_is (get_or s at 0) (either_code all 0x12 0x13) h refl in
      rw (shape_join n s k q at all h) (every_then _ (sub k q (at + 1)) (λ f m x.
      every_last _ (sub k q m) (λ g e y. there_byte code refl (there_both x y))))
  every_formula_kind n sub k q at (Some (Quantifier all)) h =
      let code = code_is (get_or s at 0) (either_code all 0x14 0x15) h refl in
      rw (shape_quantifier n s k q at all h) (every_when (ltb q 4) (λ _.
      every_when (is_range (get_or s (at + 1) 0)) (λ _.
      every_last _ (sub (k + 1) (q + 1) (at + 2)) (λ f e x.
      there_byte code refl (there_byte refl (omega arith) x)))))
  every_formula_kind n sub k q at (Some (Compare t)) h =
      let code = code_is (get_or s at 0) (test_code (test_of t)) h refl in
      rw (shape_compare n s k q at t h) (every_last _ (every_terms s k n 2 (at + 1)) (λ ts e r.
      there_byte code refl (two_there s k (at + 1) e ts r)))
  every_formula_kind n sub k q at (Some Instance) h =
      let code = code_is (get_or s at 0) 0x1a h refl in
      let count = get_or s (at + 1 + 1) 0 in
      rw (shape_instance n s k q at h) (every_when (leb count 4) (λ _.
      every_last _ (every_terms s k n count (at + 1 + 2)) (λ ts e r.
      there_byte code refl (there_byte refl refl (there_byte (sym r.0) (omega arith) r.1)))))

  every_formula : (n k q at : ℕ) → Every (FormulaThere at) (formula_at n s k q at)
  unfolding formula_at
  every_formula zero k q at = unread
  every_formula (suc n) k q at = every_formula_kind n (every_formula n) k q at (kind_of (get_or s at 0)) refl

-- ---- so what was read stands there
pub read_there : {A : Type 0} {P : A → ℕ → Type 0} {p : Parsed A} {a : A} {e : ℕ} → Every P p → p ≡ some a e →
    P a e
read_there {A} {P} {p} {a} {e} h x = one (subst (Every P) x h)
  where
    one : Every P (some a e) → P a e
    one (each g) = g

module _ (n : ℕ) (s : List ℕ) (k p e : ℕ) where
  pub term_spelled : (t : Term) → term_at n s k p ≡ some t e → e ≤ length s →
      Stands s p (spelled_term t) × (e ≡ p + length (spelled_term t))
  term_spelled t h l = let there = read_there (every_term s k n p) h in (there.stands l, there.end)

  pub terms_spelled : (c : ℕ) (ts : List Term) → terms_at n c s k p ≡ some ts e → e ≤ length s →
      Stands s p (spelled_terms ts) × (e ≡ p + length (spelled_terms ts)) × (length ts ≡ c)
  terms_spelled c ts h l =
      let there = read_there (every_terms s k n c p) h in
      (there.1.stands l, there.1.end, there.0)

  pub formula_spelled : (q : ℕ) (f : Formula) → formula_at n s k q p ≡ some f e → e ≤ length s →
      Stands s p (spelled f) × (e ≡ p + length (spelled f))
  formula_spelled q f h l =
      let there = read_there (every_formula s n k q p) h in
      (there.stands l, there.end)

-- and a body that is one formula is as that formula is spelled
pub body_spelled : (s rs : List ℕ) → is_body s rs ≡ true → s ≡ spelled (formula_of s rs)
body_spelled s rs h =
    let f = formula_of s rs in
    let there = formula_spelled (length s) s (length rs) 0 (length s) 0 f (body_whole s rs h) (omega arith) in
    stands_alone s (spelled f) there.0 (omega (arith, there.1))
