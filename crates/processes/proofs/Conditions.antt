-- A condition as the reader reads it, with four quantifiers around it and no equation to name, is a plain formula.
-- Beside what is read with no quantifier around: the same where there is no quantifier in it, nothing where there is one.
use Prim.Native.Nat.{ℕ, zero, suc, ◌+◌, ◌≤◌}
use native.Mathlib.Omega.{arith}
use mathlib.Core.Path.{◌≡◌, refl}
use mathlib.Core.Bool.{Bool, true, false}
use mathlib.Core.List.{List, []}
use lib.Dec.{ltb, leb}
use lib.ListN.{length, get_or}
use borrow.Author.Tests.{le-ltb, le-leb}
use Rattle.meaning.specs.Logic.{◌and◌, and-false}
use Rattle.meaning.specs.Formulas.{Test, Term, Formula, constant, joined, quantified, compared, instance}
use Rattle.meaning.specs.Ranges.{is_range, fits}
use Rattle.std.specs.Prelude.{Option, None, Some}
use Rattle.formulas.specs.declared.Kind.{Kind}
use Rattle.formulas.specs.declared.Kind.TheVariants.{Constant, Join, Quantifier, Compare, Instance}
use Rattle.formulas.specs.Codes.{kind_of}
use Rattle.formulas.specs.Decode.{Parsed, none, some, then, when, nth_term, test_of, terms_at, formula_at}
use Rattle.formulas.proofs.Shapes.{shape_no_formula, shape_constant, shape_join, shape_quantifier, shape_compare, shape_instance}
use Rattle.formulas.specs.Ends.{place_where, condition_place}
use Rattle.translation.specs.Rules.{plain}

-- a formula in which nothing but instances could be wrong with a condition
abbrev Alike : Formula → Type 0
Alike f = (rs : List ℕ) → fits [] f rs ≡ plain f

-- what is read without quantifiers around, and with four
data Beside : Parsed Formula → Parsed Formula → Type 0 where
  neither : Beside none none
  both : {f : Formula} {e : ℕ} → Alike f → Beside (some f e) (some f e)
  without : {f : Formula} {e : ℕ} → plain f ≡ false → Beside (some f e) none

-- ---- each kind of formula
same_read : {A : Type 0} (g : A → Formula) → ((a : A) → Alike (g a)) → (p : Parsed A)
    → Beside (then p (λ a e. some (g a) e)) (then p (λ a e. some (g a) e))
same_read g h none = neither
same_read g h (some a e) = both (h a)

module _ (all : Bool) where
  joined_alike : (f g : Formula) → Alike f → Alike g → Alike (joined all f g)
  unfolding plain fits
  joined_alike f g a b rs = rw (a rs, b rs) refl

  joined_first : (f g : Formula) → plain f ≡ false → plain (joined all f g) ≡ false
  unfolding plain ◌and◌
  joined_first f g h = rw h refl

  joined_second : (f g : Formula) → plain g ≡ false → plain (joined all f g) ≡ false
  unfolding plain
  joined_second f g h = rw h (and-false (plain f))

  second_read : (x : Formula) → Alike x → {p p' : Parsed Formula} → Beside p p'
      → Beside (then p (λ g e. some (joined all x g) e)) (then p' (λ g e. some (joined all x g) e))
  second_read x a neither = neither
  second_read x a (both {f} b) = both (joined_alike x f a b)
  second_read x a (without {f} h) = without (joined_second x f h)

  second_lost : (x : Formula) → plain x ≡ false → (p : Parsed Formula) → Beside (then p (λ g e. some (joined all x g) e)) none
  second_lost x h none = neither
  second_lost x h (some g e) = without (joined_first x g h)

  join_read : {p p' : Parsed Formula} → Beside p p' → (second second' : ℕ → Parsed Formula)
      → ((m : ℕ) → Beside (second m) (second' m))
      → Beside (then p (λ f m. then (second m) (λ g e. some (joined all f g) e)))
      (then p' (λ f m. then (second' m) (λ g e. some (joined all f g) e)))
  join_read neither second second' b = neither
  join_read (both {f} {e} a) second second' b = second_read f a (b e)
  join_read (without {f} {e} h) second second' b = second_lost f h (second e)

  quantifier_read : (r : ℕ) (d b : Bool) (p : Parsed Formula)
      → Beside (when d (when b (then p (λ f e. some (quantified all r f) e)))) none
  unfolding plain
  quantifier_read r false b p = neither
  quantifier_read r true false p = neither
  quantifier_read r true true none = neither
  quantifier_read r true true (some f e) = without refl

instance_alike : (x : ℕ) (ts : List Term) → Alike (instance x ts)
unfolding plain fits ◌and◌
instance_alike x ts rs = rw (le-ltb x 0 (omega arith)) refl

instance_read : (x : ℕ) (b : Bool) (p : Parsed (List Term))
    → Beside (when b (then p (λ ts e. some (instance x ts) e))) (when b (then p (λ ts e. some (instance x ts) e)))
instance_read x true p = same_read (instance x) (instance_alike x) p
instance_read x false p = neither

constant_alike : (b : Bool) → Alike (constant b)
unfolding plain fits
constant_alike b rs = refl

compared_alike : (t : Test) (a b : Term) → Alike (compared t a b)
unfolding plain fits
compared_alike t a b rs = refl

-- ---- so with any number of quantifiers around, and four
module _ (s : List ℕ) where
  by_kind : (n k q at : ℕ) → ((m : ℕ) → Beside (formula_at n s k q m) (formula_at n s k 4 m)) → (kind : Option Kind)
      → kind_of (get_or s at 0) ≡ kind → Beside (formula_at (suc n) s k q at) (formula_at (suc n) s k 4 at)
  by_kind n k q at sub None h = rw (shape_no_formula n s k q at h, shape_no_formula n s k 4 at h) neither
  by_kind n k q at sub (Some (Constant b)) h =
      rw (shape_constant n s k q at b h, shape_constant n s k 4 at b h) (both (constant_alike b))
  by_kind n k q at sub (Some (Join all)) h =
      rw (shape_join n s k q at all h, shape_join n s k 4 at all h)
      (join_read all (sub (at + 1)) (formula_at n s k q) (formula_at n s k 4) sub)
  by_kind n k q at sub (Some (Quantifier all)) h =
      rw (shape_quantifier n s k q at all h, shape_quantifier n s k 4 at all h)
      (quantifier_read all (get_or s (at + 1) 0) (ltb q 4) (is_range (get_or s (at + 1) 0))
      (formula_at n s (k + 1) (q + 1) (at + 2)))
  by_kind n k q at sub (Some (Compare t)) h =
      rw (shape_compare n s k q at t h, shape_compare n s k 4 at t h)
      (same_read _ (λ ts. compared_alike (test_of t) (nth_term ts 0) (nth_term ts 1)) (terms_at n 2 s k (at + 1)))
  by_kind n k q at sub (Some Instance) h =
      rw (shape_instance n s k q at h, shape_instance n s k 4 at h)
      (instance_read (get_or s (at + 1) 0) (leb (get_or s (at + 1 + 1) 0) 4)
      (terms_at n (get_or s (at + 1 + 1) 0) s k (at + 1 + 2)))

  beside : (n k q at : ℕ) → Beside (formula_at n s k q at) (formula_at n s k 4 at)
  unfolding formula_at
  beside zero k q at = neither
  beside (suc n) k q at = by_kind n k q at (beside n k q) (kind_of (get_or s at 0)) refl

-- ---- where a condition ends
same_end : (rs : List ℕ) {p p' : Parsed Formula} → Beside p p' → place_where (λ f. fits [] f rs) p' ≡ place_where plain p
same_end rs neither = refl
same_end rs (both a) = rw (a rs) refl
same_end rs (without h) = rw h refl

pub condition_plain : (s : List ℕ) (at : ℕ) (rs : List ℕ) {k : ℕ} → length s ≤ 256 → length rs ≡ k
    → condition_place s at rs ≡ place_where plain (formula_at (length s) s k 0 at)
unfolding condition_place
condition_plain s at rs {k} h e = rw (le-leb (length s) 256 h, e) (same_end rs (beside s (length s) k 0 at))
