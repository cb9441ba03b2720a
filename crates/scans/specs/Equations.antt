-- The equations of a formula are read off the list of its fixed points, in the order in which they stand.
-- By the formula: the equations of two formulas follow each other as their fixed points do.
use Prim.Native.Nat.{ℕ, zero, suc, ◌+◌, ◌<◌}
use native.Mathlib.Omega.{arith}
use Rattle.std.proofs.Common.{add-zero, ◌∙◌, length-append}
use Rattle.std.specs.Prelude.{◌≡◌, get_or}
use Rattle.std.proofs.Math.Path.{refl, sym, ap, ap₂}
use mathlib.Core.List.{List, [], ◌∷◌, ◌++◌}
use Rattle.std.proofs.Math.ListN.{length}
use Rattle.meaning.specs.Models.{ModelEquation, Model}
use Rattle.translation.specs.Processes.{Process}
use Rattle.translation.specs.Modal.{fixed_points}
use Rattle.translation.specs.Modal.{Modal, truth, combined, after, fixed_point, of_fixed_point}
use Rattle.translation.specs.Translation.{equation_of, equations}
use Rattle.scans.specs.FixedPoints.{Fixed, fixed_in, no_fixed}

pub fixed_count : (f : Modal) → length (fixed_in f) ≡ fixed_points f
unfolding fixed_in fixed_points
fixed_count (truth b) = refl
fixed_count (combined all f g) =
    omega (arith, length-append (fixed_in f) (fixed_in g), fixed_count f, fixed_count g)
fixed_count (after all A f) = fixed_count f
fixed_count (fixed_point greatest f) = ap suc (fixed_count f)
fixed_count (of_fixed_point n) = refl

module _ (process : Process) (before : ℕ) where
  abbrev of_fixed : Fixed → ℕ → ModelEquation
  of_fixed e n = equation_of process before e.greatest e.inner n

  -- the equations of some fixed points, the first of which has number n
  unfoldable pub numbered : ℕ → List Fixed → Model
  numbered n [] = []
  numbered n (e ∷ es) = of_fixed e (suc n) ∷ numbered (suc n) es

  numbered_append : (n : ℕ) (ds es : List Fixed)
      → numbered n (ds ++ es) ≡ numbered n ds ++ numbered (n + length ds) es
  unfolding numbered
  numbered_append n [] es = ap (λ (m : ℕ). numbered m es) (sym (add-zero n))
  numbered_append n (d ∷ ds) es =
      let e : suc n + length ds ≡ n + suc (length ds) = omega arith in
      ap (λ (l : Model). numbered n (d ∷ []) ++ l)
      (numbered_append (suc n) ds es ∙ ap (λ (m : ℕ). numbered (suc n) ds ++ numbered m es) e)

  -- "fixed points become equations in that order"
  pub read_off : (f : Modal) (n : ℕ) → equations process before f n ≡ numbered n (fixed_in f)
  unfolding equations fixed_in numbered
  read_off (truth b) n = refl
  read_off (combined all f g) n =
      ap₂ ◌++◌ (read_off f n) (read_off g (n + fixed_points f)) ∙
      ap (λ (m : ℕ). numbered n (fixed_in f) ++ numbered (n + m) (fixed_in g)) (sym (fixed_count f)) ∙
      sym (numbered_append n (fixed_in f) (fixed_in g))
  read_off (after all A f) n = read_off f n
  read_off (fixed_point greatest f) n =
      ap (λ (l : Model). equation_of process before greatest f (suc n) ∷ l) (read_off f (suc n))
  read_off (of_fixed_point m) n = refl

  numbered_length : (n : ℕ) (es : List Fixed) → length (numbered n es) ≡ length es
  unfolding numbered
  numbered_length n [] = refl
  numbered_length n (e ∷ es) = ap suc (numbered_length (suc n) es)

  numbered_nth : (n : ℕ) (es : List Fixed) (i : ℕ) (d : ModelEquation) → i < length es
      → get_or (numbered n es) i d ≡ of_fixed (get_or es i no_fixed) (suc (n + i))
  unfolding numbered
  numbered_nth n [] i d l = absurd (omega (arith, l))
  numbered_nth n (e ∷ es) zero d l = ap (λ (m : ℕ). of_fixed e (suc m)) (sym (add-zero n))
  numbered_nth n (e ∷ es) (suc i) d l =
      let q : suc n + i ≡ n + suc i = omega arith in
      numbered_nth (suc n) es i d (omega (arith, l)) ∙
      ap (λ (m : ℕ). of_fixed (get_or es i no_fixed) (suc m)) q

  pub equations_length : (f : Modal) (n : ℕ) → length (equations process before f n) ≡ fixed_points f
  equations_length f n = ap length (read_off f n) ∙ numbered_length n (fixed_in f) ∙ fixed_count f

  pub equations_nth : (f : Modal) (n i : ℕ) (d : ModelEquation) → i < fixed_points f
      → let e = get_or (fixed_in f) i no_fixed in
      get_or (equations process before f n) i d
      ≡ equation_of process before e.greatest e.inner (suc (n + i))
  equations_nth f n i d l =
      ap (λ (m : Model). get_or m i d) (read_off f n) ∙
      numbered_nth n (fixed_in f) i d (omega (arith, fixed_count f))
