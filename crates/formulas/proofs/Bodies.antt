-- A body as a whole: its signature and the equations it may name.
-- An equation has four ranges and a model eight equations, so no more of them are ever taken.
use Prim.Native.Nat.{ℕ, ◌≤◌, ◌<◌, min}
use native.Mathlib.Omega.{arith}
use mathlib.Core.Path.{◌≡◌, refl, sym, ap, ◌∙◌}
use mathlib.Core.Bool.{Bool, true, false, ◌&&◌}
use mathlib.Core.List.{List, [], ◌∷◌}
use Rattle.std.specs.Prelude.{Option, None, Some}
use lib.Dec.{eqb, leb}
use lib.ListN.{length, get_or, take, length-take, length-map, get_or-map}
use lib.Seq.{take-append-le, take_all, length-take-le, get_or-take}
use borrow.Author.Tests.{le-leb, lt-leb, leb-true, leb-false}
use Rattle.meaning.specs.Formulas.{Formula}
use Rattle.meaning.specs.Ranges.{fits}
use Rattle.formulas.specs.declared.Equation.{Equation}
use Rattle.formulas.specs.Bodies.{blank, ranges_of, signatures_of, body_at, is_body, is_fitting}
use Rattle.formulas.specs.Contract.{Told, FormulaTold, Tells}
use Rattle.formulas.specs.declared.Span.{Span}
use Rattle.formulas.proofs.Told.{told_when, told_unless, told_ends, told_found, told_lost, told_whole}

-- as many signatures as equations that are taken, each that of its equation
module _ (equations : List Equation) (count : ℕ) where
  pub signatures_length : count ≤ length equations → length (signatures_of equations count) ≡ count
  signatures_length c = length-map (take count equations) ranges_of ∙ length-take-le count equations c

  pub signature_at : (x : ℕ) → x < count → get_or (signatures_of equations count) x [] ≡ ranges_of (get_or equations x blank)
  signature_at x l = get_or-map ranges_of (take count equations) x blank ∙ ap ranges_of (get_or-take count equations x blank l)

-- the first of four, with something after them
four_first : (l z : List ℕ) (k : ℕ) → length l ≡ 4 → k ≤ 4
    → take k (get_or l 0 0 ∷ get_or l 1 0 ∷ get_or l 2 0 ∷ get_or l 3 0 ∷ z) ≡ take k l
four_first [] z k h m = absurd (omega arith)
four_first (a ∷ []) z k h m = absurd (omega arith)
four_first (a ∷ b ∷ []) z k h m = absurd (omega arith)
four_first (a ∷ b ∷ c ∷ []) z k h m = absurd (omega arith)
four_first (a ∷ b ∷ c ∷ d ∷ []) z k h m = take-append-le k (a ∷ b ∷ c ∷ d ∷ []) z m
four_first (a ∷ b ∷ c ∷ d ∷ e ∷ l) z k h m = absurd (omega arith)

-- where there are n of a list, taking at most n of them is taking
pub take_most : {A : Type 0} (l : List A) (k n : ℕ) → length l ≡ n → (b : Bool) → leb k n ≡ b → take (min k n) l ≡ take k l
take_most l k n h true b = let m : min k n ≡ k = omega (arith, leb-true k n b) in rw m refl
take_most l k n h false b =
    let m : min k n ≡ n = omega (arith, leb-false k n b) in
    rw (m, take_all n l (omega (arith, h)), take_all k l (omega (arith, h, leb-false k n b))) refl

pub signature : (l z : List ℕ) (k r : ℕ) → length l ≡ 4 → r ≡ min k 4
    → (take r (get_or l 0 0 ∷ get_or l 1 0 ∷ get_or l 2 0 ∷ get_or l 3 0 ∷ z) ≡ take k l) × ((r ≡ length (take k l)) × (r ≤ 4))
signature l z k r h e = (
  rw e (four_first l z (min k 4) h (omega arith) ∙ take_most l k 4 h (leb k 4) refl),
  (e ∙ sym (length-take k l ∙ ap (min k) h), omega arith),
)

-- what is asked of what was read: whether it ends at n, and whether it fits; nothing read is no body, and nothing in it misfits
abbrev pub ends_there : ℕ → Option (Span Bool) → Bool
ends_there n None = false
ends_there n (Some a) = eqb a.next n

abbrev pub fits_there : Option (Span Bool) → Bool
fits_there None = true
fits_there (Some a) = a.found

pub body_judged : (s rs : List ℕ) {P : Formula → Type 0} {ok : Bool} {m : ℕ} → Told P m (body_at s rs) ok
    → ok && eqb m (length s) ≡ is_body s rs
unfolding is_body
body_judged s rs p = told_ends (length s) p

-- a body of at most 256 bytes, read with its parameters in reach, against the first `count` of eight equations
module _ (s : List ℕ) (e : Equation) (equations : List Equation) (count : ℕ) where
  abbrev pub ReadAs : Option (Span Bool) → Type 0
  ReadAs o =
      Tells (λ P ok m. Told P m (body_at s (ranges_of e)) ok) (λ v f. v ≡ fits (signatures_of equations count) f (ranges_of e)) o

  pub body_long : 256 < length s → ReadAs None
  unfolding body_at
  body_long h = told_unless _ _ (lt-leb (length s) 256 h)

  body_reads : {P : Formula → Type 0} {m k : ℕ} {ok : Bool} → length s ≤ 256 → k ≡ length (ranges_of e)
      → FormulaTold s (length s) k 0 0 P ok m → Told P m (body_at s (ranges_of e)) ok
  unfolding body_at
  body_reads l size t =
      told_when _ (le-leb (length s) 256 l) (rw size at (told_whole (omega arith) (t.tells (length s) (omega arith))))

  pub body_read : {sigs : List (List ℕ)} {rs : List ℕ} {k : ℕ} (o : Option (Span Bool)) → length s ≤ 256
      → sigs ≡ signatures_of equations count → rs ≡ ranges_of e → k ≡ length (ranges_of e)
      → Tells (FormulaTold s (length s) k 0 0) (λ v f. v ≡ fits sigs f rs) o → ReadAs o
  body_read None l known reach size t = body_reads l size t
  body_read (Some span) l known reach size t = body_reads l size (rw (known, reach) at t)

  pub fitting_found : {v : Bool} {m : ℕ} → Told (λ f. v ≡ fits (signatures_of equations count) f (ranges_of e)) m
      (body_at s (ranges_of e)) true → v ≡ is_fitting (signatures_of equations count) s (ranges_of e)
  unfolding is_fitting
  fitting_found p = told_found p

  pub fitting_lost : {P : Formula → Type 0} {m : ℕ} → Told P m (body_at s (ranges_of e)) false
      → true ≡ is_fitting (signatures_of equations count) s (ranges_of e)
  unfolding is_fitting fits
  fitting_lost p = rw (told_lost p) refl

  pub body_known : (o : Option (Span Bool)) → ReadAs o → ends_there (length s) o ≡ is_body s (ranges_of e)
  body_known None t = body_judged s (ranges_of e) t
  body_known (Some a) t = body_judged s (ranges_of e) t

  pub fitting_known : (o : Option (Span Bool)) → ReadAs o
      → fits_there o ≡ is_fitting (signatures_of equations count) s (ranges_of e)
  fitting_known None t = fitting_lost t
  fitting_known (Some a) t = fitting_found t
