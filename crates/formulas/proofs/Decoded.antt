-- What the decoder gives is sound and ends past its place, and a body that is one formula was read whole.
-- By induction on how deep the decoder goes; its own tests are those of `sound`.
use Prim.Native.Nat.{ℕ, zero, suc, ◌+◌, ◌-◌, ◌≤◌, ◌<◌}
use native.Mathlib.Numerals.{add-one}
use native.Mathlib.Omega.{arith}
use mathlib.Core.Path.{◌≡◌, refl, ap, ◌∙◌}
use mathlib.Core.Bool.{Bool, true, false, false≢true}
use mathlib.Core.List.{List, [], ◌∷◌}
use Rattle.std.specs.Prelude.{Option, None, Some}
use lib.Dec.{ltb, leb}
use lib.ListN.{length, get_or}
use borrow.Author.Tests.{eqb-true, leb-true}
use Rattle.meaning.specs.Logic.{Is, is, and_i, eq→Is}
use Rattle.meaning.specs.Formulas.{Term, number, Formula, constant}
use Rattle.meaning.specs.Ranges.{is_range, sound_term, sound_terms, sound}
use Rattle.formulas.specs.declared.Kind.{Kind}
use Rattle.formulas.specs.declared.Kind.TheVariants.{Constant, Join, Quantifier, Compare, Instance}
use Rattle.formulas.specs.declared.TermKind.{TermKind}
use Rattle.formulas.specs.declared.TermKind.TheVariants.{Number, Variable, Calculation}
use Rattle.formulas.specs.Codes.{kind_of, term_kind_of, operands_of}
use Rattle.formulas.specs.Decode.{Parsed, none, some, then, when, in_row, nth_term}
use Rattle.formulas.specs.Decode.{term_of_kind, term_at, terms_at, formula_of_kind, formula_at}
use Rattle.formulas.specs.Bodies.{body_at, found, formula_of, ends, is_body}
use Rattle.formulas.specs.Contract.{Told, refused, told, ToldWithin, within, past}

-- P holds of what was read and of where it ends
pub data Every {A : Type 0} (P : A → ℕ → Type 0) : Parsed A → Type 0 where
  unread : Every P none
  each : {a : A} {e : ℕ} → P a e → Every P (some a e)

module _ {A B : Type 0} {P : A → ℕ → Type 0} {Q : B → ℕ → Type 0} where
  pub every_then : {p : Parsed A} (k : A → ℕ → Parsed B) → Every P p → ((a : A) (e : ℕ) → P a e → Every Q (k a e))
      → Every Q (then p k)
  every_then k unread f = unread
  every_then k (each {a} {e} h) f = f a e h

  pub every_last : {p : Parsed A} (g : A → B) → Every P p → ((a : A) (e : ℕ) → P a e → Q (g a) e)
      → Every Q (then p (λ a e. some (g a) e))
  every_last g p f = every_then _ p (λ a e h. each (f a e h))

module _ {A : Type 0} {P : A → ℕ → Type 0} where
  pub every_when : {p : Parsed A} (b : Bool) → (b ≡ true → Every P p) → Every P (when b p)
  every_when true f = f refl
  every_when false f = unread

  every_some : {a : A} {e : ℕ} → Every P (some a e) → P a e
  every_some (each h) = h

-- P holds of what was read, and it ends at b or later
abbrev pub From : {A : Type 0} → (A → Type 0) → ℕ → A → ℕ → Type 0
From P b a e = P a × (b ≤ e)

-- ---- so what is told of it goes on as far; and what ends past a limit may be refused
pub told_on : {A : Type 0} {P Q : A → Type 0} {p : Parsed A} {limit size e b : ℕ} → ToldWithin limit size P e p true
    → Every (From Q b) p → b ≤ e
told_on (within (told h)) (each g) = g.1

pub told_past : {A : Type 0} {P Q : A → Type 0} {p : Parsed A} {limit size e b : ℕ} → limit < size → limit < b
    → Every (From Q b) p → ToldWithin limit size P e p false
told_past x y unread = within refused
told_past x y (each {e} h) = past {m = e} x (omega (arith, h.1))

pub told_every : {A : Type 0} {P : A → Type 0} {Q : A → ℕ → Type 0} {p : Parsed A} {e : ℕ} {ok : Bool} → Told P e p ok → Every Q p
    → Told (λ a. P a × Q a e) e p ok
told_every refused g = refused
told_every (told h) (each g) = told (h, g)

-- ---- c operands in a row from `at`: there are c, and P holds of each
pub record Row {A : Type 0} (P : A → Type 0) (d : A) (c at : ℕ) (l : List A) (e : ℕ) : Type 0 where
  pub long : length l ≡ c
  pub all : (i : ℕ) → P (get_or l i d)
  pub on : at ≤ e

every_row : {A : Type 0} {P : A → Type 0} (d : A) → P d → (one : ℕ → Parsed A) → ((at : ℕ) → Every (From P at) (one at))
    → (c at : ℕ) → Every (Row P d c at) (in_row one c at)
unfolding in_row
every_row d h one f zero at = each {e = at} (record { long = refl; all = λ i. h; on = omega arith })
every_row {A = A} {P = P} d h one f (suc c) at =
    every_then _ (f at) (λ a m p. every_last _ (every_row d h one f c m) (λ l e r. record {
      long = ap suc r.long;
      all = λ i. elim i as (λ k. P (get_or (a ∷ l) k d)) [ zero ↦ p.0 | suc j ↦ r.all j ];
      on = omega (arith, p.1, r.on);
    }))

-- ---- terms
pub SoundTerm : ℕ → Term → Type 0
SoundTerm k t = Is (sound_term k t)

module _ (s : List ℕ) (k : ℕ) where
  every_term_kind : (sub : ℕ → Parsed Term) → ((at : ℕ) → Every (From (SoundTerm k) at) (sub at))
      → (kind : Option TermKind) (c at : ℕ) → Every (From (SoundTerm k) at) (term_of_kind sub kind c s k at)
  unfolding term_of_kind SoundTerm sound_term
  every_term_kind sub f None c at = unread
  every_term_kind sub f (Some Number) c at = every_when (leb (get_or s (at + 1) 0) 15) (λ h. each (eq→Is h, omega arith))
  every_term_kind sub f (Some Variable) c at = every_when (ltb (get_or s (at + 1) 0) k) (λ h. each (eq→Is h, omega arith))
  every_term_kind sub f (Some (Calculation plus)) c at =
      every_when (is_range (get_or s (at + 1) 0)) (λ h. every_last _ (every_row (number 0) is sub f (c - 1) (at + 2))
      (λ ts e r. (and_i (and_i (eq→Is h) (r.all 0)) (r.all 1), omega (arith, r.on))))

  pub every_term : (n at : ℕ) → Every (From (SoundTerm k) at) (term_at n s k at)
  unfolding term_at
  every_term zero at = unread
  every_term (suc n) at =
      every_term_kind (term_at n s k) (every_term n) (term_kind_of (get_or s at 0)) (operands_of (get_or s at 0)) at

  pub every_terms : (n c at : ℕ) → Every (Row (SoundTerm k) (number 0) c at) (terms_at n c s k at)
  unfolding SoundTerm sound_term
  every_terms n c at = every_row (number 0) is (term_at n s k) (every_term n) c at

all_sound : (k : ℕ) (ts : List Term) → ((i : ℕ) → SoundTerm k (nth_term ts i)) → Is (sound_terms k ts)
unfolding sound_terms SoundTerm
all_sound k [] f = is
all_sound k (t ∷ ts) f = and_i (f 0) (all_sound k ts (λ i. f (suc i)))

-- ---- formulas
pub SoundFormula : ℕ → ℕ → Formula → Type 0
SoundFormula k q f = Is (sound k q f)

-- a formula's end is past its place
earlier : {A : Type 0} {P : A → Type 0} {p : Parsed A} {b : ℕ} → Every (From P (b + 1)) p → Every (From P b) p
earlier unread = unread
earlier (each {e} h) = each {e = e} (h.0, omega (arith, h.1))

module _ (s : List ℕ) where
  every_kind : (n : ℕ) (sub : ℕ → ℕ → ℕ → Parsed Formula) → ((k q at : ℕ) → Every (From (SoundFormula k q) at) (sub k q at))
      → (kind : Option Kind) (c k q at : ℕ) → Every (From (SoundFormula k q) (at + 1)) (formula_of_kind n sub kind c s k q at)
  unfolding formula_of_kind SoundFormula SoundTerm sound
  every_kind n sub f None c k q at = unread
  every_kind n sub f (Some (Constant b)) c k q at = each {e = at + (1 + c)} (is, omega arith)
  every_kind n sub f (Some (Join all)) c k q at =
      every_last _ (every_row (constant false) is (sub k q) (f k q) c (at + 1)) (λ fs e r. (and_i (r.all 0) (r.all 1), r.on))
  every_kind n sub f (Some (Quantifier all)) c k q at =
      every_when (ltb q 4) (λ d. every_when (is_range (get_or s (at + 1) 0)) (λ h.
      every_last _ (every_row (constant false) is (sub (k + 1) (q + 1)) (f (k + 1) (q + 1)) (c - 1) (at + 2))
      (λ fs e r. (and_i (and_i (eq→Is d) (eq→Is h)) (rw (add-one k, add-one q) at (r.all 0)), omega (arith, r.on)))))
  every_kind n sub f (Some (Compare t)) c k q at =
      every_last _ (every_terms s k n c (at + 1)) (λ ts e r. (and_i (r.all 0) (r.all 1), r.on))
  every_kind n sub f (Some Instance) c k q at =
      every_when (leb (get_or s (at + 2) 0) 4) (λ h. every_last _ (every_terms s k n (get_or s (at + 2) 0) (at + (1 + c)))
      (λ ts e r. (and_i (eq→Is (ap (λ (x : ℕ). leb x 4) r.long ∙ h)) (all_sound k ts r.all), omega (arith, r.on))))

  pub every_formula : (n k q at : ℕ) → Every (From (SoundFormula k q) (at + 1)) (formula_at n s k q at)
  unfolding formula_at
  every_formula zero k q at = unread
  every_formula (suc n) k q at =
      every_kind n (formula_at n s) (λ k q at. earlier (every_formula n k q at)) (kind_of (get_or s at 0))
      (operands_of (get_or s at 0)) k q at

-- ---- so of what was read: it is sound, and it ends past its place
module _ (s : List ℕ) (n k at : ℕ) {e : ℕ} where
  pub terms_sound : (c : ℕ) {ts : List Term} → terms_at n c s k at ≡ some ts e → Is (sound_terms k ts) × (at ≤ e)
  terms_sound c {ts} h = let row = every_some (rw h at (every_terms s k n c at)) in (all_sound k ts row.all, row.on)

  pub formula_sound : (q : ℕ) {f : Formula} → formula_at n s k q at ≡ some f e → Is (sound k q f) × (at < e)
  unfolding SoundFormula
  formula_sound q h = let read = every_some (rw h at (every_formula s n k q at)) in (read.0, omega (arith, read.1))

-- ---- a body that is one formula
ended : (p : Parsed Formula) (z : ℕ) → ends z p ≡ true → p ≡ some (found p) z
ended none z h = absurd (false≢true h)
ended (some f m) z h = ap (some f) (eqb-true m z h)

guarded : (b : Bool) (p : Parsed Formula) (z : ℕ) → ends z (when b p) ≡ true → (b ≡ true) × (p ≡ some (found (when b p)) z)
guarded true p z h = (refl, ended p z h)
guarded false p z h = absurd (false≢true h)

module _ (s rs : List ℕ) (h : is_body s rs ≡ true) where
  read_whole : (leb (length s) 256 ≡ true) × (formula_at (length s) s (length rs) 0 0 ≡ some (formula_of s rs) (length s))
  unfolding is_body body_at
  read_whole = guarded (leb (length s) 256) (formula_at (length s) s (length rs) 0 0) (length s) h

  pub body_short : length s ≤ 256
  body_short = leb-true (length s) 256 read_whole.0

  pub body_whole : formula_at (length s) s (length rs) 0 0 ≡ some (formula_of s rs) (length s)
  body_whole = read_whole.1

  pub body_sound : Is (sound (length rs) 0 (formula_of s rs))
  unfolding SoundFormula
  body_sound = (every_some (rw body_whole at (every_formula s (length s) (length rs) 0 0))).0
