-- How many words the equations have together, and how many one can have: all of a list have the equations of
-- a model together, and none has more than its arguments in range.
-- The first by taking the words one by one; the second since words that differ have other arguments.
use Rattle.std.specs.Prelude.{ℕ, zero, suc, ◌+◌, ◌*◌, ◌≤◌, ◌<◌, ◌≡◌, Bool, true, false, cond, eqb, length}
use Rattle.std.specs.Prelude.{take}
use native.Mathlib.{Decide.dec_le, Omega.arith}
use Rattle.std.proofs.Math.Path.{refl}
use Rattle.std.proofs.Common.{sym, ap, ◌∙◌, ⊎_elim, length-append, eqb-true}
use mathlib.Core.List.{List, [], ◌∷◌, map}
use Rattle.std.proofs.lemmas.List.{length-map}
use Rattle.std.proofs.lemmas.Bool.{eqb-false}
use Rattle.meaning.specs.Logic.{Is, never, and_r}
use Rattle.meaning.specs.Solution.{Args, mem}
use Rattle.meaning.specs.Models.{Model, spread, in_range}
use Rattle.meaning.specs.Reach.{Instance}
use Rattle.meaning.specs.Ranges.{signatures, typed, well_formed}
use Rattle.meaning.specs.Typed.{ranges_at}
use Rattle.meaning.proofs.Typed.{typed_equation, signatures_length}
use Rattle.meaning.specs.Members.{AllOf, Once}
use Rattle.meaning.proofs.Members.{mem_head, mem_tail, mem_cases, mem_nothing}
use Rattle.meaning.proofs.InRange.{within_mem}
use Rattle.meaning.proofs.Pigeonhole.{pigeonhole}
use Rattle.meaning.specs.Words.{word}
use Rattle.meaning.proofs.WordLaws.{word_equation}
use Rattle.words.specs.Unpacked.{equation_number}
use Rattle.words.specs.Counts.{count_with, count_none, count_one, count_other}

-- ---- together
-- how many words have one of the n equations from number k on
unfoldable pub count_among : (k n : ℕ) → List ℕ → ℕ
count_among k zero ws = 0
count_among k (suc n) ws = count_with k ws + count_among (suc k) n ws

among_none : (k n : ℕ) → count_among k n [] ≡ 0
unfolding count_among
among_none k zero = refl
among_none k (suc n) = omega (arith, count_none k, among_none (suc k) n)

-- a word in front whose equation comes before them, or is one of them
among_before : (k n w : ℕ) (ws : List ℕ) → equation_number w < k
    → count_among k n (w ∷ ws) ≡ count_among k n ws
unfolding count_among
among_before k zero w ws h = refl
among_before k (suc n) w ws h =
    omega (arith, count_other k w ws (λ e. omega arith), among_before (suc k) n w ws (omega arith))

among_one : (k n w : ℕ) (ws : List ℕ) → k ≤ equation_number w → equation_number w < k + n
    → count_among k n (w ∷ ws) ≡ suc (count_among k n ws)
unfolding count_among
among_one k zero w ws h l = absurd (omega arith)
among_one k (suc n) w ws h l = elim (dec_le (equation_number w) k) [
  | yes e ↦ omega (arith, count_one k w ws (omega arith), among_before (suc k) n w ws (omega arith))
  | no e ↦
      let more = among_one (suc k) n w ws (omega arith) (omega arith) in
      omega (arith, count_other k w ws (λ q. omega arith), more)
]

-- each word has one of the first n equations
abbrev pub Named : ℕ → List ℕ → Type 0
Named n [] = Unit {0}
Named n (w ∷ ws) = (equation_number w < n) × Named n ws

pub named_first : (n m : ℕ) (ws : List ℕ) → Named n ws → Named n (take m ws)
named_first n zero ws h = tt
named_first n (suc m) [] h = tt
named_first n (suc m) (w ∷ ws) h = (h.0, named_first n m ws h.1)

-- then these have all of them
pub among_all : (n : ℕ) (ws : List ℕ) → Named n ws → count_among 0 n ws ≡ length ws
among_all n [] h = among_none 0 n
among_all n (w ∷ ws) h =
    among_one 0 n w ws (omega arith) (omega (arith, h.0)) ∙ ap suc (among_all n ws h.1)

-- ---- one
unfoldable pub product : List ℕ → ℕ
product [] = 1
product (r ∷ rs) = r * product rs

length_spread : (r : ℕ) (l : List Args) → length (spread r l) ≡ r * length l
unfolding spread
length_spread zero l = omega arith
length_spread (suc r) l = omega (
  arith,
  length-append (spread r l) (map (λ x. r ∷ x) l),
  length-map l (λ x. r ∷ x),
  length_spread r l,
)

length_in_range : (rs : List ℕ) → length (in_range rs) ≡ product rs
unfolding in_range product
length_in_range [] = refl
length_in_range (r ∷ rs) =
    length_spread r (in_range rs) ∙ ap (λ (n : ℕ). r * n) (length_in_range rs)

-- the arguments with which equation e stands in a list
arguments_with : ℕ → List Instance → List Args
arguments_with e [] = []
arguments_with e ([] ∷ l) = arguments_with e l
arguments_with e ((f ∷ x) ∷ l) = cond (eqb f e) (x ∷ arguments_with e l) (arguments_with e l)

listed_with : (e : ℕ) (l : List Instance) (x : Args) → Is (mem x (arguments_with e l)) → Is (mem (e ∷ x) l)
unfolding arguments_with
listed_with e [] x h = absurd (mem_nothing x h)
listed_with e ([] ∷ l) x h = mem_tail _ _ l (listed_with e l x h)
listed_with e ((f ∷ y) ∷ l) x h = by_first (eqb f e) (eqb-true f e) h (listed_with e l x)
  where
    by_first : (b : Bool) → (b ≡ true → f ≡ e)
        → Is (mem x (cond b (y ∷ arguments_with e l) (arguments_with e l)))
        → (Is (mem x (arguments_with e l)) → Is (mem (e ∷ x) l)) → Is (mem (e ∷ x) ((f ∷ y) ∷ l))
    by_first true same h rest = ⊎_elim (λ (q : x ≡ y). rw (same refl, q) (mem_head (e ∷ y) l))
        (λ m. mem_tail _ _ l (rest m)) (mem_cases x y _ h)
    by_first false same h rest = mem_tail _ _ l (rest h)

once_with : (e : ℕ) (l : List Instance) → Once l → Once (arguments_with e l)
unfolding arguments_with
once_with e [] o = tt
once_with e ([] ∷ l) o = once_with e l o.1
once_with e ((f ∷ y) ∷ l) o = by_first (eqb f e) (eqb-true f e) (once_with e l o.1)
  where
    by_first : (b : Bool) → (b ≡ true → f ≡ e) → Once (arguments_with e l)
        → Once (cond b (y ∷ arguments_with e l) (arguments_with e l))
    by_first true same rest = ((λ m. o.0 (rw (same refl) (listed_with e l y m))), rest)
    by_first false same rest = rest

-- of instances of a model
module _ (model : Model) (start : Instance) (w : Is (well_formed model start)) where
  abbrev Typed : List Instance → Type 0
  Typed l = AllOf (typed (signatures model)) l

  counted_with : (e : ℕ) (l : List Instance) → Typed l
      → count_with e (map word l) ≡ length (arguments_with e l)
  unfolding arguments_with typed
  counted_with e [] h = count_none e
  counted_with e ([] ∷ l) h = never (h [] (mem_head [] l))
  counted_with e ((f ∷ x) ∷ l) h =
      by_first (eqb f e) refl (counted_with e l (λ i m. h i (mem_tail i _ l m)))
    where
      named : equation_number (word (f ∷ x)) ≡ f
      named = word_equation model start w f x (h (f ∷ x) (mem_head (f ∷ x) l))

      by_first : (b : Bool) → eqb f e ≡ b → count_with e (map word l) ≡ length (arguments_with e l)
          → count_with e (map word ((f ∷ x) ∷ l))
          ≡ length (cond b (x ∷ arguments_with e l) (arguments_with e l))
      by_first true q rest = count_one e (word (f ∷ x)) (map word l) (named ∙ eqb-true f e q) ∙ ap suc rest
      by_first false q rest =
          count_other e (word (f ∷ x)) (map word l) (λ z. eqb-false f e q (sym named ∙ z)) ∙ rest

  pub instances_named : (l : List Instance) → Typed l → Named (length model) (map word l)
  unfolding typed
  instances_named [] h = tt
  instances_named ([] ∷ l) h = never (h [] (mem_head [] l))
  instances_named ((e ∷ x) ∷ l) h =
      let first = h (e ∷ x) (mem_head (e ∷ x) l) in
      let there = typed_equation (signatures model) e x first in (
        omega (arith, word_equation model start w e x first, signatures_length model, there),
        instances_named l (λ i m. h i (mem_tail i _ l m)),
      )

  -- not more than "the product of its ranges"
  pub count_in_range : (e : ℕ) (l : List Instance) → Typed l → Once l
      → count_with e (map word l) ≤ product (ranges_at model e)
  unfolding typed
  count_in_range e l h o =
      let ranges = ranges_at model e in
      let few = pigeonhole (arguments_with e l) (in_range ranges) (once_with e l o)
      (λ x m. within_mem x ranges (and_r _ _ (h (e ∷ x) (listed_with e l x m)))) in
      omega (arith, counted_with e l h, length_in_range ranges, few)
