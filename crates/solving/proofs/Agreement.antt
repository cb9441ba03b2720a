-- A table solved by turns agrees with the solution of the system of its instances.
-- Turn by turn the set is the next approximation of the first equation; as many turns as there are instances reach
-- its fixed point.
use Prim.Native.Nat.{ℕ, zero, suc, ◌≤◌, ◌<◌}
use native.Mathlib.Decide.{dec_lt}
use native.Mathlib.Omega.{arith}
use mathlib.Core.Path.{◌≡◌, refl, sym, subst, ◌∙◌, ap, fun_ext}
use mathlib.Core.Bool.{Bool, true, false, cond}
use mathlib.Core.List.{List, [], ◌∷◌}
use lib.ListN.{length, get_or, get_or-eq_default}
use lib.Dec.{eqb}
use borrow.Author.Tests.{eqb-true}
use Rattle.meaning.specs.Logic.{Is, and-true}
use Rattle.meaning.specs.Solution.{Args, Set, Assign, Equation, put, mem, fix, solution}
use Rattle.meaning.specs.Reach.{Instance}
use Rattle.meaning.proofs.Members.{mem_head, mem_tail}
use Rattle.meaning.proofs.FixedPoints.{part_in}
use Rattle.meaning.specs.Systems.{image, Rising, AllRising}
use Rattle.meaning.proofs.Systems.{image_rising}
use Rattle.meaning.specs.Iteration.{iterated}
use Rattle.meaning.proofs.Iteration.{iterated_reaches}
use Rattle.meaning.specs.Table.{arguments_at, narrow}
use Rattle.meaning.proofs.Table.{arguments_mem, arguments_length}
use Rattle.systems.specs.Numbered.{Truths, Numbered}
use Rattle.systems.specs.Solved.{filled, always, repeated, first_candidate, next_candidate, turn, solved}

-- the set v says of each instance of the list what θ says of it
abbrev pub Agrees : List Instance → Truths → Assign → Type 0
Agrees l v θ = (j e : ℕ) (x : Args) → get_or l j [] ≡ e ∷ x → v j ≡ θ e x

pub inside : (l : List Instance) (j e : ℕ) (x : Args) → get_or l j [] ≡ e ∷ x → j < length l
inside l j e x q = elim (dec_lt j (length l)) [
  | yes h ↦ h
  | no h ↦ let past = get_or-eq_default l [] {n = j} (omega arith) in let z : ◌≡◌ {A = ℕ} 0 1 = cc in absurd (omega arith)
]

pub mem_at : (l : List Instance) (j : ℕ) → j < length l → Is (mem (get_or l j []) l)
mem_at [] j h = absurd (omega arith)
mem_at (i ∷ l) zero h = mem_head i l
mem_at (i ∷ l) (suc j) h = mem_tail (get_or l j []) i l (mem_at l j (omega arith))

pub listed : (l : List Instance) (j e : ℕ) (x : Args) → get_or l j [] ≡ e ∷ x → Is (mem (e ∷ x) l)
listed l j e x q = subst (λ (i : Instance). Is (mem i l)) q (mem_at l j (inside l j e x q))

module _ (l : List Instance) (S : Numbered) where
  -- the instances of equation e are those of the list that name it
  abbrev pub Divided : Type 0
  Divided = (e j m : ℕ) (x : Args) → get_or l j [] ≡ m ∷ x → S.of e j ≡ eqb e m

  -- r is the right side of equation e: in a set that agrees with θ the table's right sides are r's in θ
  abbrev pub Right : ℕ → (Assign → Set) → Type 0
  Right e r = (v : Truths) (θ : Assign) → Agrees l v θ → (j : ℕ) (x : Args) → get_or l j [] ≡ e ∷ x → S.right_sides v j ≡ r θ x

  -- the table has the signs and the right sides of these equations, numbered from e on
  abbrev pub Follows : ℕ → List Equation → Type 0
  Follows e [] = Unit {0}
  Follows e (q ∷ qs) = (q.number ≡ e) × (S.greatest e ≡ q.sign) × Right e q.right × Follows (suc e) qs

  module _ (divided : Divided) where
    -- a set that differs from what agrees with θ at equation e alone, and has X there
    filled_agrees : (e : ℕ) (new old : Truths) (X : Set) (θ : Assign)
        → ((j m : ℕ) (x : Args) → get_or l j [] ≡ m ∷ x → eqb e m ≡ false → old j ≡ θ m x)
        → ((j : ℕ) (x : Args) → get_or l j [] ≡ e ∷ x → new j ≡ X x)
        → Agrees l (filled (S.of e) new old) (put e X θ)
    unfolding filled
    filled_agrees e new old X θ h g j m x q = rw (divided e j m x q) (go (eqb e m) refl)
      where
        go : (b : Bool) → eqb e m ≡ b → cond b (new j) (old j) ≡ cond b X (θ m) x
        go true t = g j x (q ∙ ap (λ (k : ℕ). k ∷ x) (sym (eqb-true e m t)))
        go false t = h j m x q t

    -- the loop of equation e: `later` are the equations after it, which `inner` solves
    module _ (e : ℕ) (s : Bool) (r : Assign → Set) (later : List Equation) (inner : Truths → Truths)
        (sign : S.greatest e ≡ s) (right : Right e r)
        (solves : (v : Truths) (θ : Assign) → Agrees l v θ → Agrees l (inner v) (solution later θ))
        (v : Truths) (θ : Assign) (h : Agrees l v θ) where
      abbrev own : List Args
      own = arguments_at e l

      abbrev approximation : ℕ → Set
      approximation = iterated s own (image e r later θ)

      named : (j : ℕ) (x : Args) → get_or l j [] ≡ e ∷ x → Is (mem x own)
      named j x q = subst Is (sym (arguments_mem e l x)) (listed l j e x q)

      -- after k turns the set has the k-th approximation
      turns_agree : (k : ℕ) → Agrees l (repeated k (turn S e inner) (first_candidate S e v)) (put e (approximation k) θ)
      unfolding repeated first_candidate next_candidate turn always iterated
      turns_agree zero = filled_agrees e _ v _ θ (λ j m x q _. h j m x q) (λ j x q. sign ∙ sym (and-true s _ (named j x q)))
      turns_agree (suc k) = filled_agrees e _ _ _ θ
          (λ j m x q t. turns_agree k j m x q ∙ ap (λ (b : Bool). cond b (approximation k) (θ m) x) t)
          (λ j x q. right _ _ (solves _ _ (turns_agree k)) j x q
          ∙ sym (part_in own (image e r later θ (approximation k)) x (named j x q)))

      -- and as many turns as there are instances give the equation its set
      last_agrees : length l ≤ S.size → Rising r → AllRising later
          → Agrees l (repeated S.size (turn S e inner) (first_candidate S e v)) (put e (fix s own (image e r later θ)) θ)
      last_agrees enough p ps j m x q = turns_agree S.size j m x q
          ∙ ap (λ (X : Set). put e X θ m x)
          (fun_ext (iterated_reaches s own (image e r later θ) (image_rising e r later p ps θ) S.size
          (omega (arith, arguments_length e l, enough))))

    -- a table solved by turns agrees with the solution of the system of its instances
    pub solved_agrees : length l ≤ S.size → (e : ℕ) (qs : List Equation) → AllRising (narrow l qs) → Follows e qs
        → (v : Truths) (θ : Assign) → Agrees l v θ → Agrees l (solved S (length qs) e v) (solution (narrow l qs) θ)
    unfolding solved solution narrow
    solved_agrees enough e [] p f v θ h = h
    solved_agrees enough e (q ∷ qs) p f v θ h =
        let solves = solved_agrees enough (suc e) qs p.1 f.3 in
        let inner = solved S (length qs) (suc e) in
        let last = last_agrees e q.sign q.right (narrow l qs) inner f.1 f.2 solves v θ h enough p.0 p.1 in
        solves _ _ (rw f.0 last)
