-- The instances of a list solved alone: on a list that is closed and in range the solution is the same.
-- The two systems differ in their points alone, and these agree on the list; so each is under the other.
use Rattle.std.specs.Prelude.{ℕ, suc, ◌≤◌, ◌≡◌, refl, Bool, true, false, cond, length, eqb}
use Rattle.std.proofs.Common.{arith, subst, ap}
use Rattle.std.proofs.Math.Path.{sym}
use mathlib.Core.List.{List, [], ◌∷◌}
use Rattle.meaning.specs.Logic.{◌and◌, ◌or◌, Is, same_truth}
use Rattle.meaning.specs.Order.{below_refl, below_antisym}
use Rattle.meaning.specs.Solution.{Args, Assign, Equation, mem, same, solution}
use Rattle.meaning.specs.Reach.{Instance}
use Rattle.meaning.specs.FixedPoints.{Agree}
use Rattle.meaning.specs.Systems.{Same_on, Under, no_equation, kept}
use Rattle.meaning.proofs.Systems.{under}
use Rattle.meaning.specs.Systems.{AllRising, AllDepend_on}
use Rattle.meaning.proofs.Systems.{keeps}
use Rattle.meaning.specs.Simplified.{Listed}
use Rattle.meaning.specs.Table.{InPoints, arguments_at, narrow}

pub arguments_mem : (n : ℕ) (l : List Instance) (x : Args) → mem x (arguments_at n l) ≡ mem (n ∷ x) l
unfolding arguments_at mem same ◌and◌ ◌or◌
arguments_mem n [] x = refl
arguments_mem n ([] ∷ l) x = arguments_mem n l x
arguments_mem n ((m ∷ y) ∷ l) x = go (eqb n m) (arguments_mem n l x)
  where
    go : (b : Bool) → mem x (arguments_at n l) ≡ mem (n ∷ x) l →
        mem x (cond b (y ∷ arguments_at n l) (arguments_at n l)) ≡ ((b and same x y) or mem (n ∷ x) l)
    go true e = ap (λ (c : Bool). same x y or c) e
    go false e = e

pub arguments_length : (n : ℕ) (l : List Instance) → length (arguments_at n l) ≤ length l
unfolding arguments_at
arguments_length n [] = omega arith
arguments_length n ([] ∷ l) = omega (arith, arguments_length n l)
arguments_length n ((m ∷ y) ∷ l) = go (eqb n m) (arguments_length n l)
  where
    go : (b : Bool) → length (arguments_at n l) ≤ length l →
        length (cond b (y ∷ arguments_at n l) (arguments_at n l)) ≤ suc (length l)
    go true h = omega arith
    go false h = omega arith

pub narrow_rising : (l : List Instance) (es : List Equation) → AllRising es → AllRising (narrow l es)
unfolding narrow
narrow_rising l [] p = tt
narrow_rising l (e ∷ es) p = (p.0, narrow_rising l es p.1)

module _ (l : List Instance) where
  points_agree : (n : ℕ) (D : List Args) → ((x : Args) → Is (mem (n ∷ x) l) → Is (mem x D)) →
      Agree (Listed l n) D (arguments_at n l)
  points_agree n D f x q = same_truth _ _ (λ _. subst Is (sym (arguments_mem n l x)) q) (λ _. f x q)

  -- each of the two systems is under the other on the list
  narrow_under : (es : List Equation) → AllRising es → AllDepend_on (Listed l) es → InPoints l es →
      Under (Listed l) es (narrow l es) × Under (Listed l) (narrow l es) es
  unfolding narrow
  narrow_under [] p d i = (no_equation, no_equation)
  narrow_under (e ∷ es) p d i =
      let rest = narrow_under es p.1 d.1 i.1 in
      let agree = points_agree e.number e.points i.0 in
      let keep = keeps (Listed l) e.number e.right p.0 d.0 in
      (kept agree (keep _) rest.0, kept (λ x q. sym (agree x q)) (keep _) rest.1)

  pub narrow_value : (es : List Equation) → AllRising es → AllDepend_on (Listed l) es → InPoints l es →
      (θ : Assign) → Same_on (Listed l) (solution (narrow l es) θ) (solution es θ)
  narrow_value es p d i θ m x q =
      let u = narrow_under es p d i in
      below_antisym (under (Listed l) u.1 θ θ (λ k y _. below_refl false) m x q)
      (under (Listed l) u.0 θ θ (λ k y _. below_refl false) m x q)
