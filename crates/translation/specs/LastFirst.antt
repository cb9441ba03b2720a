-- The last equations of a system may be solved first, in the right sides of the others.
-- By induction over the others: what solves the rest is one function, at each candidate set.
use Rattle.std.specs.Prelude.{ℕ, ◌≡◌, refl, List, [], ◌∷◌, ◌++◌}
use Rattle.std.proofs.Common.{◌∙◌, ap, eq-eqb, ne_eqb}
use Rattle.std.proofs.Math.Path.{fun_ext}
use Rattle.meaning.specs.Solution.{Set, Assign, Equation, put, fix, solution}
use Rattle.meaning.specs.Systems.{equation}

-- a set put at a number
pub put_here : (n : ℕ) (S : Set) (θ : Assign) → put n S θ n ≡ S
put_here n S θ = rw (eq-eqb n n refl) refl

put_there : (n m : ℕ) (S : Set) (θ : Assign) → (n ≡ m → ⊥) → put n S θ m ≡ θ m
put_there n m S θ d = rw (ne_eqb n m d) refl

-- no equation has number m
abbrev pub Without : ℕ → List Equation → Type 0
Without m [] = Unit {0}
Without m (e ∷ es) = (e.number ≡ m → ⊥) × Without m es

pub solution_without : (m : ℕ) (es : List Equation) → Without m es → (θ : Assign) → solution es θ m ≡ θ m
unfolding solution
solution_without m [] w θ = refl
solution_without m (e ∷ es) w θ = solution_without m es w.1 _ ∙ put_there e.number m _ θ w.0

pub without_append : (m : ℕ) (es fs : List Equation) → Without m es → Without m fs → Without m (es ++ fs)
without_append m [] fs p q = q
without_append m (e ∷ es) fs p q = (p.0, without_append m es fs p.1 q)

-- an equation, and those of a system, with fs solved in their right sides
abbrev with_solved : List Equation → Equation → Equation
with_solved fs e = equation e.number e.sign e.points (λ θ. e.right (solution fs θ))

unfoldable pub through : List Equation → List Equation → List Equation
through fs [] = []
through fs (e ∷ es) = with_solved fs e ∷ through fs es

pub through_append : (gs es fs : List Equation) → through gs (es ++ fs) ≡ through gs es ++ through gs fs
unfolding through
through_append gs [] fs = refl
through_append gs (e ∷ es) fs = ap (◌∷◌ (with_solved gs e)) (through_append gs es fs)

-- the solution of a system that begins with e, where K solves the rest
abbrev first_solved : Equation → Assign → (Assign → Assign) → Assign
first_solved e θ K =
    K (put e.number (fix e.sign e.points (λ S. e.right (K (put e.number S θ)))) θ)

pub last_first : (es fs : List Equation) (θ : Assign) →
    solution (es ++ fs) θ ≡ solution fs (solution (through fs es) θ)
unfolding solution through
last_first [] fs θ = refl
last_first (e ∷ es) fs θ = ap (first_solved e θ) (fun_ext (last_first es fs))
