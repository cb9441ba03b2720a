-- ONE REPLY: of a system that can be solved, two results that the contract allows are equal.
-- The contract is an equation of the result.
use Rattle.std.specs.Prelude.{ℕ, ◌≡◌, List}
use Rattle.meaning.specs.OneReply.{one_reply}
use Rattle.meaning.specs.Reach.{Instance}
use Rattle.formulas.specs.declared.Equation.{Equation}
use Rattle.solving.specs.Promise.{Solvable, Solves}

pub one_solution_of : (bodies : List ℕ) (equations : List Equation) (count : ℕ) (table graph : List ℕ)
    (start : Instance) → Solvable bodies equations count table graph start → {r s : List ℕ}
    → Solves bodies equations count table graph r → Solves bodies equations count table graph s → r ≡ s
one_solution_of bodies equations count table graph start h p q = one_reply (p start h) (q start h)
