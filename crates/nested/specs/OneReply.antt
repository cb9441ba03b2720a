-- ONE REPLY: two results that the contract allows are equal.
-- The contract is an equation of what the set says of each number, and that determines its eight words.
use Rattle.std.specs.Prelude.{ℕ, min, ◌≡◌, List, take}
use Rattle.formulas.specs.declared.Equation.{Equation}
use Rattle.truth.specs.Bits.{bit_of, nowhere}
use Rattle.truth.proofs.Bits.{Eight}
use Rattle.truth.proofs.OneReply.{one_set}
use Rattle.systems.specs.Solved.{solved}
use Rattle.instances.specs.Sides.{numbered_system}

pub one_nested_solution : (bodies : List ℕ) (equations : List Equation) (count : ℕ) (table r s : List ℕ)
    → Eight r → Eight s
    → bit_of r ≡ solved (numbered_system bodies equations (take 512 table)) (min count 8) 0 nowhere
    → bit_of s ≡ solved (numbered_system bodies equations (take 512 table)) (min count 8) 0 nowhere
    → r ≡ s
one_nested_solution bodies equations count table r s = one_set
