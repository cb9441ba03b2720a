-- DEFINITIONS: simplified right sides. Document 01, "Meaning and reach", "with this simplification".
-- A simplified right side is a constant, or a tree: instances joined by `and` and `or`, no constant in it.
use Rattle.std.specs.Prelude.{ℕ, Bool, cond, List, [], ◌∷◌, ◌++◌}
use Rattle.std.specs.Bool.{beq}
use Rattle.meaning.specs.Logic.{join, over}
use Rattle.meaning.specs.Solution.{Args, Assign}
use Rattle.meaning.specs.Formulas.{Formula, constant, joined, quantified, compared, instance}
use Rattle.meaning.specs.Formulas.{value, values, test_holds}

-- "Nothing else is simplified (X and X stays)": a leaf is the instance of an equation with these arguments, a
-- node is the `and` (true) or the `or` (false) of two trees
pub data Tree : Type 0 where
  leaf : ℕ → Args → Tree
  node : Bool → Tree → Tree → Tree

-- "a constant part is dropped": so a simplified right side is a constant, or has none
pub data Simplified : Type 0 where
  decided : Bool → Simplified
  left : Tree → Simplified

-- "False in an `and` makes it false, true in an `or` makes it true; otherwise a constant part is dropped":
-- `all` itself is the constant that is dropped
unfoldable pub join_simplified : Bool → Simplified → Simplified → Simplified
join_simplified all (decided c) b = cond (beq c all) b (decided c)
join_simplified all (left t) (decided c) = cond (beq c all) (left t) (decided c)
join_simplified all (left t) (left u) = left (node all t u)

-- "Data tests become true or false"; "Quantifiers are the `and` or `or` over values from 0 up"
unfoldable pub simplified : Formula → List ℕ → Simplified
simplified (constant b) v = decided b
simplified (joined all f g) v = join_simplified all (simplified f v) (simplified g v)
simplified (quantified all r f) v =
    over (join_simplified all) (decided all) 0 r (λ i. simplified f (v ++ (i ∷ [])))
simplified (compared t a b) v = decided (test_holds t (value a v) (value b v))
simplified (instance e ts) v = left (leaf e (values ts v))

-- whether a tree, and a simplified right side, holds where θ is the truth of the instances
unfoldable pub tree_holds : Tree → Assign → Bool
tree_holds (leaf e x) θ = θ e x
tree_holds (node all t u) θ = join all (tree_holds t θ) (tree_holds u θ)

unfoldable pub simplified_holds : Simplified → Assign → Bool
simplified_holds (decided c) θ = c
simplified_holds (left t) θ = tree_holds t θ
