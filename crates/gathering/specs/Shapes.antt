-- DEFINITIONS: the shape of what is left of a right side: a constant, one instance, a plain `and` or `or`.
-- The shape of a join is the join of its parts' shapes, whether a constant decides it or not.
use Rattle.std.specs.Prelude.{ℕ, Bool, true, false, cond, not, ◌&&◌, List, [], ◌++◌}
use Rattle.std.specs.Bool.{beq}
use Rattle.meaning.specs.Simplification.{Tree, leaf, node, Simplified, decided, left}
use Rattle.instances.specs.Graph.{words_left}
use Rattle.gathering.specs.declared.Shape.{Shape}
use Rattle.gathering.specs.declared.Shape.TheVariants.{Decided, One, Plain, Mixed}

abbrev pub is_decided : Shape → Bool
is_decided (Decided c) = true
is_decided One = false
is_decided (Plain b) = false
is_decided Mixed = false

-- a part of this shape alone decides an `and` (all is true) or an `or`: false in an `and`, true in an `or`
abbrev pub decides : Bool → Shape → Bool
decides all (Decided c) = not (beq c all)
decides all One = false
decides all (Plain b) = false
decides all Mixed = false

-- what is left is one instance, or joined by this connective alone
abbrev pub fits : Bool → Shape → Bool
fits all (Decided c) = false
fits all One = true
fits all (Plain b) = beq b all
fits all Mixed = false

-- true is the `and` of nothing, false the `or` of nothing
abbrev pub is_plain : Bool → Shape → Bool
is_plain all (Decided c) = beq c all
is_plain all One = true
is_plain all (Plain b) = beq b all
is_plain all Mixed = false

-- ---- the shape of an `and` (all is true) or of an `or`
-- "False in an `and` makes it false, true in an `or` makes it true; otherwise a constant part is dropped"
abbrev pub joined_constant : Bool → Bool → Shape → Shape
joined_constant all c other = cond (beq c all) other (Decided c)

abbrev pub joined_open : Bool → Shape → Shape → Shape
joined_open all a b = cond (fits all a && fits all b) (Plain all) Mixed

-- where something is left of the first part
abbrev pub joined_left : Bool → Shape → Shape → Shape
joined_left all a (Decided c) = joined_constant all c a
joined_left all a One = joined_open all a One
joined_left all a (Plain b) = joined_open all a (Plain b)
joined_left all a Mixed = joined_open all a Mixed

abbrev pub joined_shape : Bool → Shape → Shape → Shape
joined_shape all (Decided c) b = joined_constant all c b
joined_shape all One b = joined_left all One b
joined_shape all (Plain p) b = joined_left all (Plain p) b
joined_shape all Mixed b = joined_left all Mixed b

unfoldable pub tree_shape : Tree → Shape
tree_shape (leaf e x) = One
tree_shape (node all t u) = joined_shape all (tree_shape t) (tree_shape u)

unfoldable pub shape_of : Simplified → Shape
shape_of (decided c) = Decided c
shape_of (left t) = tree_shape t

-- ---- what is told of something left: the words of its instances, and its shape
abbrev pub Gist : Type 0
Gist = List ℕ × Shape

abbrev pub gist : Simplified → Gist
gist x = (words_left x, shape_of x)

-- two parts of which none decides the whole
abbrev pub joined_gist : Bool → Gist → Gist → Gist
joined_gist all a b = (a.0 ++ b.0, joined_shape all a.1 b.1)

abbrev pub no_gist : Bool → Gist
no_gist all = ([], Decided all)
