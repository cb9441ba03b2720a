-- DEFINITIONS: the graph of a table of words: what each right side reads, its readers, and what is plain.
-- It stands in rows of sets: one for each instance's reads, one for its readers, one for each equation's
-- instances, and two for the right sides that are a plain `and` or a plain `or`.
use Rattle.std.specs.Prelude.{ℕ, ◌+◌, ◌≤◌, ◌<◌, ◌≡◌, Bool, true, false, cond, ◌&&◌, ◌||◌, List, [], ◌∷◌, map}
use Rattle.std.specs.Prelude.{eqb, ltb, length, get_or}
use Rattle.std.specs.Bool.{beq}
use Rattle.meaning.specs.Logic.{Is}
use Rattle.meaning.specs.Solution.{mem}
use Rattle.meaning.specs.Simplification.{Tree, leaf, node, Simplified, decided, left, simplified}
use Rattle.meaning.specs.Reach.{Instance, instances}
use Rattle.meaning.specs.Words.{word}
use Rattle.formulas.specs.declared.Equation.{Equation}
use Rattle.truth.specs.Rows.{row_of}
use Rattle.words.specs.Unpacked.{equation_number}
use Rattle.evaluator.specs.Values.{index_of}
use Rattle.systems.specs.Numbered.{Truths}
use Rattle.instances.specs.Sides.{formula_in, arguments_in, among_first, names}

-- what is left of the right side of the instance that a word names
abbrev pub left_in : List ℕ → List Equation → ℕ → Simplified
left_in bodies equations w =
    simplified (formula_in bodies equations (equation_number w)) (arguments_in equations w)

-- the words of the instances that are left
abbrev pub words_left : Simplified → List ℕ
words_left x = map word (instances x)

-- ---- what is read
-- the numbers that some words have in a table
unfoldable pub numbers : List ℕ → List ℕ → Truths
numbers table [] k = false
numbers table (w ∷ ws) k = eqb k (index_of table w) || numbers table ws k

-- the numbers of the instances that are left in the right side of instance j
unfoldable pub reads_in : List ℕ → List Equation → List ℕ → ℕ → Truths
reads_in bodies equations table j k =
    ltb j (length table) && numbers table (words_left (left_in bodies equations (get_or table j 0))) k

-- ---- what is plain
-- every join in a tree is an `and` (all is true), or every one is an `or`
unfoldable pub plain_tree : Bool → Tree → Bool
plain_tree all (leaf e x) = true
plain_tree all (node b t u) = beq b all && (plain_tree all t && plain_tree all u)

-- true is the `and` of nothing, false the `or` of nothing
unfoldable pub plain_as : Bool → Simplified → Bool
plain_as all (decided c) = beq c all
plain_as all (left t) = plain_tree all t

-- ---- the rows
abbrev pub readers_row : ℕ → ℕ
readers_row i = 512 + i

abbrev pub members_row : ℕ → ℕ
members_row e = 1024 + e

abbrev pub plain_row : Bool → ℕ
plain_row all = cond all 1032 1033

-- how many words they have: 1,034 rows of eight
abbrev pub graph_words : ℕ
graph_words = 8272

-- every instance that is left in a right side has a number, and the rows say which
pub record GraphOf (bodies : List ℕ) (equations : List Equation) (table graph : List ℕ) : Type 0 where
  pub few : length table ≤ 512
  pub closed : (j : ℕ) → j < length table → (i : Instance)
      → Is (mem i (instances (left_in bodies equations (get_or table j 0))))
      → index_of table (word i) < length table
  pub reads : (j : ℕ) → j < length table → row_of graph j ≡ reads_in bodies equations table j
  pub readers : (i k : ℕ) → i < length table
      → row_of graph (readers_row i) k ≡ reads_in bodies equations table k i
  pub members : (e : ℕ) → e < 8 → row_of graph (members_row e) ≡ among_first (length table) (names table e)
  pub plain : (all : Bool) (j : ℕ) → j < length table
      → row_of graph (plain_row all) j ≡ plain_as all (left_in bodies equations (get_or table j 0))
