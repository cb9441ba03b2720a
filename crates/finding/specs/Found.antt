-- DEFINITIONS: what finding the reached instances of a model promises.
-- The table has the words of the reached instances, in the order of finding, as far as there is room.
use Rattle.std.specs.Prelude.{ℕ, ◌≤◌, ◌≡◌, Bool, true, false, List, ◌++◌, map, ltb, length, take, drop}
use Rattle.std.specs.Prelude.{Option, Some, None}
use Rattle.meaning.specs.Models.{Model}
use Rattle.meaning.specs.Reach.{Instance, reached}
use Rattle.meaning.specs.Words.{word}
use Rattle.formulas.specs.declared.Equation.{Equation}
use Rattle.truth.specs.Bits.{bit_of, nowhere}
use Rattle.instances.specs.Models.{model_in, WellFormedModel}
use Rattle.instances.specs.Graph.{graph_words, GraphOf}

-- the words found: how many stand in the table, and whether one more was found than there is room
pub record Found : Type 0 where
  pub count : ℕ
  pub over : Bool

-- what the answer tells of a table with so much room: None where the words outnumber it, and it is full then
abbrev pub told : ℕ → Option ℕ → Found
told room None = record { count = room; over = true }
told room (Some n) = record { count = n; over = false }

-- the decoded bodies hold a well-formed model, and `start` is the word of its start
pub record Searchable (bodies : List ℕ) (equations : List Equation) (start count : ℕ) (first : Instance)
    : Type 0 where
  pub model : WellFormedModel bodies equations count first
  pub named : start ≡ word first

-- what was found is in the table as far as there is room, the rest of the table is untouched
pub record FoundIn (model : Model) (first : Instance) (room : ℕ) (entry exit : List ℕ) (r : Found)
    : Type 0 where
  pub over : r.over ≡ ltb room (length (reached model first))
  pub count : r.count ≡ length (take room (map word (reached model first)))
  pub table : exit ≡ take room (map word (reached model first)) ++ drop r.count entry

-- where all are found and the lent rows were empty, these are the graph of the table
abbrev pub Draws : List ℕ → List Equation → (table entry exit : List ℕ) → Found → Type 0
Draws bodies equations table entry exit r =
    r.over ≡ false → length entry ≡ graph_words → bit_of entry ≡ nowhere
    → GraphOf bodies equations (take r.count table) exit

pub record Finds (bodies : List ℕ) (equations : List Equation) (start room : ℕ)
    (entry exit graph graph' : List ℕ) (r : Found) : Type 0 where
  pub finds : (count : ℕ) (first : Instance) → Searchable bodies equations start count first
      → FoundIn (model_in bodies equations count) first room entry exit r
  pub draws : (count : ℕ) (first : Instance) → Searchable bodies equations start count first
      → Draws bodies equations exit graph graph' r

-- the same of a table that is left with anything behind the words found: it begins with them, and no more is
-- said of it, since it is compared with itself
pub record FindsBefore (bodies : List ℕ) (equations : List Equation) (start room : ℕ)
    (table graph graph' : List ℕ) (r : Found) : Type 0 where
  pub few : r.count ≤ room
  pub found : Finds bodies equations start room table table graph graph' r
