-- What the functions that gather the instances left in a right side promise.
-- All that is left in a formula is gathered, from left to right; of one that is decided nothing is left.
use Rattle.std.specs.Prelude.{ℕ, ◌+◌, ◌≤◌, ◌≡◌, Bool, true, false, not, List, length}
use Rattle.meaning.specs.Logic.{over}
use Rattle.meaning.specs.Formulas.{Formula}
use Rattle.meaning.specs.Simplification.{decided, simplified}
use Rattle.truth.specs.Bits.{bit_of, put_in}
use Rattle.looked.specs.declared.Looked.{Looked}
use Rattle.looked.specs.Looked.{both, at_value, Settled, SettledOver}
use Rattle.evaluator.specs.Replies.{word_there}
use Rattle.gathering.specs.declared.Shape.{Shape}
use Rattle.gathering.specs.declared.Shape.TheVariants.{One}
use Rattle.gathering.specs.FoundWords.{FoundWords, add, noted}
use Rattle.gathering.specs.Filling.{found_of, found_words, Added, Adds}
use Rattle.gathering.specs.Shapes.{decides, joined_shape, Gist, gist, joined_gist, no_gist}

-- ---- what is left of a formula, and the variables that were looked at to know it
abbrev pub left_of : Shape → ℕ → Looked Shape
left_of shape looked = record { value = shape; looked = looked }

-- two parts together
abbrev pub joined_parts : Bool → Looked Shape → Looked Shape → Looked Shape
joined_parts all a b = left_of (joined_shape all a.value b.value) (both a.looked b.looked)

-- ---- gathering
-- what is filled on the way: the table, of which so many words are found, and the set of the numbers read
pub record Store : Type 0 where
  pub table : List ℕ
  pub found : ℕ
  pub reads : List ℕ

abbrev pub store : List ℕ → ℕ → List ℕ → Store
store table found reads = record { table = table; found = found; reads = reads }

-- the words found in a store that has this room
abbrev pub words_in : ℕ → Store → FoundWords
words_in room s = found_words s.table (found_of room s.found)

-- the words of something that is left are added to those found, their numbers are put into a set, and its
-- shape is told
pub record Takes (room : ℕ) (before after : FoundWords) (set set' : ℕ → Bool) (shape : Shape) (x : Gist)
    : Type 0 where
  pub added : after ≡ add room before x.0
  pub noted : set' ≡ noted room before x.0 set
  pub shaped : shape ≡ x.1

-- the same from one store to the next, within this room
abbrev pub TakesLeft : ℕ → Store → Store → Shape → Gist → Type 0
TakesLeft room entry exit =
    Takes room (words_in room entry) (words_in room exit) (bit_of entry.reads) (bit_of exit.reads)

-- the parts of a connective are taken: all their words, where they do not decide it
pub record TakesParts (all : Bool) (room : ℕ) (entry exit : Store) (shape : Shape) (x : Gist) : Type 0 where
  pub taken : List ℕ
  pub takes : TakesLeft room entry exit shape (taken, x.1)
  pub whole : decides all x.1 ≡ false → TakesLeft room entry exit shape x

-- one more is found than there is room, at most
pub record Within (entry exit : Store) : Type 0 where
  pub few : exit.found ≤ length entry.table + 1
  pub size : length exit.table ≡ length entry.table

-- the instance whose code stands at a place is added, and its number put into the set
pub record GathersInstance (p : List ℕ) (at : ℕ) (v : List ℕ) (entry exit : Store) (r : Looked Shape)
    : Type 0 where
  pub one : Added
  pub added : Adds (length entry.table) entry.table exit.table entry.found
      (word_there p at v).value one
  pub counted : exit.found ≡ one.found
  pub noted : bit_of exit.reads ≡ put_in (bit_of entry.reads) one.at true
  pub told : r ≡ left_of One (word_there p at v).looked

-- what is left of the formula f, where the variables in reach have the values v; the room is the whole table
pub record GathersLeft (f : Formula) (v : List ℕ) (entry exit : Store) (r : Looked Shape) : Type 0 where
  pub within : Within entry exit
  pub takes : TakesLeft (length entry.table) entry exit r.value (gist (simplified f v))
  pub settled : Settled r.looked v (simplified f)

-- what is left at each of the first n values of one more variable
pub record GathersOver (all : Bool) (n : ℕ) (f : Formula) (v : List ℕ) (entry exit : Store) (r : Looked Shape)
    : Type 0 where
  pub within : Within entry exit
  pub parts : TakesParts all (length entry.table) entry exit r.value
      (over (joined_gist all) (no_gist all) 0 n (λ i. gist (at_value (simplified f) i v)))
  pub settled : SettledOver (decided (not all)) n r.looked v (simplified f)
