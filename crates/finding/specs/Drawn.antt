-- What the private functions that draw the graph promise.
-- The row of instance j is what it reads; j is put into the rows of those, of its equation, and of its shape.
use Rattle.std.specs.Prelude.{ℕ, ◌<◌, ◌≡◌, Bool, cond, ◌&&◌, ◌||◌, List, eqb, length}
use Rattle.truth.specs.Bits.{bit_of}
use Rattle.truth.specs.Rows.{row_of}
use Rattle.gathering.specs.declared.Shape.{Shape}
use Rattle.gathering.specs.Shapes.{is_plain}
use Rattle.instances.specs.Graph.{readers_row, members_row, plain_row, graph_words}

-- the rows of a graph are lent, and j is the number of an instance
pub record Drawable (graph : List ℕ) (j : ℕ) : Type 0 where
  pub lent : length graph ≡ graph_words
  pub small : j < 512

-- there is a row number i for it
pub record Notable (graph : List ℕ) (i j : ℕ) : Type 0 where
  pub row : i < 1034
  pub into : Drawable graph j

-- row i gets j where b says so; the other rows stay
pub record Notes (entry exit : List ℕ) (i j : ℕ) (b : Bool) : Type 0 where
  pub size : length exit ≡ length entry
  pub here : (k : ℕ) → row_of exit i k ≡ (row_of entry i k || (eqb k j && b))
  pub others : (n : ℕ) → (n ≡ i → ⊥) → row_of exit n ≡ row_of entry n

-- the readers' rows get j where row j says so; the other rows stay
pub record NotesReaders (entry exit : List ℕ) (j : ℕ) : Type 0 where
  pub size : length exit ≡ length entry
  pub readers : (k i : ℕ) → k < 512
      → row_of exit (readers_row k) i ≡ (row_of entry (readers_row k) i || (eqb i j && row_of entry j k))
  pub others : (n : ℕ) → ((k : ℕ) → k < 512 → n ≡ readers_row k → ⊥) → row_of exit n ≡ row_of entry n

-- instance j, of equation e, is drawn into the rows: these it reads, and so it is plain
pub record SideDrawn (entry exit : List ℕ) (j e : ℕ) (reads : ℕ → Bool) (plain : Bool → Bool) : Type 0
  where
    pub own : (n : ℕ) → n < 512 → row_of exit n ≡ cond (eqb n j) reads (row_of entry n)
    pub readers : (k i : ℕ) → k < 512
        → row_of exit (readers_row k) i ≡ (row_of entry (readers_row k) i || (eqb i j && reads k))
    pub members : (m i : ℕ) → m < 8
        → row_of exit (members_row m) i ≡ (row_of entry (members_row m) i || (eqb i j && eqb m e))
    pub shapes : (all : Bool) (i : ℕ)
        → row_of exit (plain_row all) i ≡ (row_of entry (plain_row all) i || (eqb i j && plain all))

-- where there are rows for it
pub record DrawsSide (entry exit : List ℕ) (j e : ℕ) (reads : List ℕ) (shape : Shape) : Type 0 where
  pub size : length exit ≡ length entry
  pub drawn : Drawable entry j → e < 8
      → SideDrawn entry exit j e (bit_of reads) (λ all. is_plain all shape)
