-- What the private functions of the solver by rounds promise.
-- All of it is said of a table whose graph is lent: what is kept before a step is kept after it.
use Rattle.std.specs.Prelude.{ℕ, suc, ◌≤◌, ◌<◌, ◌≡◌, Bool, true, false, not, cond, List, eqb, get_or}
use Rattle.std.specs.Prelude.{Option, Some, None, IfSome}
use Rattle.formulas.specs.declared.Equation.{Equation}
use Rattle.truth.specs.Bits.{bit_of, nowhere}
use Rattle.truth.specs.Rows.{row_of, unlike_in, last_below}
use Rattle.words.specs.Unpacked.{equation_number}
use Rattle.systems.specs.Numbered.{Truths}
use Rattle.systems.specs.Solved.{solved}
use Rattle.systems.specs.Rounds.{Kept, Midway, Spread, Begun}
use Rattle.instances.specs.Sides.{numbered_system}
use Rattle.instances.specs.Graph.{reads_in, readers_row, members_row, GraphOf}
use Rattle.solving.specs.declared.steps.Progress.{Progress}

-- the equation of instance j
abbrev pub equation_of : List ℕ → ℕ → ℕ
equation_of table j = equation_number (get_or table j 0)

-- the `and` (all is true) or the `or` of what instance j reads: `all` where no number in its row is otherwise
abbrev pub plain_of : List ℕ → ℕ → Truths → Bool → Bool
plain_of graph j v all = cond (eqb (last_below 512 (unlike_in (row_of graph j) v all)) 512) all (not all)

-- the right side of instance j in the set t
abbrev pub SideJudged : List ℕ → List Equation → (table graph t : List ℕ) (j : ℕ) → Bool → Type 0
SideJudged bodies equations table graph t j r =
    GraphOf bodies equations table graph
    → r ≡ (numbered_system bodies equations table).right_sides (bit_of t) j

-- ---- between rounds, and within one
abbrev pub KeptBy : List ℕ → List Equation → (count : ℕ) (table : List ℕ) → Progress → Type 0
KeptBy bodies equations count table p =
    Kept (numbered_system bodies equations table) count nowhere (bit_of p.truth) (bit_of p.dirty)

-- within a round of equation e; where nothing has changed, what is kept between rounds
pub record Midst (bodies : List ℕ) (equations : List Equation) (count : ℕ) (table : List ℕ) (e : ℕ)
    (p : Progress) : Type 0 where
  pub midway : Midway (numbered_system bodies equations table) count e nowhere
      (bit_of p.truth) (bit_of p.dirty)
  pub unchanged : p.changed ≡ false → KeptBy bodies equations count table p

-- no instance of the equations from e on is dirty
abbrev pub Calm : List ℕ → (count e : ℕ) → Truths → Type 0
Calm graph count e D = (m k : ℕ) → e ≤ m → m < count → row_of graph (members_row m) k ≡ true → D k ≡ false

-- ---- the steps
pub record Looks (bodies : List ℕ) (equations : List Equation) (table graph : List ℕ) (j : ℕ) (p r : Progress)
    : Type 0 where
  pub spent : r.left < p.left
  pub keeps : GraphOf bodies equations table graph → (count : ℕ)
      → Midst bodies equations count table (equation_of table j) p
      → Midst bodies equations count table (equation_of table j) r

-- instance j goes to w and the other values stay; it is dirty then, and so are its readers that are not at w
pub record PutsBack (graph : List ℕ) (j : ℕ) (w : Bool) (p r : Progress) : Type 0 where
  pub here : bit_of r.truth j ≡ w
  pub there : (k : ℕ) → (k ≡ j → ⊥) → bit_of r.truth k ≡ bit_of p.truth k
  pub dirty : bit_of r.dirty j ≡ true
  pub more : (k : ℕ) → bit_of r.dirty k ≡ false
      → (bit_of p.dirty k ≡ false) × ((row_of graph (readers_row j) k ≡ true) → bit_of r.truth k ≡ w)
  pub left : r.left ≡ p.left
  pub changed : r.changed ≡ p.changed

-- the instances of equation m go to w and the other values stay; what changed and its readers are dirty then
pub record SetsBack (graph : List ℕ) (m : ℕ) (w : Bool) (p r : Progress) : Type 0 where
  pub back : (k : ℕ) → row_of graph (members_row m) k ≡ true → bit_of r.truth k ≡ w
  pub stays : (k : ℕ) → row_of graph (members_row m) k ≡ false → bit_of r.truth k ≡ bit_of p.truth k
  pub spread : (bodies : List ℕ) (equations : List Equation) (table : List ℕ)
      → GraphOf bodies equations table graph
      → Spread (reads_in bodies equations table) w (bit_of p.truth) (bit_of r.truth) (bit_of p.dirty)
      (bit_of r.dirty)
  pub left : r.left ≡ p.left
  pub changed : r.changed ≡ p.changed

-- ---- the rounds
pub record Begins (equations : List Equation) (count : ℕ) (graph : List ℕ) (r : Progress) : Type 0 where
  pub begun : (bodies table : List ℕ) → GraphOf bodies equations table graph
      → Begun (numbered_system bodies equations table) count nowhere (bit_of r.truth) (bit_of r.dirty)
  pub unchanged : r.changed ≡ false

-- a dirty instance of an equation after which none has one; None where nothing is dirty
abbrev pub LastDirty : (graph : List ℕ) (count : ℕ) → Truths → Option ℕ → Type 0
LastDirty graph count D None = Calm graph count 0 D
LastDirty graph count D (Some j) =
    (e : ℕ) × (e < count) × (row_of graph (members_row e) j ≡ true) × Calm graph count (suc e) D

pub record Rounds (bodies : List ℕ) (equations : List Equation) (table graph : List ℕ) (first : ℕ)
    (p r : Progress) : Type 0 where
  pub spent : r.left < p.left
  pub keeps : GraphOf bodies equations table graph → (count : ℕ) → count ≤ 8
      → Midst bodies equations count table (equation_of table first) p
      → Midst bodies equations count table (equation_of table first) r

pub record Settles (equations : List Equation) (count : ℕ) (graph : List ℕ) (e : ℕ) (p r : Progress)
    : Type 0 where
  pub left : r.left ≡ p.left
  pub unchanged : r.changed ≡ false
  pub keeps : (bodies table : List ℕ) → GraphOf bodies equations table graph
      → Midst bodies equations count table e p → KeptBy bodies equations count table r

-- where nothing is left dirty, the set is the solution
abbrev pub Solved : List ℕ → List Equation → (count : ℕ) (table graph : List ℕ) → Option (List ℕ) → Type 0
Solved bodies equations count table graph r =
    GraphOf bodies equations table graph
    → IfSome r (λ t. bit_of t ≡ solved (numbered_system bodies equations table) count 0 nowhere)
