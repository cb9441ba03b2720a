-- DEFINITIONS: what is kept by a solver that goes by rounds: a set X that comes nearer to the solution, and a
-- set D of the instances to be looked at again. A round looks at instances of one equation, one by one.
use Rattle.std.specs.Prelude.{ℕ, ◌-◌, ◌≤◌, ◌<◌, ◌≡◌, Bool, true, false, not, ◌⊎◌}
use Rattle.meaning.specs.Order.{Below}
use Rattle.systems.specs.Numbered.{Truths, Numbered, Ordered, Past}
use Rattle.systems.specs.Solved.{solved}

-- of the first `count` equations those from e on, solved in the set X
abbrev pub from : Numbered → (count e : ℕ) → Truths → Truths
from S count e X = solved S (count - e) e X

-- no instance of the equations from e on is to be looked at
abbrev pub Quiet : Numbered → (count e : ℕ) → Truths → Type 0
Quiet S count e D = (m k : ℕ) → e ≤ m → m < count → S.of m k ≡ true → D k ≡ false

-- the right side of instance k hangs on the instances i with `reads k i` alone
abbrev pub Hangs : Numbered → (reads : ℕ → ℕ → Bool) → Type 0
Hangs S reads = (X X' : Truths) (e k : ℕ) → S.of e k ≡ true
    → ((i : ℕ) → reads k i ≡ true → X i ≡ X' i) → S.right_sides X k ≡ S.right_sides X' k

-- between rounds, where v is solved: the instances of each equation are on the near side of its solution, an
-- instance that is not to be looked at has its right side, and what is no instance is as in v
pub record Kept (S : Numbered) (count : ℕ) (v X D : Truths) : Type 0 where
  pub near : (e j : ℕ) → e < count → S.of e j ≡ true → Below (S.greatest e) (X j) (from S count e X j)
  pub clean : (e j : ℕ) → e < count → S.of e j ≡ true → D j ≡ false → S.right_sides X j ≡ X j
  pub rest : (j : ℕ) → Past S count 0 j → X j ≡ v j

-- in a round of equation e: all of X is on the near side of the solution from e on, and the later equations
-- of e's sign are on the near side of theirs
pub record Midway (S : Numbered) (count e : ℕ) (v X D : Truths) : Type 0 where
  pub within : e < count
  pub early : (m j : ℕ) → m < e → S.of m j ≡ true → Below (S.greatest m) (X j) (from S count m X j)
  pub reach : Ordered (S.greatest e) X (from S count e X)
  pub alike : (m j : ℕ) → e < m → m < count → S.of m j ≡ true → S.greatest m ≡ S.greatest e
      → Below (S.greatest m) (X j) (from S count m X j)
  pub clean : (m j : ℕ) → m < count → S.of m j ≡ true → D j ≡ false → S.right_sides X j ≡ X j
  pub rest : (j : ℕ) → Past S count 0 j → X j ≡ v j

-- where a round of equation e ends: the instances of the later equations whose constant is w go back to it,
-- and all others stay
pub record Restored (S : Numbered) (count e : ℕ) (w : Bool) (X X' : Truths) : Type 0 where
  pub early : (m k : ℕ) → m ≤ e → m < count → S.of m k ≡ true → X' k ≡ X k
  pub reset : (m k : ℕ) → e < m → m < count → S.of m k ≡ true → S.greatest m ≡ w → X' k ≡ w
  pub stays : (m k : ℕ) → e < m → m < count → S.of m k ≡ true → S.greatest m ≡ not w → X' k ≡ X k
  pub rest : (k : ℕ) → Past S count 0 k → X' k ≡ X k

-- instance k is at w, to which all changes go, or reads nothing that changed
abbrev pub Untouched : (reads : ℕ → ℕ → Bool) (w : Bool) (X X' : Truths) → ℕ → Type 0
Untouched reads w X X' k = (X' k ≡ w) ⊎ ((i : ℕ) → reads k i ≡ true → X' i ≡ X i)

-- instance j changed: what is not to be looked at after it is j or was not before, and is untouched
abbrev pub Marked : (reads : ℕ → ℕ → Bool) (w : Bool) (j : ℕ) (X X' D D' : Truths) → Type 0
Marked reads w j X X' D D' = (k : ℕ) → D' k ≡ false → ((k ≡ j) ⊎ (D k ≡ false)) × Untouched reads w X X' k

-- some instances changed: what is not to be looked at after it was not before, stayed, and is untouched
abbrev pub Spread : (reads : ℕ → ℕ → Bool) (w : Bool) (X X' D D' : Truths) → Type 0
Spread reads w X X' D D' = (k : ℕ) → D' k ≡ false
    → (D k ≡ false) × (X' k ≡ X k) × Untouched reads w X X' k

-- the start: each equation's instances at the constant of its sign, and all to be looked at
pub record Begun (S : Numbered) (count : ℕ) (v X D : Truths) : Type 0 where
  pub constants : (e j : ℕ) → e < count → S.of e j ≡ true → X j ≡ S.greatest e
  pub all : (e j : ℕ) → e < count → S.of e j ≡ true → D j ≡ true
  pub rest : (j : ℕ) → Past S count 0 j → X j ≡ v j
