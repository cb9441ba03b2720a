-- DEFINITIONS: a system whose instances are numbered, whatever they are.
-- A set of them is what it says of each number.
use Rattle.std.specs.Prelude.{◌≡◌, Bool, true, false, ℕ, ◌≤◌, ◌<◌}
use Rattle.meaning.specs.Order.{Below}

abbrev pub Truths : Type 0
Truths = ℕ → Bool

-- how many instances there are, which are instances of equation e, whether equation e is a greatest one, and
-- the right side of each instance in a set
pub record Numbered : Type 0 where
  pub size : ℕ
  pub of : ℕ → Truths
  pub greatest : ℕ → Bool
  pub right_sides : Truths → Truths

-- X is below X' at every number, in the order of least equations (s false) or of greatest ones (s true)
abbrev pub Ordered : Bool → Truths → Truths → Type 0
Ordered s X X' = (j : ℕ) → Below s (X j) (X' j)

-- an instance is one of one equation at most, and its number is below the size; right sides are monotone
pub record Proper (S : Numbered) : Type 0 where
  pub apart : (e m j : ℕ) → S.of e j ≡ true → S.of m j ≡ true → e ≡ m
  pub small : (e j : ℕ) → S.of e j ≡ true → j < S.size
  pub rising : (X X' : Truths) → Ordered false X X' → Ordered false (S.right_sides X) (S.right_sides X')

-- of the first `count` equations j is no instance of one from e on
abbrev pub Past : Numbered → (count e j : ℕ) → Type 0
Past S count e j = (m : ℕ) → e ≤ m → m < count → S.of m j ≡ false
