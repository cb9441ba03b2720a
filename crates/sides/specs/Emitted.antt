-- Bytes put into a frame one after the other: at most 256 of them. A count of 257 says that there are more,
-- or that a fifth quantifier stands around a place.
-- What is put goes together: one part after another is put as both in a row.
use Rattle.std.specs.Prelude.{ℕ, ◌+◌, ◌≤◌, ◌<◌, ◌≡◌, Bool, true, List, length, Option, Some, None, IfSome}
use Rattle.std.proofs.lemmas.List.Edits.{sets}

-- the bytes w, put behind the first `count` of a frame; `fits` is whether no fifth quantifier is in them
pub record Emits (fits : Bool) (w out : List ℕ) (count : ℕ) (left : List ℕ) (r : ℕ) : Type 0 where
  pub put : fits ≡ true → count + length w ≤ 256 → (r ≡ count + length w) × (left ≡ sets out count w)
  pub over : (fits ≡ true → 256 < count + length w) → r ≡ 257

-- of any bytes whatever: the frame is as long as before, the count has grown, or says that there is no room
pub record Grows (out : List ℕ) (count : ℕ) (left : List ℕ) (r : ℕ) : Type 0 where
  pub size : length left ≡ length out
  pub more : count ≤ 256 → count < r
  pub full : 256 < count → r ≡ 257
  pub most : r ≤ 257

-- both
abbrev pub Puts : Bool → List ℕ → List ℕ → ℕ → List ℕ → ℕ → Type 0
Puts fits w out count left r = Grows out count left r × Emits fits w out count left r

-- ---- what is said of a count, for a function that gives none where there is no room: 257 stands for that
abbrev pub count_of : Option ℕ → ℕ
count_of (Some n) = n
count_of None = 257

pub record Counted (r : Option ℕ) (Told : ℕ → Type 0) : Type 0 where
  pub few : IfSome r (λ n. n ≤ 256)
  pub told : Told (count_of r)
