-- Definitions that the theorems of `proofs/Content` speak of.
-- Each stands alone; what follows from them is there.
use Rattle.std.specs.Prelude.{ℕ, ◌≤◌, ◌≡◌, true, length, get_or, eqb}
use mathlib.Core.List.{List, [], ◌∷◌, ◌++◌}
use Rattle.inputs.specs.Inputs.{ranges_of, is_process, is_summand}
use Rattle.inputs.specs.Inputs.{is_formula, first_frame}
use Rattle.inputs.specs.Inputs.{is_none, is_open}

-- summands of a process whose parameters have the ranges rs
pub data Summands (rs : List ℕ) : List (List ℕ) → Type 0 where
  no_more : Summands rs []
  one_more : {f : List ℕ} {fs : List (List ℕ)} → get_or f 0 0 ≡ 0x07 → is_summand rs f ≡ true
      → Summands rs fs →
      Summands rs (f ∷ fs)

-- ---- a process, and some of its summands
pub record Opened (p : List ℕ) (fs : List (List ℕ)) : Type 0 where
  pub code : get_or p 0 0 ≡ 0x09
  pub process : is_process p ≡ true
  pub few : length fs ≤ 16
  pub summands : Summands (ranges_of p) fs

pub record Begun (done : List (List ℕ)) : Type 0 where
  pub first : List ℕ
  pub others : List (List ℕ)
  pub opened : Opened first others
  pub all : done ≡ first ∷ others

-- all of them, and a formula
pub record Whole (content : List (List ℕ)) : Type 0 where
  pub first : List ℕ
  pub others : List (List ℕ)
  pub last : List ℕ
  pub opened : Opened first others
  pub code : get_or last 0 0 ≡ 0x08
  pub formula : is_formula last ≡ true
  pub all : content ≡ first ∷ (others ++ (last ∷ []))

-- the frames that were judged so far
pub data Stage (done : List (List ℕ)) : Type 0 where
  nothing : done ≡ [] → Stage done
  begun : Begun done → Stage done
  whole : Whole done → Stage done

-- ---- one frame more
pub data Next (done : List (List ℕ)) (f : List ℕ) : Type 0 where
  a_note : eqb (get_or f 0 0) 0x03 ≡ true → Next done f
  a_process : get_or f 0 0 ≡ 0x09 → is_none done ≡ true → is_process f ≡ true → Next done f
  a_summand : get_or f 0 0 ≡ 0x07 → is_open done ≡ true → length done ≤ 16 →
      is_summand (ranges_of (first_frame done)) f ≡ true → Next done f
  a_formula : get_or f 0 0 ≡ 0x08 → is_open done ≡ true → is_formula f ≡ true → Next done f
