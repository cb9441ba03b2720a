-- Definitions that the theorems of `proofs/Order` speak of.
-- Each stands alone; what follows from them is there.
use Rattle.std.specs.Prelude.{ℕ, ◌≤◌, ◌<◌, ◌≡◌, List, length}
use Rattle.frames.specs.Frames.{frames}
use Rattle.reading.specs.Models.{equations_in}
use Rattle.reading.specs.Reading.{Refusal, refused, text_refusal}
use Rattle.replacer.specs.Replaced.{replaced_text}

-- how many equations a text has
abbrev pub count_in : List ℕ → ℕ
count_in t = length (equations_in (frames t).all)

-- the refusals for a text, an equation, a new right side and a buffer of `room` bytes, each with its cause
pub data Due (t : List ℕ) (e : ℕ) (side : List ℕ) (room : ℕ) : Refusal → Type 0 where
  -- "first those of the old text, 1 to 8"
  old_text : ((text_refusal t).number ≡ 0 → ⊥) → Due t e side room (text_refusal t)
  -- "then 19, line 0, exactly when the equation isn't there"
  not_there : (text_refusal t).number ≡ 0 → count_in t ≤ e → Due t e side room (refused 19 0)
  -- "then what 01's order gives for the resulting text"
  new_text : (text_refusal t).number ≡ 0 → e < count_in t
      → ((text_refusal (replaced_text t e side)).number ≡ 0 → ⊥)
      → Due t e side room (text_refusal (replaced_text t e side))
  -- "last 10, line 0, exactly when the buffer is shorter than that text"
  no_room : (text_refusal t).number ≡ 0 → e < count_in t → (text_refusal (replaced_text t e side)).number ≡ 0
      → room < length (replaced_text t e side) → Due t e side room (refused 10 0)
  -- else it is written
  none : (text_refusal t).number ≡ 0 → e < count_in t → (text_refusal (replaced_text t e side)).number ≡ 0
      → length (replaced_text t e side) ≤ room → Due t e side room (refused 0 0)

-- ---- read off
-- a text is written exactly when this holds
pub record Accepted (t : List ℕ) (e : ℕ) (side : List ℕ) (room : ℕ) : Type 0 where
  pub read : (text_refusal t).number ≡ 0
  pub there : e < count_in t
  pub result : (text_refusal (replaced_text t e side)).number ≡ 0
  pub room_enough : length (replaced_text t e side) ≤ room
