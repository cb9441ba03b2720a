-- Definitions that the theorems of `proofs/Apart` speak of.
-- Each stands alone; what follows from them is there.
use Rattle.std.specs.Prelude.{ℕ, ◌≤◌, ◌<◌, ◌≡◌, List, map, ◌⊎◌, length}
use Rattle.meaning.specs.Words.{word}
use Rattle.reading.specs.Reading.{text_refusal}
use Rattle.answers.specs.declared.Answer.{Answer}
use Rattle.answers.specs.Answers.{list, refusal, checked}

-- the whole lent list is the reached list of the text's model, and has not over 512 words
pub record TheList (t lent : List ℕ) : Type 0 where
  pub whole : lent ≡ map word (list t)
  pub few : length lent ≤ 512

-- "isn't the reached list of that model or has over 512 words"
abbrev pub AnotherList : List ℕ → List ℕ → Type 0
AnotherList t lent = (lent ≡ map word (list t) → ⊥) ⊎ (512 < length lent)

-- what solving answers to a text, so many records and a list, each with its cause
pub data Solution (t : List ℕ) (records : ℕ) (lent : List ℕ) : Answer → Type 0 where
  -- as `check` with room for 512, where a refusal comes first or the list is the reached one
  as_checked : (8 ≤ records → (text_refusal t).number ≡ 0 → TheList t lent)
      → Solution t records lent (checked t records 512)
  -- 11: "it comes after 8, with line 0"
  another_list : 8 ≤ records → (text_refusal t).number ≡ 0 → AnotherList t lent
      → Solution t records lent (refusal 11 0)
