-- DEFINITIONS: a lent table that is being filled.
-- Its first words are those found; what stands behind them says nothing.
use Rattle.std.specs.Prelude.{ℕ, ◌+◌, ◌≤◌, ◌<◌, min, ◌≡◌, refl, Bool, true, false, List, ltb, length, take}
use Rattle.std.specs.Prelude.{Option, Some, None}
use Rattle.std.proofs.Common.{arith, lt-ltb, le-ltb}
use Rattle.gathering.specs.FoundWords.{FoundWords, add-one, number_of}

-- how many words of a table are filled, and whether one more was found than there is room
pub record Filled : Type 0 where
  pub count : ℕ
  pub over : Bool

-- n words are found; where that is more than the room, all of it is filled
abbrev pub found_of : ℕ → ℕ → Filled
found_of room n = record { count = min n room; over = ltb room n }

-- what a table holds that is filled so far
abbrev pub found_words : List ℕ → Filled → FoundWords
found_words table s = (take s.count table, s.over)

-- how many words are found after one was added, and its number among them, which is 512 where it has none
pub record Added : Type 0 where
  pub found : ℕ
  pub at : ℕ

abbrev pub added_word : ℕ → Option ℕ → Added
added_word found (Some at) = record { found = found; at = at }
added_word found None = record { found = found; at = 512 }

-- the word w is added to the n words found
pub record Adds (room : ℕ) (entry exit : List ℕ) (n w : ℕ) (r : Added) : Type 0 where
  pub within : r.found ≤ room + 1
  pub size : length exit ≡ length entry
  pub added : found_words exit (found_of room r.found)
      ≡ add-one room (found_words entry (found_of room n)) w
  pub numbered : r.at ≡ number_of (found_words entry (found_of room n)) w

-- ---- by the number found
pub found_fits : (room : ℕ) (table : List ℕ) {n : ℕ} → n ≤ room
    → found_words table (found_of room n) ≡ (take n table, false)
found_fits room table {n} h =
    let same : min n room ≡ n = omega arith in
    rw (same, le-ltb room n h) refl

pub found_over : (room : ℕ) (table : List ℕ) {n : ℕ} → room < n
    → found_words table (found_of room n) ≡ (take room table, true)
found_over room table {n} h =
    let same : min n room ≡ room = omega arith in
    rw (same, lt-ltb room n h) refl
