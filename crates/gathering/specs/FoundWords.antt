-- DEFINITIONS: words that are added to a table of limited room, one by one.
-- A word that is there already is passed over; where there is no room for a new one, nothing more is taken.
use Rattle.std.specs.Prelude.{ℕ, Bool, true, false, cond, List, [], ◌∷◌, ◌++◌, ltb, length, take}
use Rattle.truth.specs.Bits.{put_in}
use Rattle.evaluator.specs.Values.{index_of}

-- the words found so far, and whether one more was found than there is room
abbrev pub FoundWords : Type 0
FoundWords = List ℕ × Bool

abbrev pub has_word : List ℕ → ℕ → Bool
has_word found w = ltb (index_of found w) (length found)

unfoldable pub add-one : ℕ → FoundWords → ℕ → FoundWords
add-one room s w =
    cond s.1 s
    (cond (has_word s.0 w) s
    (cond (ltb (length s.0) room) (s.0 ++ (w ∷ []), false)
    (s.0, true)))

unfoldable pub add : ℕ → FoundWords → List ℕ → FoundWords
add room s [] = s
add room s (w ∷ ws) = add room (add-one room s w) ws

-- the number of a word: where it stands, or where it will stand; where nothing more is taken it has none
abbrev pub number_of : FoundWords → ℕ → ℕ
number_of s w = cond s.1 512 (index_of s.0 w)

-- the numbers that words have as they are added one by one are put into a set
unfoldable pub noted : ℕ → FoundWords → List ℕ → (ℕ → Bool) → ℕ → Bool
noted room s [] set = set
noted room s (w ∷ ws) set = noted room (add-one room s w) ws (put_in set (number_of s w) true)

-- as much of a list as there is room for
abbrev pub found_within : ℕ → List ℕ → FoundWords
found_within room ws = (take room ws, ltb room (length ws))
