-- DEFINITIONS: the lines of a text, and which of them rules 2 and 3 refuse. Document 01, "Text of a model".
-- "Lines of hexadecimal, one frame a line .. every line ends with byte 0a"; the last may lack it: refusal 3.
use Rattle.std.specs.Prelude.{ℕ, zero, suc, ◌+◌, ◌-◌, ◌%◌, Bool, true, false, cond, ◌&&◌, List, [], ◌∷◌, ◌++◌}
use Rattle.std.specs.Prelude.{eqb, leb, length}
use Rattle.digits.specs.Digits.{is_digit}

-- a line: its characters, and whether byte 0a ends it
pub record Line : Type 0 where
  pub characters : List ℕ
  pub ended : Bool

-- character c in front of the lines that come after it
abbrev pub before : ℕ → List Line → List Line
before c [] = record { characters = c ∷ []; ended = false } ∷ []
before c (l ∷ ls) = record { characters = c ∷ l.characters; ended = l.ended } ∷ ls

-- the same for any character: byte 0a gives an empty line, ended
abbrev pub in_front : ℕ → List Line → List Line
in_front c ls = cond (eqb c 0x0a) (record { characters = []; ended = true } ∷ ls) (before c ls)

-- each line ends at its 0a, the last one perhaps with the text
unfoldable pub lines_of : List ℕ → List Line
lines_of [] = []
lines_of (c ∷ s) = in_front c (lines_of s)

-- the text of some lines: the characters of each, and 0a after those of a line that it ends
unfoldable pub joined : List Line → List ℕ
joined [] = []
joined (l ∷ ls) = l.characters ++ cond l.ended (0x0a ∷ joined ls) (joined ls)

unfoldable pub all_digits : List ℕ → Bool
all_digits [] = true
all_digits (c ∷ s) = is_digit c && all_digits s

-- 3: not "line empty, an odd number of digits, over 512 digits, or no 0a at its end"
abbrev pub is_valid_size : ℕ → Bool → Bool
is_valid_size n ended = (ended && leb 1 n) && (leb n 512 && eqb (n % 2) 0)

abbrev pub is_valid_line : Line → Bool
is_valid_line l = is_valid_size (length l.characters) l.ended

-- 2: "a character in the line that is no digit"; then 3; 0 where it is refused by neither
unfoldable pub line_refusal : Line → ℕ
line_refusal l = cond (all_digits l.characters) (cond (is_valid_line l) 0 3) 2

-- how many characters stand before line i, counted from 0: those of the lines before it, and their ends
unfoldable pub place_of : ℕ → List Line → ℕ
place_of zero ls = 0
place_of (suc i) [] = 0
place_of (suc i) (l ∷ ls) = suc (length l.characters) + place_of i ls

-- "place .. in the text (counted from 0)": that of the first character of line i, "lines count from 1"
abbrev pub line_place : List ℕ → ℕ → ℕ
line_place t i = place_of (i - 1) (lines_of t)
