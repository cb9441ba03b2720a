-- DEFINITIONS: digits and bytes. Document 01, "Text of a model", and request 2026-02.
-- "Lines of hexadecimal .. Digits are 0-9 and a-f, two a byte, no blanks"; "Accept both cases, also mixed
-- within a byte": A-F are digits too.
use Rattle.std.specs.Prelude.{ℕ, ◌+◌, ◌-◌, ◌*◌, ◌/◌, ◌%◌, Bool, cond, ◌&&◌, List, [], ◌∷◌, ◌++◌, map, leb}
use Rattle.std.specs.Prelude.{take, replicate}

-- "The digit's worth of every byte value comes from a table of 256 entries, 255 for what is no digit"
abbrev pub worth_of : ℕ → ℕ
worth_of b =
    cond (leb 48 b && leb b 57) (b - 48) (
    cond (leb 97 b && leb b 102) (b - 87) (
    cond (leb 65 b && leb b 70) (b - 55) 255))

abbrev pub is_digit : ℕ → Bool
is_digit b = leb (worth_of b) 15

-- the byte of a high and a low digit that are worth so much; 0 where one of them is none
abbrev pub pair_of : ℕ → ℕ → ℕ
pair_of high low = cond (leb high 15 && leb low 15) (high * 16 + low) 0

-- the bytes of some characters, "two [digits] a byte"; a last character that has no second makes none
unfoldable pub bytes_of : List ℕ → List ℕ
bytes_of [] = []
bytes_of (high ∷ []) = []
bytes_of (high ∷ low ∷ rest) = pair_of (worth_of high) (worth_of low) ∷ bytes_of rest

-- the first 256 of some bytes, with zeros after them where there are fewer
unfoldable pub padded : List ℕ → List ℕ
padded bytes = take 256 (bytes ++ replicate 256 0)

-- "Text newly made has small letters only": the digit that is worth n; 0, which is no digit, where n is over
-- 15
abbrev pub digit_of : ℕ → ℕ
digit_of n = cond (leb n 9) (n + 48) (cond (leb n 15) (n + 87) 0)

-- the two digits of a byte
abbrev pub digits_of : ℕ → List ℕ
digits_of b = digit_of (b / 16) ∷ digit_of (b % 16) ∷ []

-- "two [digits] a byte": the characters of some bytes
unfoldable pub characters : List ℕ → List ℕ
characters [] = []
characters (b ∷ bs) = digits_of b ++ characters bs

-- "in small letters": a capital digit made small, A-F to a-f; every other character as it is
abbrev pub small_letter : ℕ → ℕ
small_letter c = cond (leb 65 c && leb c 70) (c + 32) c

-- some characters with their capital digits made small; where that changes nothing they are in small letters
abbrev pub in_small_letters : List ℕ → List ℕ
in_small_letters = map small_letter
