-- DEFINITIONS: what the command `replace E SIDE` prints for a text: the resulting text, or the line of the
-- refusal. E is a number in decimal digits, SIDE the bytes of the new right side in hexadecimal ones.
use Rattle.std.specs.Prelude.{ℕ, ◌+◌, ◌-◌, ◌*◌, ◌%◌, ◌≡◌, Bool, true, cond, ◌&&◌, List, [], ◌∷◌, eqb, leb}
use Rattle.std.specs.Prelude.{length}
use Rattle.digits.specs.Digits.{bytes_of}
use Rattle.frames.specs.Lines.{all_digits}
use Rattle.writing.specs.Printed.{printed, Prints}
use Rattle.writing.specs.OneReply.{one_prints}
use Rattle.replacer.specs.Replaced.{replaced_text, replacement_refusal}

-- ---- the words
abbrev pub is_decimal : ℕ → Bool
is_decimal c = leb 48 c && leb c 57

unfoldable pub all_decimal : List ℕ → Bool
all_decimal [] = true
all_decimal (c ∷ w) = is_decimal c && all_decimal w

-- a number in decimal has one digit at least
abbrev pub is_number : List ℕ → Bool
is_number w = leb 1 (length w) && all_decimal w

-- what the digits w say behind those that say n, the highest first
unfoldable pub decimal_behind : ℕ → List ℕ → ℕ
decimal_behind n [] = n
decimal_behind n (c ∷ w) = decimal_behind (10 * n + (c - 48)) w

abbrev pub decimal : List ℕ → ℕ
decimal w = decimal_behind 0 w

-- bytes: "two [digits] a byte", perhaps none
abbrev pub is_bytes : List ℕ → Bool
is_bytes w = all_digits w && eqb (length w % 2) 0

-- ---- printed

-- no text is longer
abbrev pub longest_text : ℕ
longest_text = 32768

-- where the words are not of that kind, nothing is
unfoldable pub printed_replacement : List ℕ → List ℕ → List ℕ → List ℕ
printed_replacement t number side =
    let e = decimal number in
    let new = bytes_of side in
    cond (is_number number && is_bytes side)
    (printed (replacement_refusal t e new longest_text) (replaced_text t e new))
    []

abbrev pub PrintsReplacement : List ℕ → List ℕ → List ℕ → List ℕ → ℕ → List ℕ → Type 0
PrintsReplacement t number side out n left =
    Prints longest_text (printed_replacement t number side) out n left

pub one_printing : (t number side out : List ℕ) {m n : ℕ} {xs ys : List ℕ}
    → PrintsReplacement t number side out m xs → PrintsReplacement t number side out n ys
    → (m ≡ n) × (xs ≡ ys)
one_printing t number side out = one_prints
