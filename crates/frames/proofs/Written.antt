-- THEOREMS: the text of some frames has a line for each of them, how long it is, and where a line begins.
-- No digit is byte 0a, so a line ends where its end was written and nowhere before.
use Rattle.std.specs.Prelude.{ℕ, zero, suc, ◌+◌, ◌-◌, ◌*◌, ◌/◌, ◌%◌, ◌≡◌, refl, Bool, true, false, cond, List, [], ◌∷◌, ◌++◌, map}
use Rattle.std.specs.Prelude.{eqb, leb, length, take}
use Rattle.std.proofs.Common.{arith, ap, ◌∙◌, length-append, ne_eqb}
use Rattle.digits.specs.Digits.{digit_of, characters}
use Rattle.digits.proofs.Written.{length_characters}
use Rattle.frames.specs.Lines.{Line, lines_of, place_of, line_place}
use Rattle.frames.specs.Frames.{line_of, text_of}
use Rattle.frames.specs.Written.{text_size, written_line}

-- ---- how long a line and a text are

pub line_length : (bytes : List ℕ) → length (line_of bytes) ≡ 2 * length bytes + 1
unfolding line_of
line_length bytes =
    length-append (characters bytes) (0x0a ∷ []) ∙ ap (λ (n : ℕ). n + 1) (length_characters bytes)

pub text_length : (fs : List (List ℕ)) → length (text_of fs) ≡ text_size fs
unfolding text_of text_size
text_length [] = refl
text_length (f ∷ fs) = omega (arith, length-append (line_of f) (text_of fs), line_length f, text_length fs)

no_end : (n : ℕ) → eqb (digit_of n) 0x0a ≡ false
no_end n = small (leb n 9) (leb n 15)
  where
    small : (b c : Bool) → eqb (cond b (n + 48) (cond c (n + 87) 0)) 0x0a ≡ false
    small true c = ne_eqb (n + 48) 0x0a (λ e. omega arith)
    small false true = ne_eqb (n + 87) 0x0a (λ e. omega arith)
    small false false = refl

one_line : (bytes rest : List ℕ) → lines_of (line_of bytes ++ rest) ≡ written_line bytes ∷ lines_of rest
unfolding lines_of line_of characters
one_line [] rest = refl
one_line (b ∷ bytes) rest = rw (no_end (b / 16), no_end (b % 16), one_line bytes rest) refl

pub written_lines : (fs : List (List ℕ)) → lines_of (text_of fs) ≡ map written_line fs
unfolding lines_of text_of
written_lines [] = refl
written_lines (f ∷ fs) =
    one_line f (text_of fs) ∙ ap (λ (ls : List Line). written_line f ∷ ls) (written_lines fs)

-- ---- at which place of a text a line begins: after those before it

places : (i : ℕ) (fs : List (List ℕ)) → place_of i (map written_line fs) ≡ text_size (take i fs)
unfolding place_of text_size
places zero fs = refl
places (suc i) [] = refl
places (suc i) (f ∷ fs) = omega (arith, length_characters f, places i fs)

pub written_place : (fs : List (List ℕ)) (i : ℕ) → line_place (text_of fs) i ≡ text_size (take (i - 1) fs)
written_place fs i = ap (place_of (i - 1)) (written_lines fs) ∙ places (i - 1) fs
