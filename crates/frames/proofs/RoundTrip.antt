-- THEOREMS: frames that are written are read as they were; a text that is read is written in small letters.
-- A text and its lines tell each other; the bytes of a line tell its characters but for the case of letters.
use Rattle.std.specs.Prelude.{ℕ, zero, suc, ◌+◌, ◌*◌, ◌/◌, ◌%◌, ◌≤◌, ◌<◌, ◌≡◌, refl, ◌↔◌, true, List, [], ◌∷◌, ◌++◌, map, length}
use Rattle.std.specs.Prelude.{get_or}
use Rattle.std.proofs.Common.{arith, sym, ap, ap₂, ◌∙◌, eq-eqb, le-leb}
use Rattle.std.proofs.Math.Bool.{and-eq-true_iff}
use Rattle.std.proofs.lemmas.List.{length-map}
use Rattle.std.proofs.Math.Seq.{append_snoc}
use Rattle.digits.specs.Digits.{is_digit, bytes_of, characters, small_letter, in_small_letters}
use Rattle.digits.proofs.Pairs.{length_bytes, bytes_small}
use Rattle.digits.proofs.Written.{digit_is_digit, bytes_read, pair_written, length_characters}
use Rattle.frames.specs.Lines.{Line, lines_of, joined, all_digits, line_refusal}
use Rattle.frames.specs.Frames.{Frame, frames_from, frames, line_of, text_of}
use Rattle.frames.specs.Whole.{Each, none, and, Right, framed}
use Rattle.frames.proofs.Whole.{joined_lines, text_right, text_framed}
use Rattle.frames.specs.Written.{written_line}
use Rattle.frames.proofs.Written.{written_lines}
use Rattle.frames.specs.Letters.{line_in_small}
use Rattle.frames.proofs.Letters.{joined_in_small, frames_in_small}
use Rattle.frames.specs.RoundTrip.{AllWritable, Writable, all_read, bytes_of_all, numbered}

-- ---- written, then read

pub digits_written : (bytes : List ℕ) → ((i : ℕ) → get_or bytes i 0 < 256)
    → all_digits (characters bytes) ≡ true
unfolding all_digits characters
digits_written [] small = refl
digits_written (b ∷ bytes) small =
    let first : b < 256 = small 0 in
    rw (digit_is_digit (b / 16) (omega arith), digit_is_digit (b % 16) (omega arith))
    (digits_written bytes (λ i. small (suc i)))

not_refused : {bytes : List ℕ} → Writable bytes → line_refusal (written_line bytes) ≡ 0
unfolding line_refusal
not_refused {bytes} w =
    let n = 2 * length bytes in
    let short = le-leb n 512 (omega arith) in
    let even = eq-eqb (n % 2) 0 (omega arith) in
    rw (digits_written bytes w.small, length_characters bytes, le-leb 1 n (omega arith), short, even) refl

lines_read : (i : ℕ) (fs : List (List ℕ)) → AllWritable fs
    → frames_from i (map written_line fs) ≡ record { all = numbered i fs; number = 0; line = i + length fs }
unfolding frames_from numbered
lines_read i [] w = let n : i + 0 ≡ i = omega arith in rw n refl
lines_read i (f ∷ fs) w =
    let first = w 0 (omega arith) in
    let others = lines_read (i + 1) fs (λ j h. w (suc j) (omega arith)) in
    let n : (i + 1) + length fs ≡ i + suc (length fs) = omega arith in
    rw (not_refused first, bytes_read f first.small, others, n) refl

-- THEOREM: frames that are written are read as they were, in lines from 1 on
pub written_read : (fs : List (List ℕ)) → AllWritable fs → length (text_of fs) ≤ 32768
    → frames (text_of fs) ≡ all_read fs
unfolding frames
written_read fs w short =
    let n : 1 + length fs ≡ length fs + 1 = omega arith in
    rw (le-leb (length (text_of fs)) 32768 short)
    (ap (frames_from 1) (written_lines fs) ∙ lines_read 1 fs w ∙ rw n refl)

-- ---- read, then written

-- the characters are as they were, in small letters
pub characters_read : (s : List ℕ) → all_digits s ≡ true → length s % 2 ≡ 0
    → characters (bytes_of s) ≡ in_small_letters s
unfolding all_digits characters bytes_of
characters_read [] d e = refl
characters_read (c ∷ []) d e = absurd (omega arith)
characters_read (c ∷ c' ∷ s) d e =
    let p = (and-eq-true_iff (is_digit c) (all_digits (c' ∷ s))).0 d in
    let q = (and-eq-true_iff (is_digit c') (all_digits s)).0 p.1 in
    ap₂ (λ (x y : List ℕ). x ++ y) (pair_written c c' p.0 q.0) (characters_read s q.1 (omega arith))

right_writable : {l : Line} → Right l → Writable (bytes_of l.characters)
right_writable {l} r =
    let n = length_bytes l.characters in
    record { some = omega arith; most = omega arith; small = bytes_small l.characters }

abbrev bytes_in : List Frame → List (List ℕ)
bytes_in = map (λ (f : Frame). f.bytes)

-- the frames of right lines, written, are these lines in small letters
framed_written : {ls : List Line} (i : ℕ) → Each Right ls
    → text_of (bytes_in (framed i ls)) ≡ joined (map line_in_small ls)
unfolding text_of line_of framed joined
framed_written i none = refl
framed_written i (and {l} {ls} r rs) =
    rw (characters_read l.characters r.digits r.even, r.ended, framed_written (i + 1) rs)
    (append_snoc (in_small_letters l.characters) 0x0a (joined (map line_in_small ls)))

framed_writable : {ls : List Line} (i : ℕ) → Each Right ls → AllWritable (bytes_in (framed i ls))
unfolding framed
framed_writable i none j h = absurd (omega arith)
framed_writable i (and r rs) zero h = right_writable r
framed_writable i (and r rs) (suc j) h = framed_writable (i + 1) rs j (omega arith)

-- ---- a text that is not refused
module _ (t : List ℕ) (read : (frames t).number ≡ 0) where
  framed_text : bytes_of_all (frames t) ≡ bytes_in (framed 1 (lines_of t))
  framed_text = ap bytes_of_all (text_framed t read)

  -- THEOREM: its frames, written, are the text in small letters
  pub read_written : text_of (bytes_of_all (frames t)) ≡ in_small_letters t
  read_written =
      ap text_of framed_text ∙ framed_written 1 (text_right t read).right ∙ joined_in_small (lines_of t) ∙
      ap in_small_letters (joined_lines t)

  -- so they are the text itself exactly where it is in small letters
  pub read_same : (text_of (bytes_of_all (frames t)) ≡ t) ↔ (in_small_letters t ≡ t)
  read_same = (λ e. sym read_written ∙ e, λ e. read_written ∙ e)

  -- and in any case they are read as they were
  pub read_again : frames (text_of (bytes_of_all (frames t))) ≡ frames t
  read_again = ap frames read_written ∙ frames_in_small t

  pub read_writable : AllWritable (bytes_of_all (frames t))
  read_writable = rw framed_text (framed_writable 1 (text_right t read).right)

  -- its frames stand in lines from 1 on, all of them
  pub read_whole : frames t ≡ all_read (bytes_of_all (frames t))
  read_whole =
      let fs = bytes_of_all (frames t) in
      let size : length (text_of fs) ≡ length t = ap length read_written ∙ length-map t small_letter in
      let short : length (text_of fs) ≤ 32768 = rw size (text_right t read).short in
      sym read_again ∙ written_read fs read_writable short
