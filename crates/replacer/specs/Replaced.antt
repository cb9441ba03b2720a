-- DEFINITIONS: a text with one right side replaced, and when that is refused. Request 2026-01.
-- "from a text, an equation number and the bytes of a new right side it writes .. the text with that one
-- right side replaced, notes and order kept": one line is another, and all others are as they were.
use Rattle.std.specs.Prelude.{ℕ, ◌+◌, ◌-◌, ◌*◌, ◌≡◌, Bool, false, cond, List, [], ◌++◌, eqb, ltb, leb, length}
use Rattle.std.specs.Prelude.{get_or, take, drop, set}
use Rattle.digits.specs.Digits.{characters}
use Rattle.frames.specs.Lines.{Line, lines_of, joined}
use Rattle.frames.specs.Frames.{Frame, frames}
use Rattle.reading.specs.Models.{equations_in, first_of}
use Rattle.reading.specs.Reading.{Refusal, refused, text_refusal}
use Rattle.writing.specs.declared.Writing.{Writing}
use Rattle.writing.specs.Writing.{Writes}
use Rattle.writing.specs.OneReply.{one_writes}

-- the frame of equation e, "Equations number from 0 in file order"; where it isn't there, one with no byte
abbrev pub equation_frame : List ℕ → ℕ → Frame
equation_frame t e = get_or (equations_in (frames t).all) e (first_of [])

-- how many bytes stand before its right side: "`01` .. sign .., parameter count k .., k ranges"
abbrev pub head_size : List ℕ → ℕ
head_size f = 3 + get_or f 2 0

-- a line whose first `head` bytes keep their digits, and behind them the new right side's: "in small letters"
abbrev pub with_side : ℕ → List ℕ → Line → Line
with_side head side l =
    record { characters = take (2 * head) l.characters ++ characters side; ended = l.ended }

abbrev no_line : Line
no_line = record { characters = []; ended = false }

-- the line of the frame f among some lines; "Lines count from 1"
abbrev pub line_with : Frame → List Line → Line
line_with f ls = get_or ls (f.line - 1) no_line

-- some lines, with the right side of that of the frame f replaced
abbrev pub lines_replaced : Frame → List ℕ → List Line → List Line
lines_replaced f side ls = set ls (f.line - 1) (with_side (head_size f.bytes) side (line_with f ls))

-- the resulting text
unfoldable pub replaced_text : List ℕ → ℕ → List ℕ → List ℕ
replaced_text t e side = joined (lines_replaced (equation_frame t e) side (lines_of t))

-- the characters of the right side that equation e has in the text
abbrev pub old_side : List ℕ → ℕ → List ℕ
old_side t e =
    let f = equation_frame t e in
    drop (2 * head_size f.bytes) (line_with f (lines_of t)).characters

-- ---- refused

-- a refusal or, where it is none, the next
infixr 10 ◌and_then◌
abbrev pub ◌and_then◌ : Refusal → Refusal → Refusal
r and_then others = cond (eqb r.number 0) others r

-- "line 0, exactly when": a number unless the test holds
abbrev pub refused_unless : Bool → ℕ → Refusal
refused_unless test number = cond test (refused 0 0) (refused number 0)

-- "first those of the old text, 1 to 8; then 19, line 0, exactly when the equation isn't there; then what
-- 01's order gives for the resulting text; last 10, line 0, exactly when the buffer is shorter than that
-- text"; `room` is how long the buffer is
unfoldable pub replacement_refusal : List ℕ → ℕ → List ℕ → ℕ → Refusal
replacement_refusal t e side room =
    text_refusal t
    and_then refused_unless (ltb e (length (equations_in (frames t).all))) 19
    and_then text_refusal (replaced_text t e side)
    and_then refused_unless (leb (length (replaced_text t e side)) room) 10

-- ---- what `replace` promises of its reply w and of the lent buffer, `out` before and `left` after
abbrev pub Replaces : List ℕ → ℕ → List ℕ → List ℕ → Writing → List ℕ → Type 0
Replaces t e side out w left =
    Writes (replacement_refusal t e side (length out)) (replaced_text t e side) out w left

-- one reply for each input
pub one_replacement : (t : List ℕ) (e : ℕ) (side out : List ℕ) {v w : Writing} {xs ys : List ℕ}
    → Replaces t e side out v xs → Replaces t e side out w ys → (v ≡ w) × (xs ≡ ys)
one_replacement t e side out = one_writes
