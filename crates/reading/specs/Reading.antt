-- DEFINITIONS: the refusal of a text. Document 01, "Numbers of refusal".
-- "Order: .. 1; then lines from the top, in each line 2, 3, 4, 5, 6; then the missing start; then 7 by line;
-- then
-- 8": the order of the tests below. Refusals 1, 2 and 3 are those of the frames.
use Rattle.std.specs.Prelude.{ℕ, Bool, cond, ◌&&◌, List, [], ◌∷◌, ◌++◌, ltb, leb, eqb, get_or, length}
use Rattle.meaning.specs.Ranges.{typed, signatures}
use Rattle.frames.specs.Frames.{Frame, frames}
use Rattle.formulas.specs.Bodies.{is_body, is_fitting}
use Rattle.reading.specs.Equations.{ranges_in, body_in, is_valid_head, start_of}
use Rattle.reading.specs.Models.{equations_in, starts_in, is_none, first_of, model_of}

-- the number of the refusal, unless the test holds: then what the tests after it say; 0 is no refusal
abbrev pub unless : Bool → ℕ → ℕ → ℕ
unless test number others = cond test others number

-- ---- the frame f, after n equations; `unstarted` where no start was read
-- 4: "a ninth equation", "an equation .. after the start"; 5; 6
unfoldable pub equation_refusal : ℕ → Bool → List ℕ → ℕ
equation_refusal n unstarted f =
    unless (unstarted && ltb n 8) 4
    (unless (is_valid_head f) 5
    (unless (is_body (body_in f) (ranges_in f)) 6
    0))

-- 4: "a start with no equation before it", "an equation or start after the start"; 5: "no equation number"
unfoldable pub start_refusal : ℕ → Bool → List ℕ → ℕ
start_refusal n unstarted f =
    unless (unstarted && ltb 0 n) 4
    (unless (leb 2 (length f)) 5
    0)

-- 4: "first byte not 01, 02, 03"; "`03` note: any further bytes; allowed anywhere"
unfoldable pub frame_refusal : ℕ → Bool → List ℕ → ℕ
frame_refusal n unstarted f =
    cond (eqb (get_or f 0 0) 0x01) (equation_refusal n unstarted f)
    (cond (eqb (get_or f 0 0) 0x02) (start_refusal n unstarted f)
    (cond (eqb (get_or f 0 0) 0x03) 0
    4))

-- ---- refusals with their lines: "Each answer carries number and line, both 0 on a verdict"
pub record Refusal : Type 0 where
  pub number : ℕ
  pub line : ℕ

abbrev pub refused : ℕ → ℕ → Refusal
refused number line = record { number = number; line = line }

-- 7, of each equation, at its line; `others` is what is asked after it
unfoldable pub instances_judged : List (List ℕ) → List Frame → Refusal → Refusal
instances_judged signatures [] others = others
instances_judged signatures (f ∷ fs) others =
    cond (is_fitting signatures (body_in f.bytes) (ranges_in f.bytes))
    (instances_judged signatures fs others)
    (refused 7 f.line)

-- 8: not "the start names no equation, has the wrong number of arguments, or one not below its range"
unfoldable pub start_judged : List (List ℕ) → Frame → Refusal
start_judged signatures s = cond (typed signatures (start_of s.bytes)) (refused 0 0) (refused 8 s.line)

-- 4: "no start at all (line: one more than the lines there are)", which is i; then 7 and 8
unfoldable pub finished : List Frame → ℕ → Refusal
finished fs i =
    cond (is_none (starts_in fs)) (refused 4 i)
    (instances_judged (signatures (model_of fs)) (equations_in fs)
    (start_judged (signatures (model_of fs)) (first_of (starts_in fs))))

-- the frames of some that are left, after those that are done; then the line at which they end, if it is
-- refused
unfoldable pub frames_judged : List Frame → List Frame → Refusal → Refusal
frames_judged done [] end = cond (eqb end.number 0) (finished done end.line) end
frames_judged done (f ∷ fs) end =
    cond (eqb (frame_refusal (length (equations_in done)) (is_none (starts_in done)) f.bytes) 0)
    (frames_judged (done ++ (f ∷ [])) fs end)
    (refused (frame_refusal (length (equations_in done)) (is_none (starts_in done)) f.bytes) f.line)

unfoldable pub text_refusal : List ℕ → Refusal
text_refusal t = frames_judged [] (frames t).all (refused (frames t).number (frames t).line)
