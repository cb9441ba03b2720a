-- Refusal 1 is given for a text that is too long and for no other; every other refusal of a text names a line, from 1 on;
-- no number is over 8 and no line over 32,769. Lines count from 1, and a text has no more lines than characters.
use Prim.Native.Nat.{ℕ, suc, ◌+◌, ◌≤◌, ◌<◌}
use native.Mathlib.Omega.{arith}
use native.Mathlib.Decide.{dec_le}
use mathlib.Core.Path.{◌≡◌, refl}
use mathlib.Core.Bool.{Bool, true, false, cond, ◌&&◌, true≢false}
use mathlib.Core.List.{List, [], ◌∷◌, ◌++◌}
use lib.Dec.{eqb, ltb, leb, lit≤}
use lib.ListN.{length, get_or}
use borrow.Author.Tests.{le-leb, lt-leb}
use Rattle.meaning.specs.Logic.{cases}
use Rattle.frames.specs.Lines.{Line, before, lines_of, all_digits, is_valid_line, line_refusal}
use Rattle.frames.specs.Frames.{Frame, frames_from, frames}
use Rattle.meaning.specs.Ranges.{signatures, typed}
use Rattle.formulas.specs.Bodies.{is_body, is_fitting}
use Rattle.reading.specs.Equations.{ranges_in, body_in, is_valid_head, start_of}
use Rattle.reading.specs.Models.{code_of, frames_with, equations_in, starts_in, is_none, first_of, model_of}
use Rattle.reading.specs.Reading.{equation_refusal, start_refusal, frame_refusal, Refusal, refused, instances_judged}
use Rattle.reading.specs.Reading.{start_judged, finished, frames_judged, text_refusal}

-- ---- a text has no more lines than characters
one_longer : (b : Bool) (c n : ℕ) (l : Line) (ls : List Line) → length ls ≤ n → length (cond b (l ∷ ls) (before c ls)) ≤ suc n
one_longer true c n l ls h = omega arith
one_longer false c n l [] h = omega arith
one_longer false c n l (k ∷ ls) h = omega arith

pub lines_length : (s : List ℕ) → length (lines_of s) ≤ length s
unfolding lines_of
lines_length [] = omega arith
lines_length (c ∷ s) = one_longer (eqb c 0x0a) c (length s) (record { characters = []; ended = true }) (lines_of s)
    (lines_length s)

-- ---- the numbers of lines and frames: 0, or from 2 to 8
pub record Number (n : ℕ) : Type 0 where
  other : n ≡ 1 → ⊥
  small : n ≤ 8

either : (c : Bool) {x y : ℕ} → Number x → Number y → Number (cond c x y)
either true v w = v
either false v w = w

line_number : (l : Line) → Number (line_refusal l)
unfolding line_refusal
line_number l = either (all_digits l.characters) (either (is_valid_line l) (omega arith) (omega arith)) (omega arith)

frame_number : (n : ℕ) (u : Bool) (f : List ℕ) → Number (frame_refusal n u f)
unfolding frame_refusal equation_refusal start_refusal
frame_number n u f =
    let no : Number 0 = omega arith in
    let four : Number 4 = omega arith in
    let five : Number 5 = omega arith in
    either (eqb (get_or f 0 0) 1)
    (either (u && ltb n 8) (either (is_valid_head f) (either (is_body (body_in f) (ranges_in f)) no (omega arith)) five) four)
    (either (eqb (get_or f 0 0) 2) (either (u && ltb 0 n) (either (leb 2 (length f)) no five) four)
    (either (eqb (get_or f 0 0) 3) no four))

-- frames on lines from 1 to b
abbrev pub Within : ℕ → List Frame → Type 0
Within b [] = Unit {0}
Within b (f ∷ fs) = (1 ≤ f.line) × (f.line ≤ b) × Within b fs

module _ (b : ℕ) where
  -- a refusal other than 1 that names a line up to b, or none
  record Named (r : Refusal) : Type 0 where
    number : Number r.number
    from : 1 < r.number → 1 ≤ r.line
    to : r.line ≤ b

  chosen : (c : Bool) {r s : Refusal} → Named r → Named s → Named (cond c r s)
  chosen true x y = x
  chosen false x y = y

  some_within : (code : ℕ) (fs : List Frame) → Within b fs → Within b (frames_with code fs)
  unfolding frames_with
  some_within code [] w = tt
  some_within code (f ∷ fs) w =
      let more = some_within code fs w.2 in
      cases (eqb (code_of f) code) (λ e. rw e (w.0, w.1, more)) (λ e. rw e more)

  more_within : (fs : List Frame) (f : Frame) → Within b fs → 1 ≤ f.line → f.line ≤ b → Within b (fs ++ (f ∷ []))
  more_within [] f w l h = (l, h, tt)
  more_within (g ∷ fs) f w l h = (w.0, w.1, more_within fs f w.2 l h)

  -- ---- after the lines
  start_named : (sigs : List (List ℕ)) (ss : List Frame) → is_none ss ≡ false → Within b ss
      → Named (start_judged sigs (first_of ss))
  unfolding start_judged
  start_named sigs [] u w = absurd (true≢false u)
  start_named sigs (s ∷ ss) u w = chosen (typed sigs (start_of s.bytes)) (omega arith) (omega arith)

  instances_named : (sigs : List (List ℕ)) (es : List Frame) (others : Refusal) → Within b es → Named others
      → Named (instances_judged sigs es others)
  unfolding instances_judged
  instances_named sigs [] others w o = o
  instances_named sigs (f ∷ es) others w o = chosen (is_fitting sigs (body_in f.bytes) (ranges_in f.bytes))
      (instances_named sigs es others w.2 o) (omega arith)

  finished_named : (fs : List Frame) (i : ℕ) → Within b fs → 1 ≤ i → i ≤ b → Named (finished fs i)
  unfolding finished
  finished_named fs i w l h =
      let sigs = signatures (model_of fs) in
      cases (is_none (starts_in fs)) (λ u. rw u (omega arith)) (λ u. rw u
      (instances_named sigs (equations_in fs) _ (some_within 1 fs w) (start_named sigs (starts_in fs) u (some_within 2 fs w))))

  -- ---- frame by frame; they end at a line from 1 to b, perhaps refused
  pub record Ends (n i : ℕ) : Type 0 where
    number : Number n
    from : 1 ≤ i
    pub to : i ≤ b

  frames_named : (done fs : List Frame) (n i : ℕ) → Within b done → Within b fs → Ends n i
      → Named (frames_judged done fs (refused n i))
  unfolding frames_judged
  frames_named done [] n i w v e = chosen (eqb n 0) (finished_named done i w e.from e.to) (omega arith)
  frames_named done (f ∷ fs) n i w v e =
      let after = frame_refusal (length (equations_in done)) (is_none (starts_in done)) f.bytes in
      let number : Number after = frame_number _ _ f.bytes in
      let more = frames_named (done ++ (f ∷ [])) fs n i (more_within done f w v.0 v.1) v.2 e in
      chosen (eqb after 0) more (omega arith)

  pub lines_within : (i : ℕ) (ls : List Line) → 1 ≤ i → i + length ls ≤ b
      → let fs = frames_from i ls in Within b fs.all × Ends fs.number fs.line
  unfolding frames_from
  lines_within i [] l h = (tt, omega arith)
  lines_within i (k ∷ ls) l h =
      let more = lines_within (i + 1) ls (omega arith) (omega arith) in
      let number = line_number k in
      cases (eqb (line_refusal k) 0) (λ e. rw e ((l, omega arith, more.0), more.1)) (λ e. rw e (tt, omega arith))

-- ---- a whole text
module _ (t : List ℕ) where
  short_named : length t ≤ 32768 → Named 32769 (text_refusal t)
  unfolding text_refusal frames
  short_named h =
      let w = lines_within 32769 1 (lines_of t) (omega arith) (omega (arith, lines_length t)) in
      rw (le-leb (length t) 32768 h) (frames_named 32769 [] _ _ _ tt w.0 w.1)

  pub long_text_one : 32768 < length t → text_refusal t ≡ refused 1 0
  unfolding text_refusal frames frames_judged
  long_text_one h = rw (lt-leb (length t) 32768 h) refl

  -- 1: "text over 32,768 characters"
  pub one_of_long_text : (text_refusal t).number ≡ 1 → 32768 < length t
  one_of_long_text e = elim (dec_le (length t) 32768) [ yes h ↦ absurd ((short_named h).number.other e) | no h ↦ omega arith ]

  -- every other refusal of a text names a line
  pub refusal_names_line : 1 < (text_refusal t).number → 1 ≤ (text_refusal t).line
  refusal_names_line = elim (dec_le (length t) 32768) [
    | yes h ↦ (short_named h).from
    | no h ↦ rw (long_text_one (omega arith)) (λ z. absurd (omega arith))
  ]

  pub refusal_bounded : ((text_refusal t).number ≤ 8) × ((text_refusal t).line ≤ 32769)
  refusal_bounded = elim (dec_le (length t) 32768) [
    | yes h ↦ ((short_named h).number.small, (short_named h).to)
    | no h ↦ rw (long_text_one (omega arith)) (lit≤ tt, lit≤ tt)
  ]
