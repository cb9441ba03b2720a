-- The refusal of what is left of a text, from the frames read so far, one line further.
-- The line at a place is refused, or its frame is, or the frame comes behind the others.
use Prim.Native.Nat.{ℕ, zero, suc, ◌+◌, ◌-◌, ◌/◌, ◌%◌, ◌≤◌, ◌<◌}
use native.Mathlib.Omega.{arith}
use mathlib.Core.Path.{◌≡◌, refl, sym, ap, ◌∙◌}
use mathlib.Core.Bool.{true, false, cond, ◌&&◌}
use mathlib.Core.List.{List, [], ◌∷◌, ◌++◌}
use lib.Dec.{eqb, leb}
use lib.ListN.{length, get_or, take, drop, length-drop}
use lib.Seq.{length-take-le}
use borrow.Author.Tests.{eq-eqb, ne_eqb, eqb-true, le-leb, leb-true}
use Rattle.meaning.specs.Logic.{cases}
use Rattle.digits.specs.Digits.{bytes_of, padded}
use Rattle.digits.proofs.Pairs.{length_bytes}
use Rattle.digits.proofs.Filled.{padded_first}
use Rattle.frames.specs.Lines.{Line, lines_of, all_digits, is_valid_line, line_refusal, place_of, line_place}
use Rattle.frames.specs.Frames.{Frame, Frames, stopped, with_frame, frames_from, frames}
use Rattle.frames.specs.FrameAt.{first_length, FrameRecord, line_at, end_at, frame_at}
use Rattle.frames.proofs.At.{first_length_most}
use Rattle.frames.proofs.Turns.{lines_at, lines_past}
use Rattle.reading.specs.Reading.{Refusal, refused, finished, frames_judged}
use Rattle.reading.proofs.Refusals.{&&-left, &&-right, passed}
use Rattle.reading.proofs.Drafts.{frame_of, refusal_after}

-- the refusal of some frames, after those that are done
abbrev pub judged : List Frame → Frames → Refusal
judged done fs = frames_judged done fs.all (refused fs.number fs.line)

-- the frames of what stands from a place on, its first line number i
abbrev pub frames_at : List ℕ → ℕ → ℕ → Frames
frames_at t i p = frames_from i (lines_of (drop p t))

-- ---- the line at a place
-- one that is not refused has at most 512 characters
valid_size : (l : Line) → line_refusal l ≡ 0 → length l.characters ≤ 512
unfolding line_refusal
valid_size l e =
    let n = length l.characters in
    let digits = passed (λ n. n) (all_digits l.characters) e (omega arith) in
    let valid = (passed (λ n. n) (is_valid_line l) digits.1 (omega arith)).0 in
    leb-true n 512 (&&-left (leb n 512) (eqb (n % 2) 0) (&&-right (l.ended && leb 1 n) (leb n 512 && eqb (n % 2) 0) valid))

module _ (t : List ℕ) (at : ℕ) {f : FrameRecord} (e : f ≡ frame_at t at) where
  pub number_is : f.number ≡ line_refusal (line_at t at)
  unfolding frame_at
  number_is = ap (λ (f : FrameRecord). f.number) e ∙ cases (eqb (line_refusal (line_at t at)) 0)
      (λ z. rw z (sym (eqb-true _ 0 z))) (λ z. rw z refl)

  pub end_is : f.end ≡ end_at t at
  unfolding frame_at
  end_is = ap (λ (f : FrameRecord). f.end) e ∙ cases (eqb (line_refusal (line_at t at)) 0) (λ z. rw z refl) (λ z. rw z refl)

  pub end_near : at < length t → (at ≤ f.end) × (f.end ≤ length t)
  end_near h =
      let most = first_length_most (drop at t) in
      let left = length-drop at t in
      (omega (arith, end_is), omega (arith, end_is, most, left))

  module _ (z : f.number ≡ 0) where
    is_frame : f ≡ record {
      number = 0;
      end = end_at t at;
      size = length (line_at t at).characters / 2;
      bytes = padded (bytes_of (line_at t at).characters);
    }
    unfolding frame_at
    is_frame = e ∙ rw (sym number_is ∙ z) refl

    pub size_is : f.size ≡ length (bytes_of (line_at t at).characters)
    size_is = ap (λ (f : FrameRecord). f.size) is_frame ∙ sym (length_bytes (line_at t at).characters)

    pub small : f.size ≤ 256
    small = omega (arith, size_is, length_bytes (line_at t at).characters, valid_size (line_at t at) (sym number_is ∙ z))

    pub bytes_are : take f.size f.bytes ≡ bytes_of (line_at t at).characters
    bytes_are =
        ap (λ (n : ℕ). take n f.bytes) size_is ∙
        ap (λ (f : FrameRecord). take (length (bytes_of (line_at t at).characters)) f.bytes) is_frame ∙
        padded_first (bytes_of (line_at t at).characters) (omega (arith, size_is, small))

-- ---- what is left, one line further
module _ (t : List ℕ) (done : List Frame) (line at : ℕ) (h : at < length t) {f : FrameRecord} (e : f ≡ frame_at t at) where
  frames_here : frames_at t line at
      ≡ cond (eqb (line_refusal (line_at t at)) 0)
      (with_frame line (bytes_of (line_at t at).characters) (frames_at t (line + 1) (end_at t at + 1)))
      (stopped (line_refusal (line_at t at)) line)
  unfolding frames_from
  frames_here = ap (frames_from line) (lines_at t at h)

  pub line_stops : (f.number ≡ 0 → ⊥) → judged done (frames_at t line at) ≡ refused f.number line
  unfolding frames_judged
  line_stops x =
      let n : eqb (line_refusal (line_at t at)) 0 ≡ false = ne_eqb _ 0 (λ z. x (number_is t at e ∙ z)) in
      ap (judged done) frames_here ∙ rw (n, number_is t at e) (rw n refl)

  module _ (z : f.number ≡ 0) where
    abbrev bytes : List ℕ
    bytes = take f.size f.bytes

    abbrev number : ℕ
    number = refusal_after done bytes

    pub framed : frames_at t line at ≡ with_frame line bytes (frames_at t (line + 1) (f.end + 1))
    framed =
        let n : eqb (line_refusal (line_at t at)) 0 ≡ true = eq-eqb _ 0 (sym (number_is t at e) ∙ z) in
        frames_here ∙ rw (n, bytes_are t at e z, end_is t at e) refl

    pub frame_stops : (number ≡ 0 → ⊥) → judged done (frames_at t line at) ≡ refused number line
    unfolding frames_judged
    frame_stops x = ap (judged done) framed ∙ rw (ne_eqb number 0 x) refl

    pub frame_goes : number ≡ 0 → judged done (frames_at t line at) ≡ judged (done ++ (frame_of line bytes ∷ []))
        (frames_at t (line + 1) (f.end + 1))
    unfolding frames_judged
    frame_goes x = ap (judged done) framed ∙ rw (eq-eqb number 0 x) refl

-- at the end
pub frames_end : (t : List ℕ) (line at : ℕ) → length t ≤ at → frames_at t line at ≡ stopped 0 line
unfolding frames_from
frames_end t line at h = ap (frames_from line) (lines_past t at h)

pub lines_end : (t : List ℕ) (done : List Frame) (line at : ℕ) → length t ≤ at
    → judged done (frames_at t line at) ≡ finished done line
unfolding frames_judged
lines_end t done line at h = ap (judged done) (frames_end t line at h)

-- at the start
pub frames_begin : (t : List ℕ) → length t ≤ 32768 → frames t ≡ frames_at t 1 0
unfolding frames
frames_begin t h = rw (le-leb (length t) 32768 h) refl

-- ---- where lines begin
place_next : (i : ℕ) (ls : List Line) {l : Line} {rest : List Line} → drop i ls ≡ l ∷ rest
    → (place_of (suc i) ls ≡ place_of i ls + suc (length l.characters)) × (drop (suc i) ls ≡ rest)
unfolding place_of
place_next zero [] e = absurd (omega (arith, ap length e))
place_next zero (k ∷ ls) e =
    let same = ap (λ (ls : List Line). length (get_or ls 0 (record { characters = []; ended = false })).characters) e in
    (omega (arith, same), ap (drop 1) e)
place_next (suc i) [] e = absurd (omega (arith, ap length e))
place_next (suc i) (k ∷ ls) e = let p = place_next i ls e in (omega (arith, p.0), p.1)

-- the lines from number i on begin at a place
pub record Begins (t : List ℕ) (i at : ℕ) : Type 0 where
  pub counted : 1 ≤ i
  pub lines : drop (i - 1) (lines_of t) ≡ lines_of (drop at t)
  pub place : line_place t i ≡ at

pub first_begins : (t : List ℕ) → Begins t 1 0
unfolding place_of
first_begins t = record { counted = omega arith; lines = refl; place = refl }

pub next_begins : (t : List ℕ) (i at : ℕ) → at < length t → Begins t i at → Begins t (i + 1) (end_at t at + 1)
next_begins t i at h b =
    let n = b.counted in
    let m : i + 1 - 1 ≡ suc (i - 1) = omega arith in
    let next = place_next (i - 1) (lines_of t) (b.lines ∙ lines_at t at h) in
    let size = length-take-le (first_length (drop at t)) (drop at t) (first_length_most (drop at t)) in
    record { counted = omega arith; lines = rw m next.1; place = rw m (next.0 ∙ omega (arith, b.place, size)) }
