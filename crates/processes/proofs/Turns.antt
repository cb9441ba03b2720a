-- The lines of a text, one after the other: a line is refused, or its frame is judged after those that are done.
-- What is left of the text says the same as the whole text, one line further each time.
use Prim.Native.Nat.{ℕ, ◌+◌, ◌≤◌, ◌<◌}
use mathlib.Core.Path.{◌≡◌, refl, sym, ap, ap₂, ◌∙◌}
use mathlib.Core.Bool.{true, false, cond}
use mathlib.Core.List.{List, []}
use lib.Dec.{eqb}
use lib.ListN.{length, take}
use borrow.Author.Tests.{eqb-true, eqb-false, ne_eqb}
use Rattle.std.specs.Prelude.{Err}
use Rattle.meaning.specs.Logic.{cases}
use Rattle.refusals.specs.declared.Reason.{Reason}
use Rattle.refusals.specs.Numbers.{number_of}
use Rattle.refusals.specs.OneReply.{some_number}
use Rattle.frames.specs.Lines.{line_refusal}
use Rattle.frames.specs.Frames.{Frames, stopped, frames_from, frames}
use Rattle.frames.specs.FrameAt.{FrameRecord, line_at, frame_at}
use Rattle.frames.proofs.Turns.{lines_at}
use Rattle.reading.specs.Reading.{Refusal, refused}
use Rattle.reading.proofs.Turns.{frames_at, number_is, framed, frames_end, frames_begin}
use Rattle.inputs.specs.Inputs.{is_none, with_code, keeps_rules, and_frame, Judged, judged, all_judged}
use Rattle.processes.specs.Contract.{LinesChecked}

abbrev number_in : Frames → ℕ
number_in fs = fs.number

abbrev line_in : Frames → ℕ
line_in fs = fs.line

-- ---- 2 and 3
-- a line that is refused; one of lines of which none is
module _ (t : List ℕ) (line at : ℕ) (h : at < length t) {f : FrameRecord} (e : f ≡ frame_at t at) where
  pub line_stops : (f.number ≡ 0 → ⊥) → frames_at t line at ≡ stopped f.number line
  unfolding frames_from
  line_stops x =
      let n : eqb (line_refusal (line_at t at)) 0 ≡ false = ne_eqb _ 0 (λ z. x (number_is t at e ∙ z)) in
      ap (frames_from line) (lines_at t at h) ∙ rw (n, number_is t at e) refl

  pub line_passes : (frames_at t line at).number ≡ 0 → f.number ≡ 0
  line_passes v = cases (eqb f.number 0) (eqb-true _ 0)
      (λ n. sym (ap number_in (line_stops (eqb-false _ 0 n))) ∙ v)

-- number and line of the whole text are those of what stands from a place on
pub record Same (t : List ℕ) (line at : ℕ) : Type 0 where
  pub number : (frames t).number ≡ (frames_at t line at).number
  pub last : (frames t).line ≡ (frames_at t line at).line

pub first_same : (t : List ℕ) → length t ≤ 32768 → Same t 1 0
first_same t h = let begin = frames_begin t h in record { number = ap number_in begin; last = ap line_in begin }

module _ {t : List ℕ} {line at : ℕ} (s : Same t line at) where
  pub none_refused : length t ≤ at → (frames t).number ≡ 0
  none_refused h = s.number ∙ ap number_in (frames_end t line at h)

  module _ (h : at < length t) {f : FrameRecord} (e : f ≡ frame_at t at) where
    pub one_refused : (reason : Reason) → f.number ≡ number_of reason
        → LinesChecked t (Err (record { reason = reason; line = line }))
    one_refused reason z =
        let stops = line_stops t line at h e (λ y. some_number reason (sym z ∙ y)) in
        ap₂ refused (sym (s.number ∙ ap number_in stops ∙ z)) (sym (s.last ∙ ap line_in stops))

    pub next_same : f.number ≡ 0 → Same t (line + 1) (f.end + 1)
    next_same z =
        let one = framed t [] line at h e z in
        record { number = s.number ∙ ap number_in one; last = s.last ∙ ap line_in one }

-- ---- 14
abbrev pub judged_as : List (List ℕ) → Refusal → Judged
judged_as done refusal = record { content = done; refusal = refusal }

-- what some frames give after those that are done
abbrev after : List (List ℕ) → Frames → Judged
after done fs = judged done fs.all fs.line

-- no line from a place on is refused, and its frames tell what all frames give
pub record Left (t : List ℕ) (done : List (List ℕ)) (line at : ℕ) : Type 0 where
  pub valid : (frames_at t line at).number ≡ 0
  pub same : all_judged t ≡ after done (frames_at t line at)

pub first_left : (t : List ℕ) → length t ≤ 32768 → (frames t).number ≡ 0 → Left t [] 1 0
first_left t h z =
    let begin = frames_begin t h in
    record { valid = rw begin at z; same = ap (after []) begin }

pub none_left : {t : List ℕ} {done : List (List ℕ)} {line at : ℕ} → Left t done line at → length t ≤ at
    → all_judged t ≡ judged_as done (cond (is_none (with_code 0x08 done)) (refused 14 line) (refused 0 0))
unfolding judged
none_left {t} {done} {line} {at} l h = l.same ∙ ap (after done) (frames_end t line at h)

module _ {t : List ℕ} {done : List (List ℕ)} {line at : ℕ} (l : Left t done line at) (h : at < length t)
    {f : FrameRecord} (e : f ≡ frame_at t at) where
  abbrev bytes : List ℕ
  bytes = take f.size f.bytes

  pub left_valid : f.number ≡ 0
  left_valid = line_passes t line at h e l.valid

  pub left_refused : keeps_rules done bytes ≡ false → all_judged t ≡ judged_as done (refused 14 line)
  unfolding judged
  left_refused x = l.same ∙ ap (after done) (framed t [] line at h e left_valid) ∙ rw x refl

  pub left_next : keeps_rules done bytes ≡ true → Left t (and_frame done bytes) (line + 1) (f.end + 1)
  unfolding judged
  left_next x =
      let one = framed t [] line at h e left_valid in
      record {
        valid = sym (ap number_in one) ∙ l.valid;
        same = l.same ∙ ap (after done) one ∙ rw x refl;
      }
