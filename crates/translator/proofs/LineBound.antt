-- No refusal of a translation names a line over 32,769: a text has no more lines than characters.
-- Every line named is one of the text's frames, or that at which they end.
use Prim.Native.Nat.{ℕ, ◌≤◌}
use native.Mathlib.Omega.{arith}
use native.Mathlib.Decide.{dec_le}
use mathlib.Core.Bool.{Bool, true, false, cond}
use mathlib.Core.List.{List, [], ◌∷◌}
use lib.Dec.{eqb, leb}
use lib.ListN.{length}
use borrow.Author.Tests.{le-leb, lt-leb}
use Rattle.frames.specs.Lines.{lines_of}
use Rattle.frames.specs.Frames.{Frame, frames_from, frames}
use Rattle.reading.specs.Reading.{Refusal, refused}
use Rattle.reading.proofs.LineNumbers.{Within, lines_within, lines_length}
use Rattle.inputs.specs.Inputs.{is_none, with_code, keeps_rules, and_frame, judged, input_refusal}
use Rattle.emitter.specs.Limits.{within_limits}
use Rattle.translator.specs.Answers.{model_for, translated_text, translation_refusal}

record Low (r : Refusal) : Type 0 where
  to : r.line ≤ 32769

low : {number line : ℕ} → line ≤ 32769 → Low (refused number line)
low h = record { to = h }

either : (b : Bool) {r s : Refusal} → Low r → Low s → Low (cond b r s)
either true h k = h
either false h k = k

judged_low : (done : List (List ℕ)) (fs : List Frame) (last : ℕ) → Within 32769 fs → last ≤ 32769
    → Low (judged done fs last).refusal
unfolding judged
judged_low done [] last w h = either (is_none (with_code 0x08 done)) (low h) (low (omega arith))
judged_low done (f ∷ fs) last w h =
    by_frame (keeps_rules done f.bytes) (judged_low (and_frame done f.bytes) fs last w.2 h)
  where
    by_frame : (b : Bool) → Low (judged (and_frame done f.bytes) fs last).refusal
        → Low (cond b (judged (and_frame done f.bytes) fs last)
        (record { content = done; refusal = refused 14 f.line })).refusal
    by_frame true k = k
    by_frame false k = low w.1

input_low : (t : List ℕ) → Low (input_refusal t)
unfolding input_refusal frames
input_low t = elim (dec_le (length t) 32768) [
  | yes h ↦
      let w = lines_within 32769 1 (lines_of t) (omega arith) (omega (arith, lines_length t)) in
      let fs = frames_from 1 (lines_of t) in
      rw (le-leb (length t) 32768 h) (either (eqb fs.number 0)
      (judged_low [] fs.all fs.line w.0 w.1.to) (low {number = fs.number} {line = fs.line} w.1.to))
  | no h ↦ rw (lt-leb (length t) 32768 (omega arith)) (low {number = 1} {line = 0} (omega arith))
]

pub translation_low : (t : List ℕ) (room : ℕ) → (translation_refusal t room).line ≤ 32769
unfolding translation_refusal
translation_low t room =
    let none : Low (refused 0 0) = low (omega arith) in
    let room_low = either (leb (length (translated_text t)) room) none (low {number = 10} {line = 0} (omega arith)) in
    let limits_low = either (within_limits (model_for t)) room_low (low {number = 15} {line = 0} (omega arith)) in
    (either (eqb (input_refusal t).number 0) limits_low (input_low t)).to
