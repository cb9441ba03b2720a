-- ONE REPLY: for each public function two results that its contract allows are equal.
-- Each contract is an equation of the result, or of what it tells, which says which result it is.
use Rattle.std.specs.Prelude.{ℕ, ◌≡◌, Bool, List, Result, Ok, Err}
use Rattle.std.proofs.Common.{sym, ap, ap₂}
use Rattle.meaning.specs.OneReply.{one_reply}
use Rattle.refusals.specs.declared.Reason.{Reason}
use Rattle.refusals.specs.OneReply.{one_number, some_number}
use Rattle.frames.specs.declared.Frame.{Frame}
use Rattle.frames.specs.declared.FrameAt.{FrameAt}
use Rattle.frames.specs.Lines.{all_digits}
use Rattle.frames.specs.FrameAt.{FrameRecord, told_at, told, frame_at}
use Rattle.frames.specs.PutLine.{LinePut}

pub one_all_digits : (characters : List ℕ) {a b : Bool} → a ≡ all_digits characters
    → b ≡ all_digits characters → a ≡ b
one_all_digits characters = one_reply

abbrev ending : ℕ → Result Frame Reason → FrameAt
ending end frame = record { end = end; frame = frame }

abbrev with_frame : FrameRecord → FrameAt
with_frame r = ending r.end (Ok (record { bytes = r.bytes; size = r.size }))

told_apart : (d e : ℕ) (x y : Result Frame Reason) → told_at d x ≡ told_at e y → ending d x ≡ ending e y
told_apart d e (Ok x) (Ok y) same = ap with_frame same
told_apart d e (Ok x) (Err y) same =
    absurd (some_number y (sym (ap (λ (r : FrameRecord). r.number) same)))
told_apart d e (Err x) (Ok y) same = absurd (some_number x (ap (λ (r : FrameRecord). r.number) same))
told_apart d e (Err x) (Err y) same =
    let reasons = one_number x y (ap (λ (r : FrameRecord). r.number) same) in
    ap₂ ending (ap (λ (r : FrameRecord). r.end) same) (ap (λ (reason : Reason). Err reason) reasons)

-- what is told says which frame it is, and where its line ends
pub one_told : (r s : FrameAt) → told r ≡ told s → r ≡ s
one_told r s = told_apart r.end s.end r.frame s.frame

pub one_frame_at : (text : List ℕ) (at : ℕ) {r s : FrameAt}
    → told r ≡ frame_at text at → told s ≡ frame_at text at → r ≡ s
one_frame_at text at {r} {s} p q = one_told r s (one_reply p q)

pub one_put_line : (out : List ℕ) (at : ℕ) (bytes : List ℕ) {r s : ℕ} {xs ys : List ℕ}
    → LinePut out at bytes r xs → LinePut out at bytes s ys → (r ≡ s) × (xs ≡ ys)
one_put_line out at bytes p q = (one_reply p.place q.place, one_reply p.written q.written)
