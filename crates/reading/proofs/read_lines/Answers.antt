-- `reading::read_lines` meets its contract.
-- The refusal of the text is that of what is left, after the frames that are done, which the draft holds.
use Prim.Native.Nat.{ℕ, ◌+◌, ◌≤◌, ◌<◌}
use native.Mathlib.Omega.{arith}
use mathlib.Core.Path.{◌≡◌, refl, sym, ap, ◌∙◌}
use mathlib.Core.Bool.{not, true≢false}
use mathlib.Core.List.{List, [], ◌∷◌, ◌++◌, append_assoc, append-nil}
use lib.ListN.{length, get_or, take, length-take}
use Rattle.std.specs.Prelude.{Result, Ok, Err, MatchResult, IsErrAnd, is_ok}
use Rattle.std.specs.Result.{result_unwrap_or}
use Rattle.std.proofs.Common.{rules}
use Rattle.refusals.specs.declared.Refusal.{Refusal}
use Rattle.reading.specs.declared.Model.{Model}
use Rattle.refusals.specs.declared.Reason.{Reason}
use Rattle.refusals.specs.Numbers.{number_of}
use Rattle.refusals.specs.OneReply.{some_number}
use Rattle.frames.specs.Lines.{line_place}
use Rattle.frames.specs.Frames.{Frames}
use Rattle.frames.specs.FrameAt.{FrameRecord, frame_at}
use Rattle.reading.specs.Contract.{draft_told, with_frame, body_kept, LinesRead, stopped}
use Rattle.reading.specs.Reading.{refused, frame_refusal, text_refusal}
use Rattle.reading.specs.Records.{ModelRecord}
use Rattle.reading.proofs.Drafts.{drafted_as, frame_of, count_is, unstarted_is, drafted_none, drafted_more}
use Rattle.reading.proofs.Drafts.{refusal_after, not_ninth}
use Rattle.reading.proofs.Turns as turn
use Rattle.reading.proofs.Turns.{judged, frames_at, Begins}
use Rattle.reading.proofs.Finishing as law
use Rattle.reading.proofs.LineNumbers.{long_text_one}
use Rattle.reading.proofs.read_lines.Invariants.{Progress}
use Rattle.reading.proofs.read_lines.Goals.{then-element-ne3, else-element-ne3}
use Rattle.reading.proofs.read_lines.Goals as goal

-- a turn: the line at the place, with its frame
module _ {t bodies : List ℕ} {m : ModelRecord} {at line : ℕ} (p : Progress t bodies m at line) (h : at < length t)
    {f : FrameRecord} (e : f ≡ frame_at t at) where
  near : (at ≤ f.end) × (f.end ≤ length t)
  near = turn.end_near _ _ e h

  line_out : (reason : Reason) → f.number ≡ number_of reason → LinesRead t bodies (Err (record { reason = reason; line = line }))
  line_out reason z =
      stopped (p.left ∙ turn.line_stops _ p.done _ _ h e (λ y. some_number reason (sym z ∙ y)) ∙ ap (λ (n : ℕ). refused n line) z)

  module _ (z : f.number ≡ 0) where
    abbrev bytes : List ℕ
    bytes = take f.size f.bytes

    small : f.size ≤ 256
    small = turn.small _ _ e z

    module _ {n : ℕ} (said : n ≡ frame_refusal m.count (not m.started) bytes) where
      after : n ≡ refusal_after p.done bytes
      after = rw (count_is p.drafted, unstarted_is p.drafted) at said

      frame_out : (reason : Reason) → n ≡ number_of reason
          → LinesRead t bodies (Err (record { reason = reason; line = line }))
      frame_out reason y =
          stopped (p.left ∙ turn.frame_stops _ p.done _ _ h e z (λ x. some_number reason (sym y ∙ after ∙ x)) ∙
          ap (λ (n : ℕ). refused n line) (sym after ∙ y))

      module _ (y : n ≡ 0) where
        passed : refusal_after p.done bytes ≡ 0
        passed = sym after ∙ y

        few : get_or bytes 0 0 ≡ 1 → m.count < 8
        few = not_ninth p.drafted _ _ _ p.begins.place passed

        more : {m' : ModelRecord} {bodies' : List ℕ} → m' ≡ with_frame m line at bytes → bodies' ≡ body_kept bodies m.count bytes
            → Progress t bodies' m' (f.end + 1) (line + 1)
        more k b = record {
          done = p.done ++ (frame_of line bytes ∷ []);
          short = p.short;
          near = omega (arith, near);
          early = omega (arith, p.early, near);
          begins = rw (turn.end_is _ _ e) (turn.next_begins _ _ _ h p.begins);
          drafted = drafted_as k b (drafted_more p.drafted _ _ _ p.begins.place passed);
          left = p.left ∙ turn.frame_goes _ _ _ _ h e z passed;
          whole = p.whole ∙ ap (λ (fs : Frames). p.done ++ fs.all) (turn.framed _ p.done _ _ h e z)
              ∙ sym (append_assoc p.done _ _);
        }

-- what `map_err` was given
module _ {T E D : Type 0} (P : E → D → Type 0) where
  ok_was : (r : Result T E) (s : Result T D) (x : T) → MatchResult r (λ y. s ≡ Ok y) (λ e. IsErrAnd s (P e)) → s ≡ Ok x
      → r ≡ Ok x
  ok_was (Ok y) s x h k = ap (λ (q : Result T D). Ok (result_unwrap_or q x)) (sym h ∙ k)
  ok_was (Err e) s x h k = absurd (rw k at h)

  err_was : (r : Result T E) (s : Result T D) (z : D) → MatchResult r (λ y. s ≡ Ok y) (λ e. IsErrAnd s (P e)) → s ≡ Err z
      → (e : E) × (r ≡ Err e) × P e z
  err_was (Ok y) s z h k = absurd (true≢false (ap is_ok (sym h ∙ k)))
  err_was (Err e) s z h k = (e, refl, rw k at h)

-- and what `?` hands on
passed_on : {t bodies : List ℕ} (r : Result Model Refusal) (e : Refusal) → IsErrAnd r (λ f. f ≡ e) → LinesRead t bodies (Err e)
    → LinesRead t bodies r
passed_on (Ok m) e h k = absurd h
passed_on (Err f) e h k = rw h k

-- a note leaves the draft as it is
note_kept : (m : ModelRecord) (line place : ℕ) (f : List ℕ) → get_or f 0 0 ≡ 3 → m ≡ with_frame m line place f
note_kept m line place f note = rw note refl

pub returns-then-text-gt32768 : goal.returns-then-text-gt32768
returns-then-text-gt32768 c = rw c.from.ensures (stopped (long_text_one _ (omega arith)))

pub loop-at-init : goal.loop-at-init
loop-at-init c =
    let t = c.args.text.now in
    record {
      done = [];
      short = omega arith;
      near = omega arith;
      early = omega arith;
      begins = turn.first_begins t;
      drafted = drafted_none (line_place t) (c.new-draft.ensures (line_place t)) c.requires;
      left = unfold text_refusal in ap (judged []) (turn.frames_begin t (omega arith));
      whole = ap (λ (fs : Frames). fs.all) (turn.frames_begin t (omega arith));
    }

pub returns-in_err-bytes : goal.returns-in_err-bytes
returns-in_err-bytes c =
    let was = err_was _ c.frame_at-f.result.frame c.map_err.result c.in_err-bytes.field-0.0 c.map_err.ensures.cases
    c.in_err-bytes.was in
    let said : c.in_err-bytes.field-0.0 ≡ record { reason = was.0; line = c.loop-at.line } = search (rules, was.2) in
    passed_on _ _ c.from_residual.ensures.1
    (rw said (line_out c.loop-at.invariant c.loop-at-test.true (rw was.1 at c.frame_at-f.ensures) _ refl))

pub slice_bounds-bytes-end : goal.slice_bounds-bytes-end
slice_bounds-bytes-end c =
    let was = ok_was _ c.frame_at-f.result.frame c.map_err.result c.in_ok-bytes.field-0 c.map_err.ensures.cases
    c.in_ok-bytes.was in
    let room : length c.in_ok-bytes.field-0.bytes ≡ 256 = search rules in
    rw room (small c.loop-at.invariant c.loop-at-test.true (rw was at c.frame_at-f.ensures) refl)

pub slice_bounds-frame-end : goal.slice_bounds-frame-end
slice_bounds-frame-end c =
    let was = ok_was _ c.frame_at-f.result.frame c.map_err.result c.in_ok-bytes.field-0 c.map_err.ensures.cases
    c.in_ok-bytes.was in
    let room : length c.in_ok-bytes.field-0.bytes ≡ 256 = search rules in
    let short = small c.loop-at.invariant c.loop-at-test.true (rw was at c.frame_at-f.ensures) refl in
    omega (arith, short, room, length-take c.in_ok-bytes.field-0.size c.in_ok-bytes.field-0.bytes)

pub returns-in_err-map_err : goal.returns-in_err-map_err
returns-in_err-map_err c =
    let frame = ok_was _ c.frame_at-f.result.frame c.map_err.result c.in_ok-bytes.field-0 c.map_err.ensures.cases
    c.in_ok-bytes.was in
    let was = err_was _ c.judge_frame.result c.map_err-in-loop-at.result c.in_err-map_err.field-0.0
    c.map_err-in-loop-at.ensures.cases c.in_err-map_err.was in
    let said : c.in_err-map_err.field-0.0 ≡ record { reason = was.0; line = c.loop-at.line } = search (rules, was.2) in
    passed_on _ _ c.from_residual-in_err-map_err.ensures.1
    (rw said (frame_out c.loop-at.invariant c.loop-at-test.true (rw frame at c.frame_at-f.ensures) refl
    (rw (was.1, c.is_some.ensures) at c.judge_frame.ensures) _ refl))

pub keep_body-requires : goal.keep_body-requires
keep_body-requires c =
    let frame = ok_was _ c.frame_at-f.result.frame c.map_err.result c.in_ok-bytes.field-0 c.map_err.ensures.cases
    c.in_ok-bytes.was in
    let passed = ok_was _ c.judge_frame.result c.map_err-in-loop-at.result c.in_ok-map_err.field-0
    c.map_err-in-loop-at.ensures.cases c.in_ok-map_err.was in
    let e = rw frame at c.frame_at-f.ensures in
    let p = c.loop-at.invariant in
    let inside = c.loop-at-test.true in
    let said = rw (passed, c.is_some.ensures) at c.judge_frame.ensures in (
      omega (arith, small p inside e refl, length-take c.in_ok-bytes.field-0.size c.in_ok-bytes.field-0.bytes),
      few p inside e refl said refl,
    )

pub with_frame-draft-requires : goal.with_frame-draft-requires
with_frame-draft-requires c =
    let frame = ok_was _ c.frame_at-f.result.frame c.map_err.result c.in_ok-bytes.field-0 c.map_err.ensures.cases
    c.in_ok-bytes.was in
    let passed = ok_was _ c.judge_frame.result c.map_err-in-loop-at.result c.in_ok-map_err.field-0
    c.map_err-in-loop-at.ensures.cases c.in_ok-map_err.was in
    let e = rw frame at c.frame_at-f.ensures in
    let p = c.loop-at.invariant in
    let inside = c.loop-at-test.true in
    (omega (arith, p.short, inside), few p inside e refl (rw (passed, c.is_some.ensures) at c.judge_frame.ensures) refl)

pub overflow_add-at : goal.overflow_add-at
overflow_add-at c = omega (arith, near c.loop-at.invariant c.loop-at-test.true c.frame_at-f.ensures, c.loop-at.invariant.short)

pub loop-at-smaller : goal.loop-at-smaller
loop-at-smaller c = omega (arith, near c.loop-at.invariant c.loop-at-test.true c.frame_at-f.ensures)

pub loop-at-preserved : goal.loop-at-preserved
loop-at-preserved c =
    let frame = ok_was _ c.frame_at-f.result.frame c.map_err.result c.in_ok-bytes.field-0 c.map_err.ensures.cases
    c.in_ok-bytes.was in
    let passed = ok_was _ c.judge_frame.result c.map_err-in-loop-at.result c.in_ok-map_err.field-0
    c.map_err-in-loop-at.ensures.cases c.in_ok-map_err.was in
    let e = rw frame at c.frame_at-f.ensures in
    let bytes = take c.in_ok-bytes.field-0.size c.in_ok-bytes.field-0.bytes in
    let drawn : draft_told c.if-element-ne3.draft ≡ with_frame (draft_told c.loop-at.draft) c.loop-at.line c.loop-at.at bytes =
    elim c.if-element-ne3.branch [
      | then-element-ne3 w ↦ ap draft_told w.draft-is ∙ w.with_frame-draft.ensures
      | else-element-ne3 w ↦ ap draft_told w.draft-is
          ∙ note_kept _ _ _ bytes (sym c.element.ensures ∙ w.if-element-ne3.false)
    ] in
    more c.loop-at.invariant c.loop-at-test.true e refl (rw (passed, c.is_some.ensures) at c.judge_frame.ensures) refl
    drawn c.keep_body.ensures

pub finish-requires : goal.finish-requires
finish-requires c =
    let d = c.loop-at.invariant.drafted in
    (law.few d, law.body_fits d)

-- ---- no line is left
pub returns : goal.returns
returns c =
    let loop = c.loop-at in
    let p = loop.invariant in
    let past = c.loop-at-test.false in
    let all = p.whole ∙ ap (λ (fs : Frames). p.done ++ fs.all) (turn.frames_end _ loop.line loop.at past)
    ∙ append-nil p.done in
    law.lines_ended _ (rw (← all) at p.drafted) loop.line
    (rw all (p.left ∙ turn.lines_end _ p.done loop.line loop.at past)) c.finish.ensures
