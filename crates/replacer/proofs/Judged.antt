-- THEOREM: what 01's order gives for the resulting text, told by the new right side alone.
-- Everything else in the text was passed and is as it was, so only the equation's line can be refused, by 3,
-- 6 or 7, or the whole text by 1.
use Rattle.std.specs.Prelude.{ℕ, ◌+◌, ◌≤◌, ◌<◌, ◌≡◌, Bool, true, false, List, [], ◌∷◌, ◌++◌, leb}
use Rattle.std.proofs.Common.{arith, sym, ap, subst, ◌∙◌, leb-true, leb-false, le-leb}
use Rattle.std.proofs.Math.Path.{refl}
use Rattle.std.proofs.Math.Bool.{cond}
use Rattle.std.proofs.Math.ListN.{length, length-append}
use Rattle.meaning.specs.Logic.{cases}
use Rattle.meaning.specs.Ranges.{signatures}
use Rattle.frames.specs.Frames.{Frame, stopped, frames_from, frames}
use Rattle.frames.specs.Whole.{and, framed}
use Rattle.frames.proofs.Whole.{framed_append, each_joined, RightText, frames_behind}
use Rattle.frames.proofs.Whole.{right_framed}
use Rattle.formulas.specs.Bodies.{is_body, is_fitting}
use Rattle.reading.specs.Equations.{ranges_in}
use Rattle.reading.specs.Models.{model_of}
use Rattle.reading.specs.Reading.{Refusal, refused, frames_judged, text_refusal}
use Rattle.reading.proofs.Drafts.{frame_of}
use Rattle.reading.proofs.LineNumbers.{long_text_one}
use Rattle.reading.proofs.WellFormed.{Passed, text_passed}
use Rattle.replacer.specs.Replaced.{replaced_text}
use Rattle.replacer.specs.Heads.{frame_with}
use Rattle.replacer.proofs.Judging.{no_body, a_body, line_refused, new_finished}
use Rattle.replacer.specs.Standing.{Standing}
use Rattle.replacer.proofs.Standing.{frames_read}
use Rattle.replacer.specs.Result.{Small}
use Rattle.replacer.proofs.Result.{bytes_there, line_there, head_there, new_line, new_lines}
use Rattle.replacer.proofs.Result.{result_lines, new_bytes, new_right, new_too_long}
use Rattle.replacer.specs.Judged.{side_refusal}

module _ {t : List ℕ} {e : ℕ} (z : (text_refusal t).number ≡ 0) (s : Standing t e) where
  abbrev before : List Frame
  before = framed 1 s.before

  abbrev after : List Frame
  after = framed (line_there s + 1) s.after

  -- ---- the frames of the old text
  pub frames_there : (frames t).all ≡ before ++ (frame_of (line_there s) (bytes_there s) ∷ after)
  unfolding framed
  frames_there = s.frames_are ∙ framed_append 1 s.before (s.line ∷ s.after)

  abbrev end : Refusal
  end = refused 0 (frames t).line

  old_passed : (frames_judged [] (before ++ (frame_of (line_there s) (bytes_there s) ∷ after)) end).number ≡ 0
  unfolding text_refusal
  old_passed = rw (frames_there, frames_read t z) at z

  passed_there : Passed (before ++ (frame_of (line_there s) (bytes_there s) ∷ after))
  passed_there = subst Passed frames_there (text_passed t z)

  module _ (side : List ℕ) (small : Small side) where
    abbrev result : List ℕ
    result = replaced_text t e side

    abbrev fits : Bool
    fits = is_fitting (signatures (model_of (frames t).all)) side (ranges_in (bytes_there s))

    -- ---- the frames of the resulting text, where 1 and 3 do not refuse it
    module _ (short : length result ≤ 32768) (brief : head_there s + length side ≤ 256) where
      right_result : RightText result
      right_result =
          let new = and (new_right s side small brief) s.rights_after in
          let rights = each_joined s.rights_before new in
          record { short = short; right = rw (result_lines s side small) rights }

      pub frames_result : frames result ≡ record {
        all = before ++ (frame_of (line_there s) (frame_with (bytes_there s) side) ∷ after);
        number = 0;
        line = (frames t).line;
      }
      unfolding framed
      frames_result =
          let parts = framed_append 1 s.before (new_line s side ∷ s.after) in
          let old = length-append s.before (s.line ∷ s.after) in
          let new = length-append s.before (new_line s side ∷ s.after) in
          let line : 1 + length (new_lines s side) ≡ (frames t).line = omega (arith, s.end_is, old, new) in
          right_framed right_result ∙ rw (result_lines s side small)
          (rw (parts, new_bytes s side small, line) refl)

      judged_result : text_refusal result
          ≡ frames_judged [] (before ++ (frame_of (line_there s) (frame_with (bytes_there s) side) ∷ after))
          end
      unfolding text_refusal
      judged_result = rw frames_result refl

      sixth : is_body side (ranges_in (bytes_there s)) ≡ false
          → text_refusal result ≡ refused 6 (line_there s)
      sixth b =
          judged_result ∙
          no_body before (line_there s) (bytes_there s) after s.code s.valid side end old_passed b
          after end

      seventh : is_body side (ranges_in (bytes_there s)) ≡ true
          → text_refusal result ≡ cond fits (refused 0 0) (refused 7 (line_there s))
      seventh b =
          judged_result ∙
          a_body before (line_there s) (bytes_there s) after s.code s.valid side end old_passed b ∙
          new_finished before (line_there s) (bytes_there s) after s.code s.valid side passed_there
          (frames t).line ∙
          ap (λ (fs : List Frame). cond (is_fitting (signatures (model_of fs)) side
          (ranges_in (bytes_there s)))
          (refused 0 0) (refused 7 (line_there s))) (sym frames_there)

    -- ---- and where they do
    refused_here : 256 < head_there s + length side
        → frames_from (line_there s) (new_line s side ∷ s.after) ≡ stopped 3 (line_there s)
    unfolding frames_from
    refused_here long = rw (new_too_long s side small long) refl

    third : length result ≤ 32768 → 256 < head_there s + length side
        → text_refusal result ≡ refused 3 (line_there s)
    unfolding text_refusal frames
    third short long =
        let lines = frames_behind 1 s.rights_before (new_line s side ∷ s.after) in
        rw (le-leb (length result) 32768 short, result_lines s side small, lines, refused_here long)
        (line_refused before (line_there s) (bytes_there s) after s.code s.valid side end old_passed 3
        refl)

    -- THEOREM: all four together
    pub result_judged : text_refusal result ≡ side_refusal t e side
    unfolding side_refusal
    result_judged =
        rw s.frame_is (
        cases (leb (length result) 32768)
        (λ short. rw short (
        cases (leb (head_there s + length side) 256)
        (λ brief. rw brief (by_body (leb-true _ _ short) (leb-true _ _ brief)))
        (λ long. rw long (third (leb-true _ _ short) (leb-false _ _ long)))
        ))
        (λ long. rw long (long_text_one result (leb-false _ _ long)))
        )
      where
        by_body : length result ≤ 32768 → head_there s + length side ≤ 256 → text_refusal result
            ≡ cond (is_body side (ranges_in (bytes_there s)))
            (cond fits (refused 0 0) (refused 7 (line_there s))) (refused 6 (line_there s))
        by_body short brief = cases (is_body side (ranges_in (bytes_there s)))
            (λ b. rw b (seventh short brief b)) (λ b. rw b (sixth short brief b))
