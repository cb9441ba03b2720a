-- How frames are judged when the right side of one of them is another: all that was passed is passed again,
-- and what is asked of the new right side is whether it is a body, and whether its instances fit.
-- Frame by frame; what is asked of a frame hangs on how many equations stand before it and on the starts.
use Rattle.std.specs.Prelude.{ℕ, suc, ◌+◌, ◌<◌, ◌≡◌, Bool, true, false, cond, eqb, length, get_or}
use Rattle.std.proofs.Common.{arith, sym, ◌∙◌, length-append, get_or-append-add}
use Rattle.std.proofs.Math.Path.{refl, ap}
use mathlib.Core.List.{List, [], ◌∷◌, ◌++◌, map, map-append, append_assoc, append-nil}
use Rattle.std.proofs.Math.ListN.{get_or-append}
use Rattle.std.proofs.Math.Seq.{drop-append_seam, drop-length}
use borrow.Author.Tests.{eqb-true, eqb-false, eq-eqb, lt-ltb}
use Rattle.meaning.specs.Logic.{cases}
use Rattle.meaning.specs.Models.{ModelEquation}
use Rattle.meaning.specs.Ranges.{signatures}
use Rattle.frames.specs.Frames.{Frame}
use Rattle.formulas.specs.Bodies.{is_body, is_fitting}
use Rattle.reading.specs.Equations.{ranges_in, body_in, is_valid_head, equation_of}
use Rattle.reading.specs.Models.{frames_with, equations_in, starts_in, is_none, first_of, model_of}
use Rattle.reading.specs.Reading.{Refusal, refused, equation_refusal, frame_refusal, instances_judged}
use Rattle.reading.specs.Reading.{start_judged, finished, frames_judged}
use Rattle.reading.proofs.Drafts.{no_frame, frame_of, refusal_after, frames_more}
use Rattle.reading.proofs.Drafts.{equation_passed}
use Rattle.reading.proofs.Finishing.{judged_on}
use Rattle.reading.proofs.WellFormed.{Passed}
use Rattle.replacer.specs.Heads.{frame_with}
use Rattle.replacer.proofs.Heads.{same_code, same_ranges, new_body, head_whole, head_stays}
use Rattle.replacer.specs.Judging.{equation_from}

-- ---- frames that are passed
pub passed_over : (done gs rest : List Frame) (end : Refusal)
    → (frames_judged done (gs ++ rest) end).number ≡ 0
    → (others : List Frame) (end' : Refusal)
    → frames_judged done (gs ++ others) end' ≡ frames_judged (done ++ gs) others end'
unfolding frames_judged
passed_over done [] rest end z others end' = rw (append-nil done) refl
passed_over done (g ∷ gs) rest end z others end' = cases (eqb (refusal_after done g.bytes) 0)
    (λ e. rw e (passed_over (done ++ (g ∷ [])) gs rest end (rw e at z) others end' ∙
    rw (append_assoc done (g ∷ []) gs) refl))
    (λ e. absurd (eqb-false _ 0 e (rw e at z)))

-- where none is refused, neither is the line at which they end
pub end_passed : (done fs : List Frame) (end : Refusal) → (frames_judged done fs end).number ≡ 0
    → end.number ≡ 0
unfolding frames_judged
end_passed done [] end z = cases (eqb end.number 0) (λ e. eqb-true _ 0 e) (λ e. rw e at z)
end_passed done (f ∷ fs) end z = cases (eqb (refusal_after done f.bytes) 0)
    (λ e. end_passed (done ++ (f ∷ [])) fs end (rw e at z)) (λ e. absurd (eqb-false _ 0 e (rw e at z)))

-- as many equations, and the same starts
record Alike (done done' : List Frame) : Type 0 where
  count : length (equations_in done') ≡ length (equations_in done)
  starts : starts_in done' ≡ starts_in done

alike_more : {done done' : List Frame} → Alike done done' → (gs : List Frame)
    → Alike (done ++ gs) (done' ++ gs)
alike_more {done} {done'} a gs = record {
  count =
      ap length (frames_more 1 done' gs) ∙ length-append (equations_in done') (equations_in gs) ∙
      rw a.count (sym (length-append (equations_in done) (equations_in gs))) ∙
      ap length (sym (frames_more 1 done gs));
  starts = frames_more 2 done' gs ∙ rw a.starts (sym (frames_more 2 done gs));
}

-- what is passed behind some is passed behind others that are alike
passed_alike : {done done' : List Frame} → Alike done done' → (fs : List Frame) (end : Refusal)
    → (frames_judged done fs end).number ≡ 0 → frames_judged done' fs end ≡ finished (done' ++ fs) end.line
unfolding frames_judged
passed_alike {done} {done'} a [] end z =
    rw (eq-eqb end.number 0 (end_passed done [] end z), append-nil done') refl
passed_alike {done} {done'} a (f ∷ fs) end z = cases (eqb (refusal_after done f.bytes) 0)
    (λ e. rw (a.count, a.starts, e) (passed_alike (alike_more a (f ∷ [])) fs end (rw e at z) ∙
    rw (append_assoc done' (f ∷ []) fs) refl))
    (λ e. absurd (eqb-false _ 0 e (rw e at z)))

abbrev ranges_from : ModelEquation → List ℕ
ranges_from e = e.ranges

module _ (before : List Frame) (i : ℕ) (f : List ℕ) (after : List Frame) (code : get_or f 0 0 ≡ 1) where
  abbrev all : List Frame
  all = before ++ (frame_of i f ∷ after)

  pub equations_split : equations_in all ≡ equations_in before ++ (frame_of i f ∷ equations_in after)
  unfolding frames_with
  equations_split = frames_more 1 before (frame_of i f ∷ after) ∙ rw (eq-eqb _ 1 code) refl

  -- frames with another first byte: the starts, the notes
  pub others_split : (other : ℕ) → eqb 1 other ≡ false
      → frames_with other all ≡ frames_with other before ++ frames_with other after
  unfolding frames_with
  others_split other e = frames_more other before (frame_of i f ∷ after) ∙ rw (code, e) refl

  pub model_split : model_of all
      ≡ map equation_from (equations_in before) ++ (equation_of f ∷ map equation_from (equations_in after))
  unfolding model_of
  model_split =
      ap (map equation_from) equations_split ∙
      map-append equation_from (equations_in before) (frame_of i f ∷ equations_in after)

  signatures_split : signatures (model_of all)
      ≡ map ranges_from (map equation_from (equations_in before)) ++
      (ranges_in f ∷ map ranges_from (map equation_from (equations_in after)))
  signatures_split =
      ap (map ranges_from) model_split ∙ map-append ranges_from (map equation_from (equations_in before)) _

-- ---- the same with a new right side
module _ (before : List Frame) (i : ℕ) (f : List ℕ) (after : List Frame) (code : get_or f 0 0 ≡ 1)
    (valid : is_valid_head f ≡ true) (side : List ℕ) where
  abbrev old : List Frame
  old = before ++ (frame_of i f ∷ after)

  abbrev new_bytes : List ℕ
  new_bytes = frame_with f side

  abbrev new : List Frame
  new = before ++ (frame_of i new_bytes ∷ after)

  new_code : get_or new_bytes 0 0 ≡ 1
  new_code = same_code f side (head_whole f valid) ∙ code

  ranges_stay : ranges_in new_bytes ≡ ranges_in f
  ranges_stay = same_ranges f side (head_whole f valid)

  body_new : body_in new_bytes ≡ side
  body_new = new_body f side (head_whole f valid)

  pub starts_stay : starts_in new ≡ starts_in old
  starts_stay = others_split before i new_bytes after new_code 2 refl ∙
      sym (others_split before i f after code 2 refl)

  pub signatures_stay : signatures (model_of new) ≡ signatures (model_of old)
  signatures_stay =
      signatures_split before i new_bytes after new_code ∙
      rw ranges_stay (sym (signatures_split before i f after code))

  alike : Alike (before ++ (frame_of i f ∷ [])) (before ++ (frame_of i new_bytes ∷ []))
  alike =
      let one = equations_split before i new_bytes [] new_code in
      let other = equations_split before i f [] code in
      record {
        count = ap length one ∙ length-append (equations_in before) _ ∙
            sym (ap length other ∙ length-append (equations_in before) _);
        starts = others_split before i new_bytes [] new_code 2 refl ∙
            sym (others_split before i f [] code 2 refl);
      }

  -- ---- where all of the old frames were passed
  module _ (end : Refusal) (z : (frames_judged [] old end).number ≡ 0) where
    from_here : (others : List Frame) (end' : Refusal)
        → frames_judged [] (before ++ others) end' ≡ frames_judged before others end'
    from_here = passed_over [] before (frame_of i f ∷ after) end z

    here : (frames_judged before (frame_of i f ∷ after) end).number ≡ 0
    here = ap (λ (r : Refusal). r.number) (sym (from_here (frame_of i f ∷ after) end)) ∙ z

    not_refused : refusal_after before f ≡ 0
    unfolding frames_judged
    not_refused = cases (eqb (refusal_after before f) 0) (λ e. eqb-true _ 0 e) (λ e. rw e at here)

    later : (frames_judged (before ++ (frame_of i f ∷ [])) after end).number ≡ 0
    unfolding frames_judged
    later = rw not_refused at here

    new_refusal : refusal_after before new_bytes ≡ cond (is_body side (ranges_in f)) 0 6
    unfolding frame_refusal equation_refusal
    new_refusal =
        let told = equation_passed (length (equations_in before)) (is_none (starts_in before)) f
        (rw code at not_refused) in
        rw (body_new, ranges_stay, new_code, told.0, lt-ltb _ 8 told.1, head_stays f side valid) refl

    -- 6, whatever comes behind
    pub no_body : is_body side (ranges_in f) ≡ false → (others : List Frame) (end' : Refusal)
        → frames_judged [] (before ++ (frame_of i new_bytes ∷ others)) end' ≡ refused 6 i
    unfolding frames_judged
    no_body b others end' = from_here (frame_of i new_bytes ∷ others) end' ∙ rw (new_refusal, b) refl

    -- else what is asked at the end
    pub a_body : is_body side (ranges_in f) ≡ true → frames_judged [] new end ≡ finished new end.line
    unfolding frames_judged
    a_body b =
        from_here (frame_of i new_bytes ∷ after) end ∙
        rw (new_refusal, b) (passed_alike alike after end later ∙
        rw (append_assoc before (frame_of i new_bytes ∷ []) after) refl)

    -- a line that is refused in its place
    pub line_refused : (number : ℕ) → eqb number 0 ≡ false
        → frames_judged [] (before ++ []) (refused number i) ≡ refused number i
    unfolding frames_judged
    line_refused number e = from_here [] (refused number i) ∙ rw e refl

  -- ---- 7 and 8
  module _ (p : Passed old) (line : ℕ) where
    abbrev sigs : List (List ℕ)
    sigs = signatures (model_of old)

    abbrev fits_in : Frame → Bool
    fits_in g = is_fitting sigs (body_in g.bytes) (ranges_in g.bytes)

    old_fits : (j : ℕ) → j < length (equations_in before ++ (frame_of i f ∷ equations_in after))
        → fits_in (get_or (equations_in before ++ (frame_of i f ∷ equations_in after)) j no_frame) ≡ true
    old_fits = rw (equations_split before i f after code) at p.fit

    before_fit : (x : Frame) (j : ℕ) → j < length (equations_in before)
        → fits_in (get_or (equations_in before ++ (x ∷ equations_in after)) j no_frame) ≡ true
    before_fit x j h =
        let es = equations_in before in
        let same = get_or-append es (x ∷ equations_in after) no_frame j h ∙
        sym (get_or-append es (frame_of i f ∷ equations_in after) no_frame j h) in
        ap fits_in same ∙ old_fits j (omega (arith, length-append es (frame_of i f ∷ equations_in after)))

    after_fit : (j : ℕ) → j < length (equations_in after)
        → fits_in (get_or (equations_in after) j no_frame) ≡ true
    after_fit j h =
        let es = equations_in before in
        let behind = get_or-append-add es (frame_of i f ∷ equations_in after) (suc j) no_frame in
        ap fits_in (sym behind) ∙
        old_fits (length es + suc j) (omega (arith, length-append es (frame_of i f ∷ equations_in after)))

    new_judged : (others : Refusal)
        → instances_judged sigs (equations_in new) others
        ≡ cond (is_fitting sigs side (ranges_in f)) others (refused 7 i)
    unfolding instances_judged
    new_judged others =
        let es = equations_in before in
        let x = frame_of i new_bytes in
        let rest = judged_on sigs others (equations_in after) (length (equations_in after)) after_fit in
        ap (λ (l : List Frame). instances_judged sigs l others)
        (equations_split before i new_bytes after new_code) ∙
        judged_on sigs others (es ++ (x ∷ equations_in after)) (length es) (before_fit x) ∙
        rw (drop-append_seam es (x ∷ equations_in after), body_new, ranges_stay, rest)
        (rw (drop-length (equations_in after)) refl)

    pub new_finished : finished new line
        ≡ cond (is_fitting sigs side (ranges_in f)) (refused 0 0) (refused 7 i)
    unfolding finished start_judged
    new_finished =
        let judged = new_judged (start_judged sigs (first_of (starts_in old))) in
        rw (starts_stay, signatures_stay, p.started, judged, p.starts) refl
