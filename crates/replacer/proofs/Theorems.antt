-- THEOREMS about a text with one right side replaced: what is read of it, that replacing twice is replacing
-- once, and that a looser right side keeps every yes.
-- The lines are parted at the equation's; what stands before and behind it is the same list in both texts.
use Prim.Native.Nat.{ℕ, ◌+◌, ◌-◌, ◌*◌, ◌≤◌, ◌<◌}
use Rattle.std.proofs.Common.{arith, subst, ◌∙◌, get_or-set_same}
use Rattle.std.specs.Prelude.{◌≡◌, true, false, eqb, leb, get_or, take, drop, set}
use Rattle.std.proofs.Math.Path.{refl, sym, ap, ap₂}
use mathlib.Core.List.{List, [], ◌∷◌, ◌++◌, map}
use Rattle.std.proofs.Math.ListN.{length, length-set}
use Rattle.std.proofs.lemmas.List.{length-map, set_at}
use Rattle.std.proofs.Math.Seq.{take_at}
use borrow.Author.Tests.{leb-true, eq-eqb}
use Rattle.meaning.specs.Formulas.{Formula}
use Rattle.meaning.specs.Models.{ModelEquation, model_equation, Model}
use Rattle.meaning.specs.Ranges.{signatures}
use Rattle.meaning.specs.Looser.{Loosens, Looser_equations, no_equations, looser, Looser}
use Rattle.digits.specs.Digits.{characters}
use Rattle.frames.specs.Lines.{Line, lines_of, joined, line_place}
use Rattle.frames.specs.Frames.{Frame, Frames, frames}
use Rattle.frames.specs.Whole.{framed}
use Rattle.formulas.specs.Bodies.{formula_of}
use Rattle.reading.specs.Equations.{ranges_in, body_in, equation_of}
use Rattle.reading.specs.Models.{frames_with, equations_in, first_of, model_of}
use Rattle.reading.specs.Reading.{Refusal, text_refusal}
use Rattle.reading.proofs.Drafts.{frame_of}
use Rattle.reading.proofs.Refusals.{passed}
use Rattle.answers.specs.Answers.{the_model, the_start, list, answer}
use Rattle.answers.proofs.Demand3.{looser_text_holds, looser_text_bits}
use Rattle.truth.specs.Bits.{bit_of}
use Rattle.replacer.specs.Replaced.{equation_frame, head_size, with_side, lines_replaced, replaced_text}
use Rattle.replacer.specs.Replaced.{replacement_refusal}
use Rattle.replacer.specs.Order.{Accepted}
use Rattle.replacer.proofs.Order.{written_exactly}
use Rattle.replacer.specs.Heads.{frame_with}
use Rattle.replacer.proofs.Heads.{head_whole, same_code, same_sign, same_count}
use Rattle.replacer.proofs.Heads.{same_ranges, new_body}
use Rattle.replacer.specs.Judging.{equation_from}
use Rattle.replacer.proofs.Judging.{equations_split, others_split, model_split}
use Rattle.replacer.specs.Standing.{Standing}
use Rattle.replacer.proofs.Standing.{standing}
use Rattle.replacer.specs.Result.{Small}
use Rattle.replacer.proofs.Result.{bytes_there, line_there, head_there, new_line}
use Rattle.replacer.proofs.Result.{result_lines}
use Rattle.replacer.proofs.Result.{line_replaced, result_joined, head_digits, old_length, new_length}
use Rattle.replacer.proofs.Result.{places_before, places_behind}
use Rattle.replacer.specs.Judged.{side_refusal}
use Rattle.replacer.proofs.Judged.{frames_there, frames_result, result_judged}
use Rattle.replacer.specs.Theorems.{new_equation, new_frame}

-- ---- what is refused
-- THEOREM: "what 01's order gives for the resulting text" is told by the new right side alone: 1 by the
-- length of the text, and at the equation's line 3, 6 and 7; nothing else can be refused
pub result_told : (t : List ℕ) (e : ℕ) (side : List ℕ) → (text_refusal t).number ≡ 0
    → e < length (equations_in (frames t).all) → Small side
    → text_refusal (replaced_text t e side) ≡ side_refusal t e side
result_told t e side z h small = result_judged z (standing t e z h) side small

-- one equation of a model loosened
same_model : (declared : List (List ℕ)) (ys : Model) → Looser_equations declared ys ys
same_model declared [] = no_equations
same_model declared (y ∷ ys) = looser (λ g. g) (λ θ o x i h. h) (same_model declared ys)

looser_at : (declared : List (List ℕ)) (xs ys : Model) (x : ModelEquation) (f : Formula)
    → Loosens declared x.ranges x.body f
    → Looser_equations declared (xs ++ (x ∷ ys)) (xs ++ (model_equation x.greatest x.ranges f ∷ ys))
looser_at declared [] ys x f h = looser (λ g. g) h (same_model declared ys)
looser_at declared (y ∷ xs) ys x f h = looser (λ g. g) (λ θ o x i h. h) (looser_at declared xs ys x f h)

-- ---- a text that is written, whatever the buffer's length
module _ (t : List ℕ) (e : ℕ) (side : List ℕ) (room : ℕ) (small : Small side)
    (z : (replacement_refusal t e side room).number ≡ 0) where
  accepted : Accepted t e side room
  accepted = (written_exactly t e side room).0 z

  abbrev result : List ℕ
  result = replaced_text t e side

  there : Standing t e
  there = standing t e accepted.read accepted.there

  -- what is not refused by 1 and 3
  asked : (length result ≤ 32768) × (head_there there + length side ≤ 256)
  unfolding side_refusal
  asked =
      let passes : (side_refusal t e side).number ≡ 0 =
      ap (λ (r : Refusal). r.number) (sym (result_judged accepted.read there side small)) ∙
      accepted.result in
      let one = passed (λ (r : Refusal). r.number) (leb (length result) 32768) passes (omega arith) in
      let three = passed (λ (r : Refusal). r.number)
      (leb (head_size (equation_frame t e).bytes + length side) 256)
      one.1 (omega arith) in
      let brief : head_size (equation_frame t e).bytes + length side ≤ 256 = leb-true _ _ three.0 in
      (leb-true _ _ one.0, rw there.frame_is at brief)

  abbrev before : List Frame
  before = framed 1 there.before

  abbrev after : List Frame
  after = framed (line_there there + 1) there.after

  result_frames : frames result ≡ record {
    all = before ++ (frame_of (line_there there) (frame_with (bytes_there there) side) ∷ after);
    number = 0;
    line = (frames t).line;
  }
  result_frames = frames_result accepted.read there side small asked.0 asked.1

  result_all : (frames result).all ≡ before ++
      (frame_of (line_there there) (frame_with (bytes_there there) side) ∷ after)
  result_all = ap (λ (r : Frames). r.all) result_frames

  old_all : (frames t).all ≡ before ++ (frame_of (line_there there) (bytes_there there) ∷ after)
  old_all = frames_there accepted.read there

  new_code : get_or (frame_with (bytes_there there) side) 0 0 ≡ 1
  new_code = same_code (bytes_there there) side (head_whole (bytes_there there) there.valid) ∙ there.code

  -- THEOREM: that equation's frame is as new, and every other frame is as it was, in the same lines
  pub replaced_equations : equations_in (frames result).all
      ≡ set (equations_in (frames t).all) e (new_frame t e side)
  replaced_equations =
      let old = ap equations_in old_all ∙
      equations_split before (line_there there) (bytes_there there) after there.code in
      let new = ap equations_in result_all ∙ equations_split before (line_there there) _ after new_code in
      new ∙ rw there.frame_is (sym (
      ap (λ (l : List Frame). set l e (frame_of (line_there there) (frame_with (bytes_there there) side)))
      old ∙
      set_at (equations_in before) _ _ _ e there.number
      ))

  -- THEOREM: "all other equations, start and notes as they were, at the same lines"
  pub replaced_others : (code : ℕ) → eqb 1 code ≡ false
      → frames_with code (frames result).all ≡ frames_with code (frames t).all
  replaced_others code other =
      ap (frames_with code) result_all ∙ others_split before (line_there there) _ after new_code code other ∙
      sym (ap (frames_with code) old_all ∙
      others_split before (line_there there) (bytes_there there) after there.code code other)

  pub replaced_start : the_start result ≡ the_start t
  replaced_start = ap (λ (ss : List Frame). drop 1 (first_of ss).bytes) (replaced_others 2 refl)

  pub replaced_end : (frames result).line ≡ (frames t).line
  replaced_end = ap (λ (r : Frames). r.line) result_frames

  -- THEOREM: lines up to that equation's begin where they did, and later ones farther by the difference of
  -- the two right sides' digits
  pub places_stay : (i : ℕ) → i ≤ (equation_frame t e).line → line_place result i ≡ line_place t i
  places_stay i h =
      let near : i ≤ line_there there = rw there.frame_is at h in
      rw (result_lines there side small, there.is)
      (places_before there.before there.line (new_line there side) there.after (i - 1) (omega arith))

  pub places_move : (i : ℕ) → (equation_frame t e).line < i
      → line_place result i + 2 * length (body_in (equation_frame t e).bytes)
      ≡ line_place t i + 2 * length side
  places_move i h =
      let past : line_there there < i = rw there.frame_is at h in
      let moved = places_behind there.before there.line (new_line there side) there.after (i - 1)
      (omega arith) in
      rw (there.frame_is, result_lines there side small, there.is)
      (omega (arith, moved, old_length there, new_length there side))

  -- ---- the model
  equation_new : equation_of (frame_with (bytes_there there) side) ≡ new_equation t e side
  equation_new =
      let whole = head_whole (bytes_there there) there.valid in
      rw (
        there.frame_is,
        same_ranges (bytes_there there) side whole,
        new_body (bytes_there there) side whole,
        same_sign (bytes_there there) side whole,
      ) refl

  abbrev equations_before : Model
  equations_before = map equation_from (equations_in before)

  abbrev equations_after : Model
  equations_after = map equation_from (equations_in after)

  old_model : the_model t ≡ equations_before ++ (equation_of (bytes_there there) ∷ equations_after)
  old_model = ap model_of old_all ∙ model_split before (line_there there) (bytes_there there) after
      there.code

  new_model : the_model result ≡ equations_before ++ (new_equation t e side ∷ equations_after)
  new_model =
      ap model_of result_all ∙ model_split before (line_there there) _ after new_code ∙
      ap (λ (x : ModelEquation). equations_before ++ (x ∷ equations_after)) equation_new

  -- THEOREM: "Reading it gives that equation as new and all other equations .. as they were"
  pub replaced_model : the_model result ≡ set (the_model t) e (new_equation t e side)
  replaced_model =
      let number = length-map (equations_in before) equation_from ∙ there.number in
      new_model ∙ sym (
      ap (λ (m : Model). set m e (new_equation t e side)) old_model ∙
      set_at equations_before (equation_of (bytes_there there)) equations_after (new_equation t e side) e
      number
      )

  -- ---- DEMAND 3 in use: the new right side is true wherever the old one is
  module _ (loosened : let f = (equation_frame t e).bytes in
      Loosens (signatures (the_model t)) (ranges_in f) (formula_of (body_in f) (ranges_in f))
      (formula_of side (ranges_in f)))
    where
      replaced_looser : Looser (the_model t) (the_model result)
      replaced_looser =
          let declared = signatures (the_model t) in
          let f = bytes_there there in
          let new : new_equation t e side
          ≡ model_equation (eqb (get_or f 1 0) 1) (ranges_in f) (formula_of side (ranges_in f)) =
          rw there.frame_is refl in
          let model = new_model ∙ ap (λ (x : ModelEquation). equations_before ++ (x ∷ equations_after)) new in
          let looser_there = looser_at declared equations_before equations_after (equation_of f)
          (formula_of side (ranges_in f)) (rw there.frame_is at loosened) in
          subst (λ (m : Model). Looser_equations declared m (the_model result)) (sym old_model)
          (subst (Looser_equations declared (equations_before ++ (equation_of f ∷ equations_after)))
          (sym model) looser_there)

      -- THEOREM: what held holds, where the resulting text has a verdict
      pub looser_side_holds : (words words' : ℕ) → (answer t words).verdict ≡ 1
          → (answer result words').number ≡ 0
          → (answer result words').verdict ≡ 1
      looser_side_holds words words' = looser_text_holds t result words words' replaced_looser
          (sym replaced_start)

      -- and so does every instance that stands in both lists, at whatever places
      pub looser_side_bits : (words words' : ℕ) → (answer t words).number ≡ 0
          → (answer result words').number ≡ 0
          → (j j' : ℕ) → j < length (list t) → j' < length (list result)
          → get_or (list t) j [] ≡ get_or (list result) j' []
          → bit_of (answer t words).truth j ≡ true → bit_of (answer result words').truth j' ≡ true
      looser_side_bits words words' = looser_text_bits t result words words' replaced_looser

-- ---- twice
-- THEOREM: replacing twice is replacing once by the second, whatever the second is
module _ (t : List ℕ) (e : ℕ) (first second : List ℕ) (room : ℕ) (small : Small first)
    (z : (replacement_refusal t e first room).number ≡ 0) where
  abbrev once : List ℕ
  once = replaced_text t e first

  first_frame : equation_frame once e ≡ new_frame t e first
  first_frame =
      let a = (written_exactly t e first room).0 z in
      ap (λ (fs : List Frame). get_or fs e (first_of [])) (replaced_equations t e first room small z) ∙
      get_or-set_same (equations_in (frames t).all) e (new_frame t e first) (first_of []) a.there

  pub twice_is_once : replaced_text once e second ≡ replaced_text t e second
  unfolding replaced_text
  twice_is_once =
      let a = (written_exactly t e first room).0 z in
      let there = standing t e a.read a.there in
      let f = bytes_there there in
      let l = there.line in
      let frame = first_frame ∙ ap (λ (g : Frame). frame_of g.line (frame_with g.bytes first))
      there.frame_is in
      let count = same_count f first (head_whole f there.valid) in
      let head = take_at (take (2 * head_there there) l.characters) (characters first) _
      (head_digits there) in
      let with_head : List ℕ → Line = λ h. record { characters = h ++ characters second; ended = l.ended } in
      text_as frame (result_lines there first small) ∙
      ap joined (line_replaced there.before (new_line there first) there.after (frame_with f first)
      second) ∙
      ap (λ (k : ℕ). joined (there.before ++
      (with_side (3 + k) second (new_line there first) ∷ there.after))) count ∙
      ap (λ (h : List ℕ). joined (there.before ++ (with_head h ∷ there.after))) head ∙
      sym (result_joined there second)
    where
      text_as : {f : Frame} {ls : List Line} → equation_frame once e ≡ f → lines_of once ≡ ls
          → replaced_text once e second ≡ joined (lines_replaced f second ls)
      text_as p q = ap₂ (λ (f : Frame) (ls : List Line). joined (lines_replaced f second ls)) p q

  -- and it is refused as that is
  pub twice_refused_as_once : (room' : ℕ)
      → replacement_refusal once e second room' ≡ replacement_refusal t e second room'
  unfolding replacement_refusal
  twice_refused_as_once room' =
      let a = (written_exactly t e first room).0 z in
      let equations = equations_in (frames t).all in
      let count = ap length (replaced_equations t e first room small z) ∙
      length-set equations e (new_frame t e first) in
      rw (eq-eqb _ 0 a.read, eq-eqb _ 0 a.result, twice_is_once, count) refl
