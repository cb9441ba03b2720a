-- What comes after the lines: the missing start, 7 by line, 8, as the structs tell it and as the frames define it.
-- The structs hold the frames, so each test of the code is the test of the definition.
use Prim.Native.Nat.{ℕ, zero, suc, ◌+◌, ◌-◌, ◌*◌, ◌≤◌, ◌<◌}
use native.Mathlib.Omega.{arith}
use mathlib.Core.Path.{◌≡◌, refl, sym, ap, ◌∙◌}
use mathlib.Core.Bool.{Bool, true, cond, not, ◌&&◌}
use mathlib.Core.List.{List, [], ◌∷◌, ◌++◌, map}
use lib.Dec.{leb, ltb}
use lib.ListN.{length, get_or, take, drop, replicate, length-drop, length-map, length-append, length-replicate, length-take}
use lib.ListN.{drop_of_length-le}
use lib.Seq.{take_at, drop-cons}
use borrow.Author.Tests.{leb-true, leb-false, ne_eqb}
use Rattle.std.specs.Prelude.{None, Result, Ok, Err, IsErrAnd}
use Rattle.meaning.specs.Logic.{◌and◌, and-false, cases}
use Rattle.meaning.specs.Ranges.{signatures, typed}
use Rattle.meaning.specs.WordLaws.{four_of}
use Rattle.meaning.proofs.WordLaws.{first_of_four}
use Rattle.refusals.specs.declared.Refusal as refusals
use Rattle.refusals.specs.Numbers.{number_of}
use Rattle.refusals.specs.OneReply.{some_number}
use Rattle.frames.specs.Lines.{line_place}
use Rattle.frames.specs.Frames.{Frame, frames}
use Rattle.formulas.specs.declared.Equation.{Equation}
use Rattle.formulas.specs.Bodies.{blank, ranges_of, signatures_of, is_fitting}
use Rattle.formulas.proofs.Decoded.{body_short}
use Rattle.reading.specs.declared.Model.{Model}
use Rattle.reading.specs.declared.Reading.{Reading}
use Rattle.reading.specs.Contract.{start_from, is_start, fits_at, FirstMisfit, all_fit, misfit, Finishes, no_start, misfits}
use Rattle.reading.specs.Contract.{wrong_start, passes, LinesRead, accepted, stopped}
use Rattle.reading.specs.Equations.{four_ranges, ranges_in, body_in, equation_of, start_of}
use Rattle.reading.specs.Models.{frames_with, equations_in, starts_in, is_none, first_of, model_of}
use Rattle.reading.specs.Reading.{Refusal, refused, instances_judged, start_judged, finished, text_refusal}
use Rattle.reading.specs.Records.{equation_record, start_record, eight, ModelRecord, model_record, bodies_over}
use Rattle.reading.specs.Records.{ReadingRecord, told, reading}
use Rattle.reading.proofs.Starts.{other_length}
use Rattle.reading.proofs.Drafts.{Drafted, no_frame, count_is, unstarted_is, length_bodies, body_stored}

-- ---- lists
eight_length : {A B : Type 0} (g : A → B) (l : List A) (x : B) → length l ≤ 8 → length (eight x (map g l)) ≡ 8
eight_length g l x h =
    let n = 8 - length (map g l) in
    omega (arith, length-append (map g l) (replicate n x), length-replicate n x, length-map l g)

-- one of a list that was mapped and filled up
mapped_at : {A B : Type 0} (g : A → B) (l : List A) (more : List B) (j : ℕ) (a : A) (b : B) → j < length l
    → get_or (map g l ++ more) j b ≡ g (get_or l j a)
mapped_at g [] more j a b h = absurd (omega arith)
mapped_at g (x ∷ l) more zero a b h = refl
mapped_at g (x ∷ l) more (suc j) a b h = mapped_at g l more j a b (omega arith)

-- ---- the sizes that the code asks for
module _ {place : ℕ → ℕ} {fs : List Frame} {m : ModelRecord} {bodies : List ℕ} (d : Drafted place fs m bodies) where
  abbrev es : List Frame
  es = equations_in fs

  pub few : m.count ≤ 8
  few = rw (count_is d) d.kept.sound.few

  pub eight_equations : length m.equations ≡ 8
  unfolding model_record
  eight_equations = ap (λ (m : ModelRecord). length m.equations) d.model ∙ eight_length _ es _ d.kept.sound.few

  pub eight_lines : length m.lines ≡ 8
  unfolding model_record
  eight_lines = ap (λ (m : ModelRecord). length m.lines) d.model ∙ eight_length _ es _ d.kept.sound.few

  pub bodies_long : length bodies ≡ 2048
  bodies_long = ap length d.stored ∙ length_bodies 0 es _

  module _ (j : ℕ) (h : j < m.count) where
    abbrev there : Frame
    there = get_or es j no_frame

    in_frames : j < length es
    in_frames = rw (count_is d) at h

    -- equation j's record is that of its frame
    pub equation_there : get_or m.equations j blank ≡ equation_record (place there.line) there.bytes
    unfolding model_record
    equation_there =
        ap (λ (m : ModelRecord). get_or m.equations j blank) d.model ∙
        mapped_at (λ f. equation_record (place f.line) f.bytes) es _ j no_frame blank in_frames

    pub line_there : get_or m.lines j 0 ≡ there.line
    unfolding model_record
    line_there = ap (λ (m : ModelRecord). get_or m.lines j 0) d.model ∙ mapped_at (λ f. f.line) es _ j no_frame 0 in_frames

    length_there : (get_or m.equations j blank).length ≡ length (body_in there.bytes)
    unfolding equation_record
    length_there = ap (λ (e : Equation). e.length) equation_there ∙ sym (length-drop _ there.bytes)

    short : length (body_in there.bytes) ≤ 256
    short = body_short _ _ (d.kept.sound.each j in_frames).body

    pub body_fits : (get_or m.equations j blank).length ≤ 256
    body_fits = rw length_there short

  -- ---- 7
  record_of : Frame → Equation
  record_of f = equation_record (place f.line) f.bytes

  ranges_same : (fs : List Frame) → map ranges_of (map record_of fs) ≡ map (λ e. e.ranges) (map (λ f. equation_of f.bytes) fs)
  unfolding record_of equation_record
  ranges_same [] = refl
  ranges_same (f ∷ fs) = ap (λ (l : List (List ℕ)). ranges_in f.bytes ∷ l) (ranges_same fs)

  pub signatures_same : signatures_of m.equations m.count ≡ signatures (model_of fs)
  unfolding model_record model_of record_of
  signatures_same =
      ap (λ (m : ModelRecord). signatures_of m.equations m.count) d.model ∙
      ap (map ranges_of) (take_at (map record_of es) _ (length es) (length-map es record_of)) ∙ ranges_same es

  abbrev fit : Frame → Bool
  fit f = is_fitting (signatures (model_of fs)) (body_in f.bytes) (ranges_in f.bytes)

  pub body_there : (j : ℕ) (h : j < m.count)
      → take (get_or m.equations j blank).length (drop (256 * j) bodies) ≡ body_in (get_or es j no_frame).bytes
  body_there j h =
      let z : 0 + j ≡ j = omega arith in
      let stored = body_stored 0 es (replicate 2048 0) j (in_frames j h)
      (λ k l. short k (rw (count_is d) l)) (omega (arith, d.kept.sound.few, length-replicate {A = ℕ} 2048 0)) in
      ap (λ (n : ℕ). take n (drop (256 * j) bodies)) (length_there j h) ∙
      ap (λ (b : List ℕ). take (length (body_in (get_or es j no_frame).bytes)) (drop (256 * j) b)) d.stored ∙ rw z at stored

  pub fits_there : (j : ℕ) → j < m.count → fits_at m bodies j ≡ fit (get_or es j no_frame)
  unfolding fits_at equation_record
  fits_there j h =
      ap (λ (b : List ℕ). is_fitting (signatures_of m.equations m.count) b (ranges_of (get_or m.equations j blank)))
      (body_there j h) ∙
      ap (λ (e : Equation). is_fitting (signatures_of m.equations m.count) (body_in (get_or es j no_frame).bytes)
      (ranges_of e)) (equation_there j h) ∙
      ap (λ (s : List (List ℕ)). is_fitting s (body_in (get_or es j no_frame).bytes) (ranges_in (get_or es j no_frame).bytes))
      signatures_same

module _ (sigs : List (List ℕ)) (others : Refusal) where
  abbrev fitting : Frame → Bool
  fitting f = is_fitting sigs (body_in f.bytes) (ranges_in f.bytes)

  -- where the first r fit, the others are asked
  pub judged_on : (es : List Frame) (r : ℕ) → ((j : ℕ) → j < r → fitting (get_or es j no_frame) ≡ true)
      → instances_judged sigs es others ≡ instances_judged sigs (drop r es) others
  unfolding instances_judged
  judged_on es zero f = refl
  judged_on [] (suc r) f = refl
  judged_on (e ∷ es) (suc r) f = rw (f 0 (omega arith)) (judged_on es r (λ j l. f (suc j) (omega arith)))

-- ---- 8: the start of the records, with the first four of its arguments, against that of the frame
within_four : (sigs : List (List ℕ)) (e : ℕ) (x : List ℕ) → ((i : ℕ) → length (get_or sigs i []) ≤ 4)
    → leb (length x) 4 && typed sigs (e ∷ take (length x) (four_of x)) ≡ typed sigs (e ∷ x)
unfolding typed ◌and◌
within_four sigs e x f = cases (leb (length x) 4) (λ h. rw (h, first_of_four x (leb-true _ 4 h)))
    (λ h. rw (h, other_length x (get_or sigs e []) (λ q. omega (arith, f e, q, leb-false (length x) 4 h)))
    (sym (and-false (ltb e (length sigs)))))

start_same : (sigs : List (List ℕ)) (line : ℕ) (f : List ℕ) → 2 ≤ length f → ((i : ℕ) → length (get_or sigs i []) ≤ 4)
    → leb (start_record line f).count 4 && typed sigs
    ((start_record line f).equation ∷ take (start_record line f).count (start_record line f).arguments)
    ≡ typed sigs (start_of f)
unfolding start_record
start_same sigs line [] l s = absurd (omega arith)
start_same sigs line (c ∷ []) l s = absurd (omega arith)
start_same sigs line (c ∷ e ∷ x) l s = let n : suc (suc (length x)) - 2 ≡ length x = omega arith in rw n (within_four sigs e x s)

pub signatures_short : (fs : List Frame) (i : ℕ)
    → length (get_or (map (λ e. e.ranges) (map (λ f. equation_of f.bytes) fs)) i []) ≤ 4
signatures_short [] i = omega arith
signatures_short (f ∷ fs) zero = omega (arith, length-take (get_or f.bytes 2 0) (four_ranges f.bytes))
signatures_short (f ∷ fs) (suc i) = signatures_short fs i

-- ---- all together
-- a text whose lines were all read
module _ (t : List ℕ) {m : ModelRecord} {bodies : List ℕ} (d : Drafted (line_place t) (frames t).all m bodies) (line : ℕ)
    (h : text_refusal t ≡ finished (frames t).all line) where
  abbrev all : List Frame
  all = (frames t).all

  begun : {b : Bool} → m.started ≡ b → is_none (starts_in all) ≡ not b
  begun s = sym (unstarted_is d) ∙ ap not s

  -- 8 as the code asks it
  start_is : m.started ≡ true → is_start m ≡ typed (signatures (model_of all)) (start_of (first_of (starts_in all)).bytes)
  unfolding is_start model_record model_of
  start_is s =
      ap (λ (x : List (List ℕ)). leb m.start.count 4 && typed x (start_from m)) (signatures_same d) ∙
      ap (λ (x : ModelRecord). leb x.start.count 4 && typed (signatures (model_of all)) (start_from x)) d.model ∙
      start_same (signatures (model_of all)) (first_of (starts_in all)).line (first_of (starts_in all)).bytes
      (d.kept.begun (begun s)) (signatures_short (equations_in all))

  start_line : m.start.line ≡ (first_of (starts_in all)).line
  unfolding model_record start_record
  start_line = ap (λ (x : ModelRecord). x.start.line) d.model

  -- after the start: the first equations that fit are passed over
  passed_over : (r : ℕ) → m.started ≡ true → r ≤ m.count → ((j : ℕ) → j < r → fits_at m bodies j ≡ true)
      → let sigs = signatures (model_of all) in
      text_refusal t ≡ instances_judged sigs (drop r (equations_in all)) (start_judged sigs (first_of (starts_in all)))
  unfolding finished
  passed_over r s near fit =
      h ∙ rw (begun s) (judged_on _ _ (equations_in all) r (λ j l. sym (fits_there d j (omega arith)) ∙ fit j l))

  judged_start : m.started ≡ true → FirstMisfit m bodies None
      → text_refusal t ≡ cond (is_start m) (refused 0 0) (refused 8 m.start.line)
  unfolding instances_judged start_judged
  judged_start s (all_fit fits) =
      let none = drop_of_length-le (equations_in all) {i = m.count} (omega (arith, count_is d)) in
      passed_over m.count s (omega arith) fits ∙ rw (none, start_is s, start_line) refl

  pub lines_ended : {r : Result Model refusals.Refusal} → Finishes m bodies line r → LinesRead t bodies r
  unfolding finished instances_judged
  lines_ended (no_start s) = stopped (h ∙ rw (begun s) refl)
  lines_ended (misfits s (misfit {j} l fits fails)) =
      let there = drop-cons (equations_in all) j no_frame (rw (count_is d) at l) in
      let misses = sym (fits_there d j l) ∙ fails in
      stopped (passed_over j s (omega arith) fits ∙ rw (there, line_there d j l, misses) refl)
  lines_ended (wrong_start s f e) = stopped (judged_start s f ∙ rw e refl)
  lines_ended (passes s f e same) = accepted (judged_start s f ∙ rw e refl) (same ∙ d.model) d.stored

-- ---- the whole reading
pub reading_read : (t after : List ℕ) (m : Model) → LinesRead t after (Ok m)
    → told (Ok (record { model = m; bodies = after })) ≡ reading t
unfolding reading
reading_read t after m (accepted e same stored) = rw (e, same, stored) refl

pub reading_refused : (t after : List ℕ) (r : refusals.Refusal) → LinesRead t after (Err r) → told (Err r) ≡ reading t
unfolding reading model_record frames_with bodies_over
reading_refused t after r (stopped e) = rw (e, ne_eqb (number_of r.reason) 0 (some_number r.reason)) refl

pub told_refused : (x : ReadingRecord) (r : Result Reading refusals.Refusal) (e : refusals.Refusal) → told (Err e) ≡ x
    → IsErrAnd r (λ f. f ≡ e) → told r ≡ x
told_refused x (Ok r) e k h = absurd h
told_refused x (Err f) e k h = rw h k
