-- What is known of the equation that is named, where the text was read: its record is that of its frame.
-- So the tests that the code makes of the record are those of the definition, and the text is cut at its place.
use Prim.Native.Nat.{ℕ, ◌+◌, ◌-◌, ◌*◌, ◌≤◌, ◌<◌, min}
use native.Mathlib.Omega.{arith}
use mathlib.Core.Path.{◌≡◌, refl, sym, ap, subst, ◌∙◌}
use mathlib.Core.Bool.{Bool, true, false, cond}
use mathlib.Core.List.{List}
use lib.Dec.{leb}
use lib.ListN.{length, get_or, length-drop}
use borrow.Author.Tests.{eq-eqb, le-leb}
use Rattle.std.specs.Prelude.{Result, Ok, Err}
use Rattle.refusals.specs.declared.Reason.{Reason}
use Rattle.refusals.specs.declared.Reason.TheVariants.{NoLine, NoFormula, WrongInstance}
use Rattle.refusals.specs.declared.Refusal.{Refusal as WhyNot}
use Rattle.refusals.specs.Numbers.{number_of}
use Rattle.meaning.specs.Ranges.{signatures}
use Rattle.frames.specs.Lines.{line_place}
use Rattle.frames.specs.Frames.{Frame, frames}
use Rattle.formulas.specs.declared.Equation.{Equation}
use Rattle.formulas.specs.Bodies.{blank, signatures_of, is_body, is_fitting}
use Rattle.reading.specs.declared.Reading.{Reading}
use Rattle.reading.specs.Equations.{ranges_in}
use Rattle.reading.specs.Models.{equations_in, model_of}
use Rattle.reading.specs.Reading.{Refusal, refused, text_refusal}
use Rattle.reading.specs.Records.{ReadingRecord, equation_record, kept, reading, model_told, told}
use Rattle.reading.proofs.Drafts.{EquationSound, Drafted, count_is}
use Rattle.reading.proofs.Finishing as finishing
use Rattle.reading.proofs.LineNumbers.{long_text_one}
use Rattle.reading.proofs.WellFormed.{text_passed, parameters, reading_drafted}
use Rattle.replacer.specs.Replaced.{equation_frame, replaced_text}
use Rattle.replacer.specs.Standing.{Standing}
use Rattle.replacer.proofs.Standing.{standing}
use Rattle.replacer.specs.Result.{Small}
use Rattle.replacer.proofs.Result.{bytes_there, line_there, head_there, place_there, size_there}
use Rattle.replacer.proofs.Result.{result_length, reaches}
use Rattle.replacer.specs.Judged.{side_refusal}
use Rattle.replacer.proofs.Judged.{result_judged}
use Rattle.replacer.specs.Contract.{side_judged}

-- ---- why a right side is refused, with the line that it is told with
abbrev located : Result (Unit {0}) Reason → ℕ → Refusal
located (Ok _) line = refused 0 0
located (Err reason) line = refused (number_of reason) line

tests_located : (b c d : Bool) (line : ℕ)
    → cond b (cond c (cond d (refused 0 0) (refused 7 line)) (refused 6 line)) (refused 3 line)
    ≡ located (cond b (cond c (cond d (Ok tt) (Err WrongInstance)) (Err NoFormula)) (Err NoLine)) line
tests_located true true true line = refl
tests_located true true false line = refl
tests_located true false d line = refl
tests_located false c d line = refl

-- a refusal of the old text is the one that is told
pub same_refusal : (t : List ℕ) (x : WhyNot) → told (Err x) ≡ reading t → refused (number_of x.reason) x.line ≡ text_refusal t
unfolding reading
same_refusal t x is = ap (λ (r : ReadingRecord). refused r.number r.line) is

-- ---- r is what was read of the text t
pub record ReadAs (t : List ℕ) (r : Reading) : Type 0 where
  pub is : told (Ok r) ≡ reading t

pub read_as : {t : List ℕ} {r : Reading} → told (Ok r) ≡ reading t → ReadAs t r
read_as is = record { is = is }

module _ {t : List ℕ} {r : Reading} (a : ReadAs t r) where
  pub read : (text_refusal t).number ≡ 0
  unfolding reading
  read = sym (ap (λ (x : ReadingRecord). x.number) a.is)

  drafted : Drafted (line_place t) (frames t).all (model_told r.model) r.bodies
  drafted =
      let all : kept t ≡ (frames t).all = rw (eq-eqb (text_refusal t).number 0 read) refl in
      let same : (fs : List Frame) → Drafted (line_place t) fs (reading t).model (reading t).bodies
      → Drafted (line_place t) fs (model_told r.model) r.bodies =
      λ fs d. subst (λ (x : ReadingRecord). Drafted (line_place t) fs x.model x.bodies) (sym a.is) d in
      same (frames t).all
      (subst (λ (fs : List Frame). Drafted (line_place t) fs (reading t).model (reading t).bodies) all (reading_drafted t))

  pub count_there : r.model.count ≡ length (equations_in (frames t).all)
  count_there = count_is drafted

  pub few : r.model.count ≤ 8
  few = finishing.few drafted

-- and equation e is there
pub record Named (t : List ℕ) (r : Reading) (e : ℕ) : Type 0 where
  pub reads : ReadAs t r
  pub within : e < r.model.count

pub named : {t : List ℕ} {r : Reading} {e : ℕ} → told (Ok r) ≡ reading t → e < r.model.count → Named t r e
named is within = record { reads = read_as is; within = within }

module _ {t : List ℕ} {r : Reading} {e : ℕ} (b : Named t r e) where
  abbrev a : ReadAs t r
  a = b.reads

  abbrev h : e < r.model.count
  h = b.within

  pub in_text : e < length (equations_in (frames t).all)
  in_text = rw (count_there a) at h

  pub there : Standing t e
  there = standing t e (read a) in_text

  abbrev pub equation : Equation
  equation = get_or r.model.equations e blank

  record_is : equation ≡ equation_record (line_place t (line_there there)) (bytes_there there)
  record_is =
      finishing.equation_there (drafted a) e h ∙
      ap (λ (g : Frame). equation_record (line_place t g.line) g.bytes) there.frame_is

  pub line_is : get_or r.model.lines e 0 ≡ line_there there
  line_is = finishing.line_there (drafted a) e h ∙ ap (λ (g : Frame). g.line) there.frame_is

  pub place_is : equation.place ≡ place_there there
  unfolding equation_record
  place_is = ap (λ (x : Equation). x.place) record_is

  pub size_is : equation.length ≡ size_there there
  unfolding equation_record
  size_is = ap (λ (x : Equation). x.length) record_is ∙ sym (length-drop (head_there there) (bytes_there there))

  -- the old right side's digits stand within the text
  pub digits_within : 2 * equation.length ≤ length t
  digits_within = omega (arith, size_is, reaches there)

  pub in_eight : e < 8
  in_eight = omega (arith, few a, h)

  pub few_parameters : equation.k ≤ 4
  unfolding equation_record
  few_parameters =
      let sound : EquationSound (equation_frame t e).bytes = (text_passed t (read a)).frames_kept.sound.each e in_text in
      let k = (parameters (subst (λ (g : Frame). EquationSound g.bytes) there.frame_is sound)).0 in
      omega (arith, k, ap (λ (x : Equation). x.k) record_is)

  -- ---- with the new right side
  module _ (side : List ℕ) (added : ℕ) (cut : added ≡ min (length side) 16385) where
    abbrev result : List ℕ
    result = replaced_text t e side

    abbrev pub size : ℕ
    size = length t - 2 * equation.length + 2 * added

    -- how long the resulting text is, where it is not too long
    pub exact : size ≤ 32768 → size ≡ length result
    exact short =
        omega (arith, cut, size_is, result_length there side, reaches there)

    -- a text that is too long
    pub long_told : 32768 < size → text_refusal result ≡ refused 1 0
    long_told long =
        long_text_one result (omega (arith, cut, size_is, result_length there side, reaches there))

    -- and one that is not: the right side is judged as by the frame
    judged_here : Result (Unit {0}) Reason
    judged_here =
        let ranges = ranges_in (bytes_there there) in
        cond (leb (head_there there + length side) 256)
        (cond (is_body side ranges)
        (cond (is_fitting (signatures (model_of (frames t).all)) side ranges) (Ok tt) (Err WrongInstance))
        (Err NoFormula))
        (Err NoLine)

    judged_same : side_judged side equation (signatures_of r.model.equations r.model.count) ≡ judged_here
    unfolding equation_record judged_here
    judged_same = rw (finishing.signatures_same (drafted a), record_is) refl

    refusal_located : size ≤ 32768 → side_refusal t e side ≡ located judged_here (line_there there)
    unfolding side_refusal judged_here
    refusal_located short =
        let ranges = ranges_in (bytes_there there) in
        rw (there.frame_is, le-leb (length result) 32768 (omega (arith, exact short)))
        (tests_located (leb (head_there there + length side) 256) (is_body side ranges)
        (is_fitting (signatures (model_of (frames t).all)) side ranges) (line_there there))

    pub judged_told : Small side → size ≤ 32768 → {j : Result (Unit {0}) Reason}
        → j ≡ side_judged side equation (signatures_of r.model.equations r.model.count)
        → text_refusal result ≡ located j (get_or r.model.lines e 0)
    judged_told small short {j} judged =
        result_judged (read a) there side small ∙ refusal_located short ∙
        rw (line_is, judged ∙ judged_same) refl
