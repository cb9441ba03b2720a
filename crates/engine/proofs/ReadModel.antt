-- The records and prepared bodies of an accepted text hold the text's model, and it is well-formed; its start is the text's.
-- Equation by equation: a body has the bytes of its frame, so the same formula is read in it and stands in the prepared one.
use Prim.Native.Nat.{ℕ, zero, suc, ◌+◌, ◌-◌, ◌*◌, ◌≤◌, ◌<◌, min}
use native.Mathlib.Omega.{arith}
use mathlib.Core.Path.{◌≡◌, refl, sym, ap, ap₂, subst, ◌∙◌}
use mathlib.Core.List.{List, [], ◌∷◌, map}
use lib.ListN.{length, get_or, take, drop, drop_of_length-le, length-map}
use lib.Seq.{drop-cons}
use borrow.Author.Tests.{eq-eqb, lt-ltb}
use Rattle.meaning.specs.Logic.{Is, and_r, eq→Is}
use Rattle.meaning.specs.Models.{ModelEquation, Model}
use Rattle.meaning.specs.Ranges.{signatures, typed}
use Rattle.meaning.proofs.Typed.{within_length, well_formed_count}
use Rattle.meaning.proofs.WordLaws.{first_of_four}
use Rattle.frames.specs.Lines.{line_place}
use Rattle.frames.specs.Frames.{Frame, frames}
use Rattle.formulas.specs.declared.Equation.{Equation}
use Rattle.formulas.specs.Bodies.{formula_of, ranges_of}
use Rattle.formulas.proofs.Bodies.{signature_at}
use Rattle.formulas.proofs.Decoded.{body_short, body_whole}
use Rattle.reading.specs.Contract.{start_from}
use Rattle.reading.specs.Equations.{ranges_in, equation_of, start_of}
use Rattle.reading.specs.Equations as frame
use Rattle.reading.specs.Models.{equations_in, starts_in, first_of, model_of, start_in}
use Rattle.reading.specs.Reading.{text_refusal}
use Rattle.reading.specs.Records.{ModelRecord, equation_record, start_record, model_record, kept, reading}
use Rattle.reading.proofs.Drafts.{EquationSound, Drafted, no_frame, count_is}
use Rattle.reading.proofs.Finishing as held
use Rattle.reading.proofs.WellFormed.{text_passed, parameters, reading_well_formed, reading_drafted}
use Rattle.prepared.specs.Decoded.{equation_at, body_in}
use Rattle.preparing.specs.Promise.{Whole, Prepares}
use Rattle.instances.specs.Sides.{formula_in, is_greatest}
use Rattle.instances.proofs.Models.{Named}
use Rattle.instances.specs.Models.{equation_in, model_from, model_in, WellFormedModel}

module _ (t : List ℕ) (accepted : (text_refusal t).number ≡ 0) where
  abbrev m : ModelRecord
  m = (reading t).model

  abbrev bodies : List ℕ
  bodies = (reading t).bodies

  abbrev es : List Frame
  es = equations_in (frames t).all

  kept_all : kept t ≡ (frames t).all
  kept_all = rw (eq-eqb _ 0 accepted) refl

  drafted : Drafted (line_place t) (frames t).all m bodies
  drafted = subst (λ (fs : List Frame). Drafted (line_place t) fs m bodies) kept_all (reading_drafted t)

  few_equations : (e : ℕ) → e < m.count → e < 8
  unfolding model_of
  few_equations e h =
      let count = well_formed_count (model_of (frames t).all) (start_in (frames t).all) (reading_well_formed t accepted) in
      omega (arith, count, count_is drafted, length-map es (λ f. equation_of f.bytes))

  module _ (e : ℕ) (h : e < m.count) where
    abbrev f : List ℕ
    f = (get_or es e no_frame).bytes

    sound : EquationSound f
    sound = (text_passed t accepted).frames_kept.sound.each e (rw (count_is drafted) at h)

    body_is : body_in bodies m.equations e ≡ frame.body_in f
    unfolding body_in
    body_is =
        let same : e * 256 ≡ 256 * e = omega arith in
        ap (λ (n : ℕ). take (equation_at m.equations e).length (drop n bodies)) same ∙ held.body_there drafted e h

    record_is : equation_at m.equations e ≡ equation_record (line_place t (get_or es e no_frame).line) f
    record_is = held.equation_there drafted e h

    abbrev few_parameters : ℕ
    few_parameters = min (equation_at m.equations e).k 4

    parameters_are : few_parameters ≡ length (ranges_in f)
    unfolding equation_record
    parameters_are =
        let p = parameters sound in
        ap (λ (q : Equation). min q.k 4) record_is ∙ omega (arith, p.0, p.1)

    -- the body is one formula, that of the frame
    whole : Whole (body_in bodies m.equations e) few_parameters (formula_of (frame.body_in f) (ranges_in f))
    whole = rw (body_is, parameters_are) (record {
      few = omega (arith, parameters_are);
      short = body_short (frame.body_in f) (ranges_in f) sound.body;
      reads = body_whole (frame.body_in f) (ranges_in f) sound.body;
    })

    wide : length (ranges_of (equation_at m.equations e)) ≡ (equation_at m.equations e).k
    unfolding equation_record
    wide = rw record_is (parameters sound).1

  -- the records have the ranges of the text's equations
  pub text_named : Named (model_of (frames t).all) m.equations (start_in (frames t).all)
  unfolding model_of
  text_named = record {
    well = reading_well_formed t accepted;
    ranges = λ e h. ap (λ (l : List (List ℕ)). get_or l e []) (sym (held.signatures_same drafted))
        ∙ signature_at m.equations m.count e (inside e h);
    wide = λ e h. wide e (inside e h);
  }
    where
      inside : (e : ℕ) → e < length (model_of (frames t).all) → e < m.count
      inside e h = omega (arith, h, count_is drafted, length-map es (λ f. equation_of f.bytes))

  -- in prepared bodies
  module _ (prepared : List ℕ) (prepares : Prepares bodies m.equations prepared) where
    module _ (e : ℕ) (h : e < m.count) where
      formula_is : formula_in prepared m.equations e ≡ formula_of (frame.body_in (f e h)) (ranges_in (f e h))
      unfolding formula_in
      formula_is = rw (lt-ltb e 8 (few_equations e h)) (prepares e (few_equations e h) _ _ (whole e h))

      equation_is : equation_in prepared m.equations e ≡ equation_of (f e h)
      unfolding is_greatest equation_record
      equation_is = rw (formula_is, record_is e h) refl

    model_rest : (n e : ℕ) → e + n ≡ m.count
        → model_from prepared m.equations e n ≡ map (λ f. equation_of f.bytes) (drop e es)
    unfolding model_from
    model_rest zero e h = rw (drop_of_length-le es {i = e} (omega (arith, h, count_is drafted))) refl
    model_rest (suc n) e h =
        let l : e < m.count = omega arith in
        rw (drop-cons es e no_frame (omega (arith, count_is drafted)))
        (ap₂ (λ (q : ModelEquation) (qs : Model). q ∷ qs) (equation_is e l) (model_rest n (suc e) (omega arith)))

    pub model_is : model_in prepared m.equations m.count ≡ model_of (frames t).all
    unfolding model_of
    model_is = model_rest m.count 0 (omega arith)

    pub well_formed_model : WellFormedModel prepared m.equations m.count (start_in (frames t).all)
    well_formed_model = record { well = rw model_is (reading_well_formed t accepted); wide = wide }

  -- a start that is an instance of the model has at most four arguments, so all of them stand in its record
  start_whole : (sigs : List (List ℕ)) (line : ℕ) (s : List ℕ) → 2 ≤ length s → ((i : ℕ) → length (get_or sigs i []) ≤ 4)
      → Is (typed sigs (start_of s))
      → (start_record line s).equation ∷ take (start_record line s).count (start_record line s).arguments ≡ start_of s
  unfolding start_record typed
  start_whole sigs line [] l f i = absurd (omega arith)
  start_whole sigs line (c ∷ []) l f i = absurd (omega arith)
  start_whole sigs line (c ∷ e ∷ x) l f i =
      let n : suc (suc (length x)) - 2 ≡ length x = omega arith in
      let few : length x ≤ 4 = omega (arith, within_length x (get_or sigs e []) (and_r _ _ i), f e) in
      rw n (ap (λ (y : List ℕ). e ∷ y) (first_of_four x few))

  pub start_is : start_from m ≡ start_in (frames t).all
  unfolding model_record model_of
  start_is =
      let p = text_passed t accepted in
      ap start_from drafted.model ∙
      start_whole (signatures (model_of (frames t).all)) (first_of (starts_in (frames t).all)).line
      (first_of (starts_in (frames t).all)).bytes
      (p.frames_kept.begun p.started) (held.signatures_short es) (eq→Is p.starts)
