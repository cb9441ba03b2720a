-- THEOREMS about a text that is translated: what is written is read as the model, and it holds exactly when
-- the start state satisfies the formula.
-- Each is a theorem of the crates below, for the process and the formula of an accepted text.
use Rattle.std.specs.Prelude.{ℕ, zero, suc, ◌≤◌, ◌≡◌, refl, Bool, true, false, cond, List, [], ◌∷◌, map, eqb}
use Rattle.std.specs.Prelude.{leb, length}
use Rattle.std.proofs.Common.{arith, sym, subst, ap, ◌∙◌, eqb-true, leb-true}
use Rattle.std.proofs.Math.Bool.{and-eq-true_iff}
use Rattle.std.proofs.lemmas.Bool.{eqb-false}
use Rattle.meaning.specs.Logic.{Is, is, eq→Is, and_i}
use Rattle.meaning.specs.Models.{Model, meaning}
use Rattle.meaning.specs.Ranges.{well_formed}
use Rattle.frames.specs.Frames.{frames}
use Rattle.reading.specs.Models.{model_of, start_in}
use Rattle.reading.specs.Reading.{refused, text_refusal}
use Rattle.spelling.specs.Spelled.{equation_frame, model_frames}
use Rattle.spelling.specs.ModelText.{AllShort}
use Rattle.spelling.proofs.ModelText.{model_frames_short, model_text_read, model_text_model}
use Rattle.spelling.proofs.ModelText.{model_text_start, model_text_short}
use Rattle.translation.specs.Modal.{satisfies}
use Rattle.translation.specs.Rules.{well_formed_input}
use Rattle.translation.specs.Translation.{translated_start, each_four_quantifiers}
use Rattle.translation.proofs.Correct.{translation_correct}
use Rattle.translation.proofs.Sound.{translation_well_formed}
use Rattle.inputs.specs.Inputs.{input_refusal, process_of, formula_of}
use Rattle.inputs.proofs.Content.{content_formed}
use Rattle.answers.specs.Answers.{answer}
use Rattle.answers.specs.Demand1.{◌exactly_when◌}
use Rattle.answers.proofs.Demand2.{holds_exactly}
use Rattle.emitter.specs.Limits.{equation_fits, each_fits, within_limits}
use Rattle.translator.specs.Answers.{model_for, translated_text, translation_refusal}

-- ---- what a model within the limits is
fits_four : (m : Model) → each_fits m ≡ true → Is (each_four_quantifiers m)
unfolding each_fits each_four_quantifiers
fits_four [] h = is
fits_four (e ∷ m) h =
    let all = (and-eq-true_iff (equation_fits e) (each_fits m)).0 h in
    let one = (and-eq-true_iff (leb (length (equation_frame e)) 256) _).0 all.0 in
    and_i (eq→Is one.1) (fits_four m all.1)

fits_short : (m : Model) → each_fits m ≡ true → AllShort (map equation_frame m)
unfolding each_fits
fits_short [] h i l = absurd (omega arith)
fits_short (e ∷ m) h zero l =
    let all = (and-eq-true_iff (equation_fits e) (each_fits m)).0 h in
    let one = (and-eq-true_iff (leb (length (equation_frame e)) 256) _).0 all.0 in
    leb-true (length (equation_frame e)) 256 one.0
fits_short (e ∷ m) h (suc i) l =
    fits_short m ((and-eq-true_iff (equation_fits e) (each_fits m)).0 h).1 i (omega arith)

-- ---- what is known where no refusal is given
record Accepted (t : List ℕ) (room : ℕ) : Type 0 where
  input : (input_refusal t).number ≡ 0
  limits : within_limits (model_for t) ≡ true
  fitting : length (translated_text t) ≤ room

by_room : (t : List ℕ) (room : ℕ) (b : Bool) → leb (length (translated_text t)) room ≡ b
    → (cond b (refused 0 0) (refused 10 0)).number ≡ 0 → length (translated_text t) ≤ room
by_room t room true e z = leb-true _ room e
by_room t room false e z = absurd (omega arith)

by_limits : (t : List ℕ) (room : ℕ) (b : Bool) → within_limits (model_for t) ≡ b
    → (cond b (cond (leb (length (translated_text t)) room) (refused 0 0) (refused 10 0)) (refused 15 0)
    ).number ≡ 0
    → (within_limits (model_for t) ≡ true) × (length (translated_text t) ≤ room)
by_limits t room true e z = (e, by_room t room (leb (length (translated_text t)) room) refl z)
by_limits t room false e z = absurd (omega arith)

by_input : (t : List ℕ) (room : ℕ) (b : Bool) → eqb (input_refusal t).number 0 ≡ b
    → (cond b (cond (within_limits (model_for t))
    (cond (leb (length (translated_text t)) room) (refused 0 0) (refused 10 0)) (refused 15 0))
    (input_refusal t)).number ≡ 0 → Accepted t room
by_input t room true e z =
    let rest = by_limits t room (within_limits (model_for t)) refl z in
    record { input = eqb-true _ 0 e; limits = rest.0; fitting = rest.1 }
by_input t room false e z = absurd (eqb-false _ 0 e z)

accepted : (t : List ℕ) (room : ℕ) → (translation_refusal t room).number ≡ 0 → Accepted t room
unfolding translation_refusal
accepted t room z = by_input t room (eqb (input_refusal t).number 0) refl z

-- ---- a text that is read, whose model is within the limits
module _ (t : List ℕ) (read : (input_refusal t).number ≡ 0) (within : within_limits (model_for t) ≡ true)
  where
    keeps_rules : Is (well_formed_input (process_of t) (formula_of t))
    keeps_rules = content_formed t read

    limits : (length (model_for t) ≤ 8) × (each_fits (model_for t) ≡ true)
    unfolding within_limits
    limits =
        let both = (and-eq-true_iff (leb (length (model_for t)) 8) (each_fits (model_for t))).0 within in
        (leb-true _ 8 both.0, both.1)

    well : Is (well_formed (model_for t) (translated_start (process_of t)))
    well =
        translation_well_formed (process_of t) (formula_of t) keeps_rules limits.0
        (fits_four (model_for t) limits.1)

    short : AllShort (model_frames (model_for t) (translated_start (process_of t)))
    short =
        model_frames_short (model_for t) (translated_start (process_of t)) well
        (fits_short (model_for t) limits.1)

    -- no text of a model is longer
    pub translated_text_short : length (translated_text t) ≤ 4117
    translated_text_short = model_text_short (model_for t) (translated_start (process_of t)) well short

-- ---- a text for which no refusal is given, whatever the buffer's length
module _ (t : List ℕ) (room : ℕ) (z : (translation_refusal t room).number ≡ 0) where
  is_well : Is (well_formed (model_for t) (translated_start (process_of t)))
  is_well = well t (accepted t room z).input (accepted t room z).limits

  is_short : AllShort (model_frames (model_for t) (translated_start (process_of t)))
  is_short = short t (accepted t room z).input (accepted t room z).limits

  pub written_short : length (translated_text t) ≤ 4117
  written_short = translated_text_short t (accepted t room z).input (accepted t room z).limits

  -- THEOREM: the text written is read, never refused, as exactly the translated model with the start of the
  -- process
  pub translated_text_read : text_refusal (translated_text t) ≡ refused 0 0
  translated_text_read = model_text_read (model_for t) (translated_start (process_of t)) is_well is_short

  pub translated_text_model : model_of (frames (translated_text t)).all ≡ model_for t
  translated_text_model = model_text_model (model_for t) (translated_start (process_of t)) is_well is_short

  pub translated_text_start : start_in (frames (translated_text t)).all ≡ translated_start (process_of t)
  translated_text_start = model_text_start (model_for t) (translated_start (process_of t)) is_well is_short

  -- THEOREM: "The start state satisfies the formula .. exactly when the model holds"
  pub translated_text_holds : satisfies (process_of t) (formula_of t)
      ≡ meaning (model_for t) 0 (process_of t).initial
  translated_text_holds =
      translation_correct (process_of t) (formula_of t) (content_formed t (accepted t room z).input)

  -- THEOREM: where checking the text written gives a verdict, it is that
  pub translated_text_verdict : (words : ℕ) → (answer (translated_text t) words).number ≡ 0
      → ((answer (translated_text t) words).verdict ≡ 1)
      exactly_when Is (satisfies (process_of t) (formula_of t))
  translated_text_verdict words given =
      let x = (process_of t).initial in
      let same = ap (λ (m : Model). meaning m 0 x) translated_text_model ∙ sym translated_text_holds in
      subst (λ (b : Bool). ((answer (translated_text t) words).verdict ≡ 1) exactly_when Is b) same
      (holds_exactly (translated_text t) words given 0 x translated_text_start)
