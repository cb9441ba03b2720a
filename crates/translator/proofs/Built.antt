-- What is known of the text of the model, where the input was not refused.
-- The sheet is that of the input's process and formula, so the text built is theirs.
use Prim.Native.Nat.{ℕ, ◌≤◌}
use native.Mathlib.Omega.{arith}
use mathlib.Core.Path.{◌≡◌, refl, sym, ap, ◌∙◌}
use mathlib.Core.Bool.{Bool, true, false, cond}
use mathlib.Core.List.{List}
use lib.ListN.{length, take, replicate, length-replicate}
use lib.Seq.{sets}
use borrow.Author.Tests.{eq-eqb}
use Rattle.std.specs.Prelude.{Ok, Option, Some, None}
use Rattle.inputs.specs.Inputs.{input_refusal, content_of, process_of, formula_of}
use Rattle.inputs.specs.Sheet.{sheet_of}
use Rattle.inputs.proofs.Content.{content_formed}
use Rattle.inputs.proofs.SheetLaws.{content_sheet}
use Rattle.processes.specs.Kept.{Input, input, told}
use Rattle.emitter.specs.declared.Built.{Built}
use Rattle.emitter.specs.Limits.{within_limits}
use Rattle.emitter.specs.Built.{built, ModelTold}
use Rattle.emitter.proofs.EquationLaws.{first_bytes}
use Rattle.translator.specs.Answers.{model_for, translated_text}
use Rattle.translator.specs.Theorems.{translated_text_short}

-- the text was not refused
pub read : (t sheet : List ℕ) → told (Ok sheet) ≡ input t → (input_refusal t).number ≡ 0
unfolding input
read t sheet is = sym (ap (λ (x : Input). x.number) is)

-- so what is built of the sheet is built of the text's process and formula
built_of : (t sheet : List ℕ) {r : Option Built} → told (Ok sheet) ≡ input t → ModelTold sheet r
    → r ≡ built (process_of t) (formula_of t)
unfolding input
built_of t sheet is model =
    let laid : (input t).frames ≡ sheet_of (content_of t) = rw (eq-eqb (input_refusal t).number 0 (read t sheet is)) refl in
    let frames : sheet ≡ sheet_of (content_of t) = ap (λ (x : Input). x.frames) is ∙ laid in
    model.told (process_of t) (formula_of t) (record {
      sheet_is = rw frames (content_sheet t (read t sheet is));
      formed = content_formed t (read t sheet is);
    })

-- ---- none is built, or the text of a model within the limits
none_built : (c : Bool) (x : Built) → None ≡ cond c (Some x) None → c ≡ false
none_built true x e = absurd (cc)
none_built false x e = refl

some_built : (c : Bool) (b x : Built) → Some b ≡ cond c (Some x) None → (c ≡ true) × (b ≡ x)
some_built true b x e = (refl, cc)
some_built false b x e = absurd (cc)

abbrev whole_text : List ℕ → Built
whole_text t =
    record { length = length (translated_text t); text = sets (replicate 4117 0) 0 (translated_text t) }

-- what is built of the text t, where it is read
pub record Whole (t : List ℕ) (b : Built) : Type 0 where
  pub read : (input_refusal t).number ≡ 0
  pub within : within_limits (model_for t) ≡ true
  pub text : b ≡ whole_text t

module _ (t sheet : List ℕ) {r : Option Built} (is : told (Ok sheet) ≡ input t) (model : ModelTold sheet r) where
  pub too_large : r ≡ None → within_limits (model_for t) ≡ false
  unfolding built
  too_large none = none_built (within_limits (model_for t)) (whole_text t) (sym none ∙ built_of t sheet is model)

  pub whole : {b : Built} → r ≡ Some b → Whole t b
  unfolding built
  whole {b} some =
      let both = some_built (within_limits (model_for t)) b (whole_text t) (sym some ∙ built_of t sheet is model) in
      record { read = read t sheet is; within = both.0; text = both.1 }

module _ {t : List ℕ} {b : Built} (w : Whole t b) where
  pub size : b.length ≡ length (translated_text t)
  size = ap (λ (x : Built). x.length) w.text

  pub room : b.length ≤ 4117
  room = omega (arith, size, translated_text_short t w.read w.within)

  short : length (translated_text t) ≤ length (replicate {A = ℕ} 4117 0)
  short = omega (arith, size, room, length-replicate {A = ℕ} 4117 0)

  pub first : take b.length b.text ≡ translated_text t
  first =
      ap (λ (n : ℕ). take n b.text) size ∙
      ap (λ (x : Built). take (length (translated_text t)) x.text) w.text ∙
      first_bytes (replicate 4117 0) (translated_text t) short
