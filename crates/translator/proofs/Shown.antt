-- What the command `translate` prints: the text of the model, or the line of the refusal.
-- The longest text of a model has room, so a buffer of that length is never refused as too short.
use Prim.Native.Nat.{ℕ, ◌≤◌}
use native.Mathlib.Omega.{arith}
use mathlib.Core.Path.{◌≡◌, refl}
use mathlib.Core.Bool.{Bool, true, false, cond}
use mathlib.Core.List.{List}
use lib.Dec.{eqb, leb}
use lib.ListN.{length}
use borrow.Author.Tests.{eqb-true, le-leb}
use Rattle.reading.specs.Reading.{refused}
use Rattle.inputs.specs.Inputs.{input_refusal}
use Rattle.emitter.specs.Limits.{within_limits}
use Rattle.writing.specs.declared.Writing.{Writing}
use Rattle.writing.specs.Printed.{Shows}
use Rattle.writing.proofs.Shown.{printed_short, prints}
use Rattle.translator.specs.Answers.{model_for, translated_text, translation_refusal, Translates}
use Rattle.translator.specs.Printed.{longest_text, printed_translation, PrintsTranslation}
use Rattle.translator.specs.Theorems.{translated_text_short, written_short}

-- ---- a buffer that has room for every text answers as any other such buffer
module _ (t : List ℕ) (room : ℕ) (h : longest_text ≤ room) where
  by_limits : (input_refusal t).number ≡ 0 → (b : Bool) → within_limits (model_for t) ≡ b
      → cond b (cond (leb (length (translated_text t)) room) (refused 0 0) (refused 10 0)) (refused 15 0)
      ≡ cond b (cond (leb (length (translated_text t)) longest_text) (refused 0 0) (refused 10 0)) (refused 15 0)
  by_limits read true e =
      let short = translated_text_short t read e in
      rw (le-leb (length (translated_text t)) room (omega arith), le-leb (length (translated_text t)) 4117 short) refl
  by_limits read false e = refl

  same_refusal : translation_refusal t room ≡ translation_refusal t longest_text
  unfolding translation_refusal
  same_refusal = by_input (eqb (input_refusal t).number 0) refl
    where
      by_input : (b : Bool) → eqb (input_refusal t).number 0 ≡ b
          → cond b (cond (within_limits (model_for t)) (cond (leb (length (translated_text t)) room) (refused 0 0)
          (refused 10 0)) (refused 15 0)) (input_refusal t)
          ≡ cond b (cond (within_limits (model_for t)) (cond (leb (length (translated_text t)) longest_text)
          (refused 0 0) (refused 10 0)) (refused 15 0)) (input_refusal t)
      by_input true e = by_limits (eqb-true _ 0 e) (within_limits (model_for t)) refl
      by_input false e = refl

-- ---- what is printed: a reply that is shown, and it is short
pub printed_translation_short : (t : List ℕ) → length (printed_translation t) ≤ longest_text
printed_translation_short t =
    printed_short (translation_refusal t longest_text) (translated_text t) (omega arith) (written_short t longest_text)

pub translation_shown : (t : List ℕ) {out left left' : List ℕ} {w : Writing} {n : ℕ} → Translates t out w left
    → Shows w left n left' → longest_text ≤ length out → PrintsTranslation t out n left'
translation_shown t {out} p s room = prints p s (same_refusal t (length out) room) room (printed_translation_short t)
