-- DEFINITIONS: what translating a text answers, and what it leaves in the lent buffer. Request 2026-10.
-- "Refusals: 1, then 2 and 3 ..; then 14 ..; then 15, line 0 ..; then 10, line 0, exactly when the buffer is
-- shorter than its text; nothing is written on any."
use Rattle.std.specs.Prelude.{ℕ, ◌≡◌, cond, List, eqb, leb, length}
use Rattle.meaning.specs.Models.{Model}
use Rattle.reading.specs.Reading.{Refusal, refused}
use Rattle.translation.specs.Translation.{translated}
use Rattle.inputs.specs.Inputs.{input_refusal, process_of, formula_of}
use Rattle.emitter.specs.Limits.{within_limits, text_for}
use Rattle.writing.specs.declared.Writing.{Writing}
use Rattle.writing.specs.Writing.{Writes}
use Rattle.writing.specs.OneReply.{one_writes}

-- the model of the process and the formula of a text, and its text
abbrev pub model_for : List ℕ → Model
model_for t = translated (process_of t) (formula_of t)

abbrev pub translated_text : List ℕ → List ℕ
translated_text t = text_for (process_of t) (formula_of t)

-- `room` is how long the buffer is
unfoldable pub translation_refusal : List ℕ → ℕ → Refusal
translation_refusal t room =
    cond (eqb (input_refusal t).number 0)
    (cond (within_limits (model_for t))
    (cond (leb (length (translated_text t)) room)
    (refused 0 0)
    (refused 10 0))
    (refused 15 0))
    (input_refusal t)

-- ---- what `translate` promises of its reply w and of the buffer, `out` before and `left` after
abbrev pub Translates : List ℕ → List ℕ → Writing → List ℕ → Type 0
Translates t out w left = Writes (translation_refusal t (length out)) (translated_text t) out w left

-- one reply for each input
pub one_translation : (t out : List ℕ) {v w : Writing} {xs ys : List ℕ}
    → Translates t out v xs → Translates t out w ys → (v ≡ w) × (xs ≡ ys)
one_translation t out = one_writes
