-- THEOREMS: the case of its letters changes nothing of how a text is translated; and what is written is in
-- small letters. All of it is told by the frames of the text, which are the same.
use Rattle.std.specs.Prelude.{ℕ, ◌≡◌, List, []}
use Rattle.std.proofs.Math.Path.{refl}
use Rattle.std.proofs.Common.{ap}
use Rattle.digits.specs.Digits.{in_small_letters}
use Rattle.frames.specs.Frames.{Frames}
use Rattle.frames.proofs.Letters.{frames_in_small, text_small}
use Rattle.spelling.specs.Spelled.{model_frames}
use Rattle.translation.specs.Translation.{translated, translated_start}
use Rattle.inputs.specs.Inputs.{process_in, formula_in, judged, content_of, input_refusal, process_of}
use Rattle.emitter.specs.Limits.{text_for}
use Rattle.translator.specs.Answers.{model_for, translated_text, translation_refusal}

module _ (t : List ℕ) where
  content_in_small : content_of (in_small_letters t) ≡ content_of t
  content_in_small = ap (λ (fs : Frames). (judged [] fs.all fs.line).content) (frames_in_small t)

  input_in_small : input_refusal (in_small_letters t) ≡ input_refusal t
  unfolding input_refusal
  input_in_small = rw (frames_in_small t) refl

  model_in_small : model_for (in_small_letters t) ≡ model_for t
  model_in_small =
      ap (λ (c : List (List ℕ)). translated (process_in c) (formula_in c)) content_in_small

  -- THEOREM: the same text is written
  pub translated_in_small : translated_text (in_small_letters t) ≡ translated_text t
  translated_in_small =
      ap (λ (c : List (List ℕ)). text_for (process_in c) (formula_in c)) content_in_small

  -- and the same is refused
  pub translation_in_small : (room : ℕ)
      → translation_refusal (in_small_letters t) room ≡ translation_refusal t room
  unfolding translation_refusal
  translation_in_small room = rw (input_in_small, translated_in_small, model_in_small) refl

  -- THEOREM: what is written is in small letters
  pub translated_small : in_small_letters (translated_text t) ≡ translated_text t
  translated_small = text_small (model_frames (model_for t) (translated_start (process_of t)))
