-- THEOREMS: the case of its letters changes neither what a text is refused for nor what reading hands on.
-- Both are told by the frames of the text and by the places of its lines, which are the same.
use Rattle.std.specs.Prelude.{ℕ, ◌≡◌, List}
use Rattle.std.proofs.Math.Path.{refl, fun_ext}
use Rattle.std.proofs.Common.{ap}
use Rattle.digits.specs.Digits.{in_small_letters}
use Rattle.frames.specs.Lines.{line_place}
use Rattle.frames.specs.Frames.{Frame}
use Rattle.frames.proofs.Letters.{frames_in_small, place_in_small}
use Rattle.reading.specs.Models.{equations_in, starts_in}
use Rattle.reading.specs.Reading.{text_refusal}
use Rattle.reading.specs.Records.{model_record, kept, reading}

module _ (t : List ℕ) where
  pub refusal_in_small : text_refusal (in_small_letters t) ≡ text_refusal t
  unfolding text_refusal
  refusal_in_small = rw (frames_in_small t) refl

  -- the records of the same frames, at the same places
  places_same : (es ss : List Frame)
      → model_record (line_place (in_small_letters t)) es ss ≡ model_record (line_place t) es ss
  places_same es ss = ap (λ (place : ℕ → ℕ). model_record place es ss) (fun_ext (place_in_small t))

  pub reading_in_small : reading (in_small_letters t) ≡ reading t
  unfolding reading
  reading_in_small =
      rw (refusal_in_small, frames_in_small t, places_same (equations_in (kept t)) (starts_in (kept t))) refl
