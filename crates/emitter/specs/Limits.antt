-- DEFINITIONS: when the model of a process and a formula is too large, and its text. Request 2026-10.
-- "15, line 0, exactly when the model has more than eight equations, a frame over 256 bytes or a fifth
-- quantifier around a place".
use Rattle.std.specs.Prelude.{ℕ, Bool, true, ◌&&◌, List, [], ◌∷◌, leb, length}
use Rattle.meaning.specs.Models.{ModelEquation, Model}
use Rattle.spelling.specs.Spelled.{equation_frame}
use Rattle.spelling.specs.ModelText.{model_text}
use Rattle.translation.specs.Processes.{Process}
use Rattle.translation.specs.Modal.{Modal}
use Rattle.translation.specs.Translation.{translated, translated_start, four_quantifiers}

-- an equation with no "frame over 256 bytes" and no "fifth quantifier around a place"
abbrev pub equation_fits : ModelEquation → Bool
equation_fits e = leb (length (equation_frame e)) 256 && four_quantifiers 0 e.body

unfoldable pub each_fits : Model → Bool
each_fits [] = true
each_fits (e ∷ es) = equation_fits e && each_fits es

-- not "more than eight equations", and each fits
unfoldable pub within_limits : Model → Bool
within_limits model = leb (length model) 8 && each_fits model

-- the text of the model: a line for each equation, then the start, in small letters; no notes
abbrev pub text_for : Process → Modal → List ℕ
text_for process f = model_text (translated process f) (translated_start process)
