-- The text of the model, where the model is within the limits, and none where it is not.
-- Eight lines of 513 characters leave room for the line of the start.
use Prim.Native.Nat.{ℕ, ◌+◌, ◌*◌, ◌≤◌, ◌<◌}
use native.Mathlib.Omega.{arith}
use mathlib.Core.Path.{◌≡◌, refl, sym, ap, ap₂, ◌∙◌}
use mathlib.Core.Bool.{Bool, true, false, ◌&&◌, and-false, and-eq-true_iff}
use mathlib.Core.List.{List, [], ◌∷◌, ◌++◌}
use Rattle.std.specs.Prelude.{Some, None}
use lib.Dec.{leb}
use lib.ListN.{length, length-append, replicate, length-replicate}
use lib.Seq.{sets, length-sets}
use borrow.Author.Tests.{le-leb, lt-leb}
use Rattle.meaning.specs.Logic.{cases}
use Rattle.meaning.specs.Models.{Model}
use Rattle.frames.specs.Frames.{line_of, text_of}
use Rattle.frames.specs.PutLine.{LinePut}
use Rattle.frames.proofs.Written.{line_length}
use Rattle.spelling.specs.Spelled.{equation_frame, start_frame}
use Rattle.translation.specs.Processes.{Process}
use Rattle.translation.specs.Modal.{Modal}
use Rattle.translation.specs.Translation.{translated, translated_start}
use Rattle.scans.specs.Summands.{Placed}
use Rattle.emitter.specs.Limits.{equation_fits, each_fits, within_limits, text_for}
use Rattle.emitter.specs.Built.{Given, EquationsPut, built, lines_for}
use Rattle.emitter.proofs.EquationLaws.{sets_parts}
use Rattle.emitter.proofs.LinesLaws.{frame_small, line_written, frames_of}
use Rattle.emitter.proofs.SheetHeads.{few_parameters, initial_count}

-- ---- how long the lines are
lines_short : (model : Model) → each_fits model ≡ true → length (lines_for model) ≤ 513 * length model
unfolding each_fits text_of
lines_short [] h = omega arith
lines_short (e ∷ es) h =
    let p = (and-eq-true_iff (equation_fits e) (each_fits es)).0 h in
    let small = frame_small e p.0 in
    let rest = lines_short es p.1 in
    omega (arith, length-append (line_of (equation_frame e)) (lines_for es), line_length (equation_frame e))

start_short : {process : Process} {f : Modal} {sheet : List ℕ} → Given process f sheet
    → length (line_of (start_frame (translated_start process))) ≤ 13
unfolding start_frame
start_short {process} g =
    omega (arith, line_length (start_frame (translated_start process)), few_parameters g, initial_count g)

-- ---- outside the limits
module _ (process : Process) (f : Modal) where
  abbrev few : Bool
  few = leb (length (translated process f)) 8

  none : within_limits (translated process f) ≡ false → None ≡ built process f
  unfolding built
  none e = rw e refl

  pub too_many : 8 < length (translated process f) → None ≡ built process f
  unfolding within_limits
  too_many h = none (ap (λ (b : Bool). b && each_fits (translated process f)) (lt-leb _ 8 h))

  not_all_fit : each_fits (translated process f) ≡ false → None ≡ built process f
  unfolding within_limits
  not_all_fit h = none (ap (λ (b : Bool). few && b) h ∙ and-false few)

-- ---- the lines are put, and the start behind them
module _ {sheet places : List ℕ} {count : ℕ} (few : count ≤ 8) {process : Process} {f : Modal}
    (g : Given process f sheet) (placed : Placed process places) (counted : length (translated process f) ≡ count) where
  abbrev model : Model
  model = translated process f

  abbrev lines : List ℕ
  lines = lines_for model

  pub one_too_large : {text : List ℕ} → EquationsPut sheet places count text None → None ≡ built process f
  one_too_large put =
      let told = put.told process f g placed counted in
      cases (each_fits model) (λ e. absurd (let large = (told.0 e).0 in cc)) (not_all_fit process f)

  pub whole_text : {text : List ℕ} {at : ℕ} {left : List ℕ} {r : ℕ} → EquationsPut sheet places count text (Some at)
      → LinePut text at (start_frame (translated_start process)) r left
      → Some (record { length = r; text = left }) ≡ built process f
  unfolding built within_limits
  whole_text {text} {at} {left} {r} put line =
      let told = put.told process f g placed counted in
      let all_fit : each_fits model ≡ true =
      cases (each_fits model) (λ e. e) (λ e. absurd (let none = told.1 e in cc)) in
      let within : within_limits model ≡ true = ap₂ ◌&&◌ (le-leb (length model) 8 (omega arith)) all_fit in
      let is_put = told.0 all_fit in
      let place : at ≡ length lines = let is = is_put.0 in cc in
      let written = is_put.1 in
      let start = line_of (start_frame (translated_start process)) in
      let all : text_for process f ≡ lines ++ start = frames_of model (translated_start process) in
      let room : at + length start ≤ length text =
      omega (
        arith,
        start_short g,
        lines_short model all_fit,
        ap length written,
        length-sets (replicate 4117 0) 0 lines,
        length-replicate {A = ℕ} 4117 0,
      ) in
      let w = line_written line room in
      let long : r ≡ length (text_for process f) =
      w.0 ∙ omega (arith, ap length all, length-append lines start) in
      let same : left ≡ sets (replicate 4117 0) 0 (text_for process f) =
      w.1 ∙ ap₂ (λ (t : List ℕ) (n : ℕ). sets t n start) written place ∙
      sym (sets_parts (replicate 4117 0) lines start) ∙ ap (sets (replicate 4117 0) 0) (sym all) in
      rw (within, long, same) refl
