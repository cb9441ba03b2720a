-- What the first and the last frame of a sheet say: the parameters, their ranges, the initial values; the formula.
-- They stand there one behind the other, and the formula's first code says whether it begins with a fixed point.
use Prim.Native.Nat.{ℕ, ◌+◌, ◌≤◌}
use mathlib.Core.Path.{◌≡◌, refl, sym, subst, ap, ap₂, ◌∙◌}
use mathlib.Core.Bool.{Bool}
use mathlib.Core.List.{List, [], ◌∷◌, ◌++◌}
use lib.ListN.{length, get_or}
use Rattle.meaning.proofs.Typed.{within_length}
use Rattle.formulas.specs.Contract.{part}
use Rattle.spelling.specs.Stands.{Stands, first, after_one, left_part, right_part}
use Rattle.translation.specs.Processes.{Process}
use Rattle.translation.specs.Modal.{Modal}
use Rattle.translation.specs.RuleLaws.{input_process, parameter_count, initial_within}
use Rattle.translation.specs.Translation.{begins_with_fixed_point}
use Rattle.inputs.specs.InputFrames.{process_frame, formula_frame, spelled_modal}
use Rattle.scans.specs.Formulas.{is_fixed}
use Rattle.scans.proofs.ScannedFormulas.{modal_opened, code_told}
use Rattle.sides.proofs.Spots.{first_code}
use Rattle.emitter.specs.Built.{Given}

-- bytes that stand at a place are read one after the other from there
pub part_stands : (s : List ℕ) (at : ℕ) (w : List ℕ) → Stands s at w → part s at (length w) ≡ w
unfolding part
part_stands s at [] h = refl
part_stands s at (b ∷ w) h = ap₂ ◌∷◌ (first s at b w h) (part_stands s (at + 1) w (after_one s at b w h))

-- the first code of a formula says whether it begins with a fixed point
fixed_or_not : (s : List ℕ) (at : ℕ) (f : Modal) → Stands s at (spelled_modal f)
    → is_fixed (get_or s at 0) ≡ begins_with_fixed_point f
fixed_or_not s at f h =
    ap is_fixed (first_code s at f h) ∙ (code_told f s at _ (subst (Stands s at) (modal_opened f) h)).1

module _ {process : Process} {f : Modal} {sheet : List ℕ} (g : Given process f sheet) where
  begins : Stands sheet 0 (0x09 ∷ length process.ranges ∷ (process.ranges ++ process.initial))
  unfolding process_frame
  begins = g.sheet_is.first

  values : Stands sheet 2 (process.ranges ++ process.initial)
  values = after_one sheet 1 _ _ (after_one sheet 0 _ _ begins)

  pub parameters : get_or sheet 1 0 ≡ length process.ranges
  parameters = first sheet 1 _ _ (after_one sheet 0 _ _ begins)

  pub few_parameters : length process.ranges ≤ 4
  few_parameters = parameter_count process (input_process process f g.formed)

  pub ranges_read : part sheet 2 (length process.ranges) ≡ process.ranges
  ranges_read = part_stands sheet 2 process.ranges (left_part sheet 2 process.ranges process.initial values)

  pub initial_count : length process.initial ≡ length process.ranges
  initial_count =
      within_length process.initial process.ranges (initial_within process (input_process process f g.formed))

  pub initial_read : part sheet (2 + length process.ranges) (length process.ranges) ≡ process.initial
  initial_read =
      let at = 2 + length process.ranges in
      ap (part sheet at) (sym initial_count) ∙
      part_stands sheet at process.initial (right_part sheet 2 process.ranges process.initial values)

  pub formula_stands : Stands sheet 4353 (spelled_modal f)
  unfolding formula_frame
  formula_stands = after_one sheet 4352 _ _ g.sheet_is.last

  pub begins_fixed : {code : ℕ} → code ≡ get_or sheet 4353 0 → {t : Bool} → t ≡ is_fixed code
      → begins_with_fixed_point f ≡ t
  begins_fixed e i = sym (fixed_or_not sheet 4353 f formula_stands) ∙ ap is_fixed (sym e) ∙ sym i
