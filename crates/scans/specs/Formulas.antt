-- What is promised of the formula on a sheet: where a formula ends, how many fixed points are in it, and
-- where each stands.
-- Places are counted from the formula's own first byte, which stands at 4352.
use Rattle.std.specs.Prelude.{ℕ, ◌+◌, ◌≤◌, ◌<◌, ◌≡◌, Bool, true, cond, List, eqb, length, get_or}
use Rattle.std.specs.Prelude.{Option, Some, None, unwrap_or}
use Rattle.spelling.specs.Stands.{Stands}
use Rattle.translation.specs.Modal.{Modal, fixed_points, fixed_point}
use Rattle.inputs.specs.InputFrames.{spelled_modal}
use Rattle.scans.specs.declared.Skipped.{Skipped}
use Rattle.scans.specs.FixedPoints.{fixed_in, no_fixed}

-- `32` and `33`
unfoldable pub is_fixed : ℕ → Bool
is_fixed code = cond (eqb code 0x32) true (eqb code 0x33)

-- how many formulas follow a code
unfoldable pub parts_of : ℕ → ℕ
parts_of code =
    cond (eqb code 0x12) 2 (cond (eqb code 0x13) 2
    (cond (eqb code 0x30) 1 (cond (eqb code 0x31) 1 (cond (eqb code 0x32) 1 (cond (eqb code 0x33) 1 0)))))

-- how many bytes a code takes with its operands; `first` and `behind` are the byte behind it. None where it
-- is no code, or begins no actions
unfoldable pub after_width : ℕ → Option ℕ
after_width first =
    cond (eqb first 0x11) (Some 2) (cond (eqb first 0x35) (Some 3) (cond (eqb first 0x36) (Some 3) None))

unfoldable pub code_width : ℕ → ℕ → Option ℕ
code_width code behind =
    cond (eqb code 0x10) (Some 1)
    (cond (eqb code 0x11) (Some 1)
    (cond (eqb code 0x12) (Some 1)
    (cond (eqb code 0x13) (Some 1)
    (cond (eqb code 0x30) (after_width behind)
    (cond (eqb code 0x31) (after_width behind)
    (cond (eqb code 0x32) (Some 1)
    (cond (eqb code 0x33) (Some 1)
    (cond (eqb code 0x34) (Some 2) None))))))))

-- that of the code at a place; where there is none, 3 behind a box or a diamond, else 1
unfoldable pub width_at : List ℕ → ℕ → ℕ
width_at sheet at =
    unwrap_or (code_width (get_or sheet (4352 + at) 0) (get_or sheet (4353 + at) 0))
    (cond (eqb (get_or sheet (4352 + at) 0) 0x30) 3 (cond (eqb (get_or sheet (4352 + at) 0) 0x31) 3 1))

-- what `skip` promises: of any sheet that its reply is small, and of a formula that stands there its end and
-- how many fixed points are in it
pub record Skips (sheet : List ℕ) (at : ℕ) (r : Skipped) : Type 0 where
  pub near : (at ≤ r.next) × (r.next ≤ 258)
  pub few : r.count ≤ 256
  pub skipped : (f : Modal) → length sheet ≡ 4608 → Stands sheet (4352 + at) (spelled_modal f)
      → (r.next ≡ at + length (spelled_modal f)) × (r.count ≡ fixed_points f)

-- fixed point `number` of the whole formula f, whose first code stands behind the byte `08`
pub record Finds (sheet : List ℕ) (number r : ℕ) : Type 0 where
  pub near : r ≤ 256
  pub found : (f : Modal) → length sheet ≡ 4608 → Stands sheet 4353 (spelled_modal f)
      → number < fixed_points f → Stands sheet (4352 + r) (spelled_modal
      (fixed_point (get_or (fixed_in f) number no_fixed).greatest
      (get_or (fixed_in f) number no_fixed).inner))
