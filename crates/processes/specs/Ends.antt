-- What the contracts of the functions that read formulas say; no word of the documents is defined here.
-- A place is where something ends, where it could be read.
use Rattle.std.specs.Prelude.{ℕ, ◌+◌, ◌≤◌, ◌≡◌, Bool, true, not, cond, ◌&&◌, List, [], eqb, leb, ltb, length}
use Rattle.std.specs.Prelude.{get_or, Option, None, Some}
use Rattle.formulas.specs.Decode.{Parsed, none, some}
use Rattle.spelling.specs.Stands.{Stands}
use Rattle.translation.specs.Modal.{Modal}
use Rattle.translation.specs.Rules.{well_formed_formula}
use Rattle.inputs.specs.Modals.{modal_at}
use Rattle.inputs.specs.InputFrames.{spelled_modal}

-- where what was read ends
abbrev pub end_of : {A : Type 0} → Parsed A → Option ℕ
end_of none = None
end_of (some a e) = Some e

-- n is deep enough: as many as the bytes that are left
pub record ModalEnds (s : List ℕ) (at : ℕ) (r : Option ℕ) : Type 0 where
  pub ended : (n : ℕ) → length s ≤ n + at → r ≡ end_of (modal_at n s at)

-- what stands at a place is no box and no diamond, or one of any action, or its action is at most 15
unfoldable pub action_stands : List ℕ → ℕ → Bool
action_stands s at =
    cond ((leb 0x30 (get_or s at 0) && leb (get_or s at 0) 0x31) && not (eqb (get_or s (at + 1) 0) 0x11))
    (leb (get_or s (at + 2) 0) 15) true

-- it is no variable, or that of one of the first `count` fixed points, which ends later
unfoldable pub variable_stands : List ℕ → ℕ → List ℕ → ℕ → Bool
variable_stands s at ends count =
    cond (eqb (get_or s at 0) 0x34)
    (ltb (get_or s (at + 1) 0) count && ltb at (get_or ends (get_or s (at + 1) 0) 0)) true

-- of a frame that is one byte and the formula f
pub record WellFormedTold (s : List ℕ) (r : Bool) : Type 0 where
  pub told : (f : Modal) → Stands s 1 (spelled_modal f) → length s ≡ 1 + length (spelled_modal f)
      → r ≡ well_formed_formula [] 0 f
