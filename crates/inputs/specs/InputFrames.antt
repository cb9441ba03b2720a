-- The bytes of a process and a formula: the frames as they stand in a text, notes left out. Request 2026-10.
-- What was read, written: the codes and the operands in their order.
use Rattle.std.specs.Prelude.{ℕ, List, [], ◌∷◌, ◌++◌, map, length}
use Rattle.spelling.specs.Spelled.{either_code, spelled, spelled_terms}
use Rattle.translation.specs.Processes.{Summand, Process}
use Rattle.translation.specs.Modal.{Actions, any_action, only, other_than}
use Rattle.translation.specs.Modal.{Modal, truth, combined, after, fixed_point, of_fixed_point}

-- "A is `11` any, `36 a` action a or `35 a` any other"
unfoldable pub spelled_actions : Actions → List ℕ
spelled_actions any_action = 0x11 ∷ []
spelled_actions (only a) = 0x36 ∷ a ∷ []
spelled_actions (other_than a) = 0x35 ∷ a ∷ []

unfoldable pub spelled_modal : Modal → List ℕ
spelled_modal (truth b) = either_code b 0x11 0x10 ∷ []
spelled_modal (combined all f g) = either_code all 0x12 0x13 ∷ (spelled_modal f ++ spelled_modal g)
spelled_modal (after all A f) = either_code all 0x30 0x31 ∷ (spelled_actions A ++ spelled_modal f)
spelled_modal (fixed_point greatest f) = either_code greatest 0x33 0x32 ∷ spelled_modal f
spelled_modal (of_fixed_point n) = 0x34 ∷ n ∷ []

-- `09`: "parameter count 0 to 4, ranges, initial values"
unfoldable pub process_frame : Process → List ℕ
process_frame process = 0x09 ∷ length process.ranges ∷ (process.ranges ++ process.initial)

-- `07`: "count of own variables .., their ranges, condition .., action .., a next-state term per parameter"
unfoldable pub summand_frame : Summand → List ℕ
summand_frame s =
    0x07 ∷ length s.own ∷ (s.own ++ (spelled s.condition ++ (s.action ∷ spelled_terms s.next)))

unfoldable pub formula_frame : Modal → List ℕ
formula_frame f = 0x08 ∷ spelled_modal f

unfoldable pub input_frames : Process → Modal → List (List ℕ)
input_frames process f =
    process_frame process ∷ (map summand_frame process.summands ++ (formula_frame f ∷ []))
