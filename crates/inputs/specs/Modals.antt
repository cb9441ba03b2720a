-- DEFINITIONS: from the bytes of an `08` to its formula: what stands at a place, and where it ends. Request
-- 2026-10.
-- A byte past the end reads 0, which is no code; an operand that stands there ends past the end.
use Rattle.std.specs.Prelude.{ℕ, zero, suc, ◌+◌, true, false, cond, List, get_or, eqb}
use Rattle.formulas.specs.Decode.{Parsed, none, some, then, when}
use Rattle.translation.specs.Modal.{Actions, any_action, only, other_than}
use Rattle.translation.specs.Modal.{Modal, truth, combined, after, fixed_point, of_fixed_point}

-- "A is `11` any, `36 a` action a or `35 a` any other"
unfoldable pub actions_at : List ℕ → ℕ → Parsed Actions
actions_at s at =
    cond (eqb (get_or s at 0) 0x11) (some any_action (at + 1))
    (cond (eqb (get_or s at 0) 0x36) (some (only (get_or s (at + 1) 0)) (at + 2))
    (when (eqb (get_or s at 0) 0x35) (some (other_than (get_or s (at + 1) 0)) (at + 2))))

-- "An `08` is a formula of codes 10 to 13 and `30 A f` box, `31 A f` diamond, `32 f` least, `33 f` greatest
-- fixed point, `34 n` the variable of fixed point n"; `sub` reads the formulas inside
unfoldable pub modal_of_code : (ℕ → Parsed Modal) → ℕ → List ℕ → ℕ → Parsed Modal
modal_of_code sub code s at =
    cond (eqb code 0x10) (some (truth false) (at + 1))
    (cond (eqb code 0x11) (some (truth true) (at + 1))
    (cond (eqb code 0x12) (then (sub (at + 1)) (λ f m. then (sub m) (λ g e. some (combined true f g) e)))
    (cond (eqb code 0x13) (then (sub (at + 1)) (λ f m. then (sub m) (λ g e. some (combined false f g) e)))
    (cond (eqb code 0x30)
    (then (actions_at s (at + 1)) (λ A m. then (sub m) (λ f e. some (after true A f) e)))
    (cond (eqb code 0x31)
    (then (actions_at s (at + 1)) (λ A m. then (sub m) (λ f e. some (after false A f) e)))
    (cond (eqb code 0x32) (then (sub (at + 1)) (λ f e. some (fixed_point false f) e))
    (cond (eqb code 0x33) (then (sub (at + 1)) (λ f e. some (fixed_point true f) e))
    (when (eqb code 0x34) (some (of_fixed_point (get_or s (at + 1) 0)) (at + 2))))))))))

-- n bounds how deep formulas stand in one another: the number of bytes is enough
unfoldable pub modal_at : ℕ → List ℕ → ℕ → Parsed Modal
modal_at zero s at = none
modal_at (suc n) s at = modal_of_code (modal_at n s) (get_or s at 0) s at
