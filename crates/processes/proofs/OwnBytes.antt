-- What the tests of a code say where a formula stands as it is spelled.
-- The code is known, so the tests compute.
use Prim.Native.Nat.{ℕ, suc, ◌+◌}
use native.Mathlib.Omega.{arith}
use mathlib.Core.Path.{◌≡◌, refl, ap}
use mathlib.Core.Bool.{Bool, true, false, not, cond, ◌&&◌}
use mathlib.Core.List.{List, [], ◌∷◌, append-nil}
use lib.Dec.{eqb, leb, ltb}
use lib.ListN.{length, get_or}
use Rattle.std.specs.Prelude.{Option, Some, unwrap_or}
use Rattle.spelling.specs.Spelled.{either_code}
use Rattle.spelling.specs.Stands.{Stands, first, after_one, left_part}
use Rattle.translation.specs.Modal.{Actions, any_action, only, other_than}
use Rattle.translation.specs.Modal.{Modal, truth, combined, after, fixed_point, of_fixed_point}
use Rattle.translation.specs.Rules.{action_fits}
use Rattle.inputs.specs.InputFrames.{spelled_actions, spelled_modal}
use Rattle.scans.specs.Formulas.{is_fixed, after_width, code_width}
use Rattle.scans.proofs.ScannedFormulas.{actions_wide}
use Rattle.processes.specs.Ends.{action_stands, variable_stands}
use Rattle.processes.proofs.Rows.{width}

-- the bytes of a formula before the formulas inside it
abbrev pub own_bytes : Modal → ℕ
own_bytes (truth b) = 1
own_bytes (combined all f g) = 1
own_bytes (after all A f) = suc (length (spelled_actions A))
own_bytes (fixed_point greatest f) = 1
own_bytes (of_fixed_point m) = 2

pub own_some : (f : Modal) → own_bytes f ≡ 0 → ⊥
own_some (truth b) e = absurd (omega arith)
own_some (combined all f g) e = absurd (omega arith)
own_some (after all A f) e = absurd (omega arith)
own_some (fixed_point greatest f) e = absurd (omega arith)
own_some (of_fixed_point m) e = absurd (omega arith)

abbrev pub own_action : Modal → Bool
own_action (truth b) = true
own_action (combined all f g) = true
own_action (after all A f) = action_fits A
own_action (fixed_point greatest f) = true
own_action (of_fixed_point m) = true

abbrev pub own_variable : List ℕ → ℕ → ℕ → Modal → Bool
own_variable ends count at (truth b) = true
own_variable ends count at (combined all f g) = true
own_variable ends count at (after all A f) = true
own_variable ends count at (fixed_point greatest f) = true
own_variable ends count at (of_fixed_point m) = ltb m count && ltb at (get_or ends m 0)

abbrev pub is_fixed_point : Modal → Bool
is_fixed_point (truth b) = false
is_fixed_point (combined all f g) = false
is_fixed_point (after all A f) = false
is_fixed_point (fixed_point greatest f) = true
is_fixed_point (of_fixed_point m) = false

pub record Coded (s : List ℕ) (at : ℕ) (f : Modal) : Type 0 where
  pub wide : width s at ≡ own_bytes f
  pub variable : (ends : List ℕ) (count : ℕ) → variable_stands s at ends count ≡ own_variable ends count at f
  pub action : action_stands s at ≡ own_action f
  pub opening : is_fixed (get_or s at 0) ≡ is_fixed_point f

-- c is the code of f, and neither a box, a diamond nor a variable
abbrev Plain : Modal → ℕ → Type 0
Plain f c =
    ((x : ℕ) → code_width c x ≡ Some (own_bytes f)) × ((leb 0x30 c && leb c 0x31) ≡ false) × (eqb c 0x34 ≡ false) ×
    (is_fixed c ≡ is_fixed_point f)

-- c is a box or a diamond
abbrev Step : ℕ → Type 0
Step c =
    ((x : ℕ) → code_width c x ≡ after_width x) × ((leb 0x30 c && leb c 0x31) ≡ true) × (eqb c 0x34 ≡ false) ×
    (is_fixed c ≡ false)

of_either : (P : ℕ → Type 0) (b : Bool) (t f : ℕ) → P t → P f → P (either_code b t f)
unfolding either_code
of_either P true t f x y = x
of_either P false t f x y = y

module _ (s : List ℕ) (at : ℕ) where
  abbrev bytes : Option ℕ → ℕ
  bytes w = unwrap_or w 0

  plain : (f : Modal) (c : ℕ) → get_or s at 0 ≡ c → Plain f c → own_action f ≡ true
      → ((ends : List ℕ) (count : ℕ) → own_variable ends count at f ≡ true) → Coded s at f
  unfolding action_stands variable_stands
  plain f c e p a v = record {
    wide = rw e (ap bytes (p.0 (get_or s (at + 1) 0)));
    variable = λ ends count. rw (e, p.2, v ends count) refl;
    action = rw (e, p.1, a) refl;
    opening = rw e p.3;
  }

  actions_told : (A : Actions) → Stands s (at + 1) (spelled_actions A)
      → cond (not (eqb (get_or s (at + 1) 0) 0x11)) (leb (get_or s (at + 2) 0) 15) true ≡ action_fits A
  unfolding spelled_actions action_fits
  actions_told any_action h = rw (first s (at + 1) 0x11 [] h) refl
  actions_told (only a) h =
      let next : at + 2 ≡ at + 1 + 1 = omega arith in
      rw (first s (at + 1) 0x36 (a ∷ []) h, next, first s (at + 1 + 1) a [] (after_one s (at + 1) 0x36 (a ∷ []) h)) refl
  actions_told (other_than a) h =
      let next : at + 2 ≡ at + 1 + 1 = omega arith in
      rw (first s (at + 1) 0x35 (a ∷ []) h, next, first s (at + 1 + 1) a [] (after_one s (at + 1) 0x35 (a ∷ []) h)) refl

  stepped : (all : Bool) (A : Actions) (f : Modal) (c : ℕ) → get_or s at 0 ≡ c → Step c
      → Stands s (at + 1) (spelled_actions A) → Coded s at (after all A f)
  unfolding action_stands variable_stands
  stepped all A f c e p h = record {
    wide = rw (e, p.0 (get_or s (at + 1) 0))
        (ap bytes (actions_wide A s (at + 1) [] (rw (append-nil (spelled_actions A)) h)));
    variable = λ ends count. rw (e, p.2) refl;
    action = rw (e, p.1) (actions_told A h);
    opening = rw e p.3;
  }

  pub coded : (f : Modal) → Stands s at (spelled_modal f) → Coded s at f
  unfolding spelled_modal code_width action_stands variable_stands is_fixed
  coded (truth b) h =
      let p = of_either (Plain (truth b)) b 0x11 0x10 ((λ x. refl), refl, refl, refl) ((λ x. refl), refl, refl, refl) in
      plain (truth b) _ (first s at _ _ h) p refl (λ ends count. refl)
  coded (combined all f g) h =
      let p = of_either (Plain (combined all f g)) all 0x12 0x13 ((λ x. refl), refl, refl, refl)
      ((λ x. refl), refl, refl, refl) in
      plain (combined all f g) _ (first s at _ _ h) p refl (λ ends count. refl)
  coded (after all A f) h =
      let p = of_either Step all 0x30 0x31 ((λ x. refl), refl, refl, refl) ((λ x. refl), refl, refl, refl) in
      stepped all A f _ (first s at _ _ h) p
      (left_part s (at + 1) (spelled_actions A) (spelled_modal f) (after_one s at _ _ h))
  coded (fixed_point greatest f) h =
      let p = of_either (Plain (fixed_point greatest f)) greatest 0x33 0x32 ((λ x. refl), refl, refl, refl)
      ((λ x. refl), refl, refl, refl) in
      plain (fixed_point greatest f) _ (first s at _ _ h) p refl (λ ends count. refl)
  coded (of_fixed_point m) h =
      let e = first s at 0x34 (m ∷ []) h in
      let x = first s (at + 1) m [] (after_one s at 0x34 (m ∷ []) h) in
      record {
        wide = rw e refl;
        variable = λ ends count. rw (e, x) refl;
        action = rw e refl;
        opening = rw e refl;
      }
