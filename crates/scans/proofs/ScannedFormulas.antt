-- Formulas that stand one after the other, gone through code by code.
-- The first one's code says its width and how many formulas follow; behind it stand those, then the others.
use Prim.Native.Nat.{ℕ, suc, ◌+◌, ◌≤◌, ◌<◌}
use native.Mathlib.Omega.{arith}
use mathlib.Core.Path.{◌≡◌, refl, sym, ap, ap₂, ◌∙◌, subst}
use mathlib.Core.Bool.{Bool, true, false, cond, true≢false, false≢true}
use mathlib.Core.List.{List, [], ◌∷◌, ◌++◌, append-nil, append_assoc}
use lib.Dec.{eqb}
use lib.ListN.{length, length-append, get_or}
use Rattle.std.specs.Prelude.{Option, Some, None, unwrap_or}
use Rattle.spelling.specs.Spelled.{either_code}
use Rattle.spelling.specs.Stands.{Stands, first, after_one, left_part, right_part, moved, stands_inside}
use Rattle.translation.specs.Modal.{Actions, any_action, only, other_than}
use Rattle.translation.specs.Modal.{Modal, truth, combined, after, fixed_point, of_fixed_point}
use Rattle.translation.specs.Translation.{begins_with_fixed_point}
use Rattle.inputs.specs.InputFrames.{spelled_actions, spelled_modal}
use Rattle.scans.specs.FixedPoints.{Fixed, fixed_in}
use Rattle.scans.specs.Formulas.{is_fixed, parts_of, after_width, code_width, width_at}
use Rattle.scans.proofs.Spelled.{opened}

unfoldable pub spelled_modals : List Modal → List ℕ
spelled_modals [] = []
spelled_modals (f ∷ fs) = spelled_modal f ++ spelled_modals fs

unfoldable pub modals_in : Modal → List Modal
modals_in (truth b) = []
modals_in (combined all f g) = f ∷ g ∷ []
modals_in (after all A f) = f ∷ []
modals_in (fixed_point greatest f) = f ∷ []
modals_in (of_fixed_point n) = []

unfoldable pub modal_code : Modal → ℕ
modal_code (truth b) = either_code b 0x11 0x10
modal_code (combined all f g) = either_code all 0x12 0x13
modal_code (after all A f) = either_code all 0x30 0x31
modal_code (fixed_point greatest f) = either_code greatest 0x33 0x32
modal_code (of_fixed_point n) = 0x34

unfoldable pub modal_operands : Modal → List ℕ
modal_operands (truth b) = []
modal_operands (combined all f g) = []
modal_operands (after all A f) = spelled_actions A
modal_operands (fixed_point greatest f) = []
modal_operands (of_fixed_point n) = n ∷ []

abbrev pub own_bytes : Modal → List ℕ
own_bytes f = modal_code f ∷ modal_operands f

pub modal_opened : (f : Modal) → spelled_modal f ≡ own_bytes f ++ spelled_modals (modals_in f)
unfolding spelled_modal spelled_modals modals_in modal_code modal_operands
modal_opened (truth b) = refl
modal_opened (combined all f g) =
    ap (λ (l : List ℕ). either_code all 0x12 0x13 ∷ (spelled_modal f ++ l)) (sym (append-nil (spelled_modal g)))
modal_opened (after all A f) =
    ap (λ (l : List ℕ). either_code all 0x30 0x31 ∷ (spelled_actions A ++ l)) (sym (append-nil (spelled_modal f)))
modal_opened (fixed_point greatest f) =
    ap (λ (l : List ℕ). either_code greatest 0x33 0x32 ∷ l) (sym (append-nil (spelled_modal f)))
modal_opened (of_fixed_point n) = refl

modals_opened : (f : Modal) (fs : List Modal) → spelled_modals (f ∷ fs) ≡ own_bytes f ++ spelled_modals (modals_in f ++ fs)
unfolding spelled_modals
modals_opened f fs =
    opened spelled_modal spelled_modals refl (λ g gs. refl) f fs (own_bytes f) (modals_in f) (modal_opened f)

-- ---- what the code says, and the byte behind it
pub actions_width : (A : Actions) (s : List ℕ) (at : ℕ) (w : List ℕ) → Stands s at (spelled_actions A ++ w)
    → cond (eqb (get_or s at 0) 0x11) 2 3 ≡ suc (length (spelled_actions A))
unfolding spelled_actions
actions_width any_action s at w h = rw (first s at 0x11 w h) refl
actions_width (only a) s at w h = rw (first s at 0x36 (a ∷ w) h) refl
actions_width (other_than a) s at w h = rw (first s at 0x35 (a ∷ w) h) refl

pub actions_wide : (A : Actions) (s : List ℕ) (at : ℕ) (w : List ℕ) → Stands s at (spelled_actions A ++ w)
    → after_width (get_or s at 0) ≡ Some (suc (length (spelled_actions A)))
unfolding spelled_actions after_width
actions_wide any_action s at w h = rw (first s at 0x11 w h) refl
actions_wide (only a) s at w h = rw (first s at 0x36 (a ∷ w) h) refl
actions_wide (other_than a) s at w h = rw (first s at 0x35 (a ∷ w) h) refl

-- where the code has no width
abbrev otherwise : ℕ → ℕ
otherwise code = cond (eqb code 0x30) 3 (cond (eqb code 0x31) 3 1)

abbrev bytes : ℕ → Option ℕ → ℕ
bytes n w = unwrap_or w n

abbrev pub width_by : ℕ → ℕ → ℕ
width_by code behind = bytes (otherwise code) (code_width code behind)

pub code_told : (f : Modal) (s : List ℕ) (at : ℕ) (w : List ℕ) → Stands s at (own_bytes f ++ w)
    → (parts_of (modal_code f) ≡ length (modals_in f))
    × (is_fixed (modal_code f) ≡ begins_with_fixed_point f)
    × (width_by (modal_code f) (get_or s (at + 1) 0) ≡ length (own_bytes f))
unfolding parts_of is_fixed code_width begins_with_fixed_point modals_in modal_code modal_operands either_code
code_told (truth true) s at w h = (refl, refl, refl)
code_told (truth false) s at w h = (refl, refl, refl)
code_told (combined true f g) s at w h = (refl, refl, refl)
code_told (combined false f g) s at w h = (refl, refl, refl)
code_told (after true A f) s at w h = (refl, refl, ap (bytes 3) (actions_wide A s (at + 1) w (after_one s at 0x30 _ h)))
code_told (after false A f) s at w h = (refl, refl, ap (bytes 3) (actions_wide A s (at + 1) w (after_one s at 0x31 _ h)))
code_told (fixed_point true f) s at w h = (refl, refl, refl)
code_told (fixed_point false f) s at w h = (refl, refl, refl)
code_told (of_fixed_point n) s at w h = (refl, refl, refl)

-- ---- the fixed points of some formulas
unfoldable pub fixed_in_all : List Modal → List Fixed
fixed_in_all [] = []
fixed_in_all (f ∷ fs) = fixed_in f ++ fixed_in_all fs

no_fixed_first : (f : Modal) (fs : List Modal) → begins_with_fixed_point f ≡ false
    → fixed_in_all (f ∷ fs) ≡ fixed_in_all (modals_in f ++ fs)
unfolding fixed_in fixed_in_all modals_in begins_with_fixed_point
no_fixed_first (truth b) fs e = refl
no_fixed_first (combined all f g) fs e = append_assoc (fixed_in f) (fixed_in g) (fixed_in_all fs)
no_fixed_first (after all A f) fs e = refl
no_fixed_first (fixed_point greatest f) fs e = absurd (true≢false e)
no_fixed_first (of_fixed_point n) fs e = refl

-- one that begins with a fixed point
pub record FixedFirst (f : Modal) (fs : List Modal) : Type 0 where
  pub it : Fixed
  pub is_it : f ≡ fixed_point it.greatest it.inner
  pub follow : fixed_in_all (f ∷ fs) ≡ it ∷ fixed_in_all (modals_in f ++ fs)

fixed_first : (f : Modal) (fs : List Modal) → begins_with_fixed_point f ≡ true → FixedFirst f fs
unfolding fixed_in fixed_in_all modals_in begins_with_fixed_point
fixed_first (truth b) fs e = absurd (false≢true e)
fixed_first (combined all f g) fs e = absurd (false≢true e)
fixed_first (after all A f) fs e = absurd (false≢true e)
fixed_first (fixed_point greatest f) fs e = record {
  it = record { greatest = greatest; inner = f };
  is_it = refl;
  follow = refl;
}
fixed_first (of_fixed_point n) fs e = absurd (false≢true e)

-- the code at a place of the formula
abbrev pub code_at : List ℕ → ℕ → ℕ
code_at s at = get_or s (4352 + at) 0

-- ---- a turn: what is known where formulas stand at a place of a sheet, and there is one
pub record Turn (s : List ℕ) (at : ℕ) (f : Modal) (fs : List Modal) : Type 0 where
  pub parts : parts_of (code_at s at) ≡ length (modals_in f)
  pub size : length (spelled_modals (f ∷ fs)) ≡ width_at s at + length (spelled_modals (modals_in f ++ fs))
  pub rest : Stands s (4352 + (at + width_at s at)) (spelled_modals (modals_in f ++ fs))
  pub other : is_fixed (code_at s at) ≡ false → fixed_in_all (f ∷ fs) ≡ fixed_in_all (modals_in f ++ fs)
  pub fixed : is_fixed (code_at s at) ≡ true → FixedFirst f fs

pub turn : (s : List ℕ) (at : ℕ) (f : Modal) (fs : List Modal) → Stands s (4352 + at) (spelled_modals (f ∷ fs))
    → Turn s at f fs
unfolding width_at
turn s at f fs h =
    let behind = spelled_modals (modals_in f ++ fs) in
    let own = subst (Stands s (4352 + at)) (modals_opened f fs) h in
    let code : get_or s (4352 + at) 0 ≡ modal_code f = first s (4352 + at) (modal_code f) (modal_operands f ++ behind) own in
    let told = code_told f s (4352 + at) behind own in
    let next : 4353 + at ≡ 4352 + at + 1 = omega arith in
    let width : width_at s at ≡ length (own_bytes f) = ap₂ width_by code (ap (λ (n : ℕ). get_or s n 0) next) ∙ told.2 in
    let end : 4352 + at + length (own_bytes f) ≡ 4352 + (at + width_at s at) = omega (arith, width) in
    record {
      parts = ap parts_of code ∙ told.0;
      size = ap length (modals_opened f fs) ∙ length-append (own_bytes f) behind ∙ ap (λ (n : ℕ). n + length behind) (sym width);
      rest = moved s _ _ behind end (right_part s (4352 + at) (own_bytes f) behind own);
      other = λ e. no_fixed_first f fs (sym told.1 ∙ sym (ap is_fixed code) ∙ e);
      fixed = λ e. fixed_first f fs (sym told.1 ∙ sym (ap is_fixed code) ∙ e);
    }

-- formulas that stand on a sheet stand before its end
pub none_past : (s : List ℕ) (at : ℕ) (f : Modal) (fs : List Modal) → length s ≡ 4608
    → Stands s (4352 + at) (spelled_modals (f ∷ fs)) → at < 256
none_past s at f fs size h =
    omega (arith, size, ap length (modals_opened f fs), stands_inside s (4352 + at) (spelled_modals (f ∷ fs)) h)

pub first_stands : (s : List ℕ) (at : ℕ) (f : Modal) (fs : List Modal) → Stands s (4352 + at) (spelled_modals (f ∷ fs))
    → Stands s (4352 + at) (spelled_modal f)
unfolding spelled_modals
first_stands s at f fs h = left_part s (4352 + at) (spelled_modal f) (spelled_modals fs) h

-- a formula alone
pub one_alone : (f : Modal) → spelled_modals (f ∷ []) ≡ spelled_modal f
unfolding spelled_modals
one_alone f = append-nil (spelled_modal f)

pub one_fixed : (f : Modal) → fixed_in_all (f ∷ []) ≡ fixed_in f
unfolding fixed_in_all
one_fixed f = append-nil (fixed_in f)

-- ---- what is known of any sheet
below : (b : Bool) (x y n : ℕ) → x ≤ n → y ≤ n → cond b x y ≤ n
below true x y n h k = h
below false x y n h k = k

pub parts_few : (code : ℕ) → parts_of code ≤ 2
unfolding parts_of
parts_few code =
    below (eqb code 0x12) 2 _ 2 (omega arith) (below (eqb code 0x13) 2 _ 2 (omega arith)
    (below (eqb code 0x30) 1 _ 2 (omega arith) (below (eqb code 0x31) 1 _ 2 (omega arith)
    (below (eqb code 0x32) 1 _ 2 (omega arith) (below (eqb code 0x33) 1 0 2 (omega arith) (omega arith))))))

record Small (n : ℕ) (w : Option ℕ) : Type 0 where
  pub some : 1 ≤ bytes n w
  pub few : bytes n w ≤ 3

either_small : (b : Bool) {n : ℕ} {v w : Option ℕ} → Small n v → Small n w → Small n (cond b v w)
either_small true x y = x
either_small false x y = y

none_small : (b c : Bool) → Small (cond b 3 (cond c 3 1)) None
none_small true c = record { some = omega arith; few = omega arith }
none_small false true = record { some = omega arith; few = omega arith }
none_small false false = record { some = omega arith; few = omega arith }

pub width_small : (s : List ℕ) (at : ℕ) → (1 ≤ width_at s at) × (width_at s at ≤ 3)
unfolding width_at code_width after_width
width_small s at =
    let code = get_or s (4352 + at) 0 in
    let behind = get_or s (4353 + at) 0 in
    let n = otherwise code in
    let one : Small n (Some 1) = record { some = omega arith; few = omega arith } in
    let two : Small n (Some 2) = record { some = omega arith; few = omega arith } in
    let three : Small n (Some 3) = record { some = omega arith; few = omega arith } in
    let none = none_small (eqb code 0x30) (eqb code 0x31) in
    let after = either_small (eqb behind 0x11) two (either_small (eqb behind 0x35) three
    (either_small (eqb behind 0x36) three none)) in
    let small = either_small (eqb code 0x10) one (either_small (eqb code 0x11) one (either_small (eqb code 0x12) one
    (either_small (eqb code 0x13) one (either_small (eqb code 0x30) after (either_small (eqb code 0x31) after
    (either_small (eqb code 0x32) one (either_small (eqb code 0x33) one (either_small (eqb code 0x34) two none)))))))) in
    (small.some, small.few)
