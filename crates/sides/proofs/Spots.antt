-- A formula at a spot: its code says of which kind it is, and the formulas inside it stand at the spots that are computed.
-- What stands there is taken apart from the front, code after code.
use Prim.Native.Nat.{ℕ, ◌+◌, ◌*◌, ◌≤◌, ◌<◌}
use native.Mathlib.Omega.{arith}
use mathlib.Core.Path.{◌≡◌, refl, ◌∙◌, ap, subst}
use mathlib.Core.Bool.{Bool, true, false, cond}
use mathlib.Core.List.{List, [], ◌∷◌, ◌++◌}
use lib.Dec.{eqb}
use lib.ListN.{length, get_or}
use borrow.Author.Tests.{eqb-true, eqb-false, ne_eqb}
use Rattle.std.specs.Prelude.{Some, Result, Ok, Err}
use Rattle.std.specs.Result.{OkIff, result_ok, is_ok}
use Rattle.meaning.specs.Logic.{Is, and_l, and_r, cases}
use Rattle.spelling.specs.Spelled.{either_code}
use Rattle.spelling.specs.Stands as stand
use Rattle.spelling.specs.Stands.{Stands, stands_inside}
use Rattle.translation.specs.Processes.{Process}
use Rattle.translation.specs.Modal.{Actions, fixed_points}
use Rattle.translation.specs.Modal.{Modal, truth, combined, after, fixed_point, of_fixed_point}
use Rattle.translation.specs.Rules.{well_formed_formula}
use Rattle.translation.specs.Translation.{begins_with_fixed_point}
use Rattle.inputs.specs.InputFrames.{spelled_actions, spelled_modal, formula_frame}
use Rattle.inputs.specs.Sheet.{Sheet}
use Rattle.scans.specs.Formulas.{is_fixed, Skips}
use Rattle.scans.specs.declared.Skipped.{Skipped}
use Rattle.scans.proofs.ScannedFormulas.{modal_code, modal_opened, code_told, actions_width}
use Rattle.sides.specs.declared.Spot.{Spot}
use Rattle.sides.specs.Told.{before_of, equation_number, inner_place, inside, moved, Spotted}

-- ---- codes
-- what a code begins: a connective, a box or a diamond, a fixed point, the variable of one, or none of these
unfoldable pub kind : ℕ → ℕ
kind code =
    cond (eqb code 0x12) 1 (cond (eqb code 0x13) 1 (cond (eqb code 0x30) 2 (cond (eqb code 0x31) 2
    (cond (eqb code 0x32) 3 (cond (eqb code 0x33) 3 (cond (eqb code 0x34) 4 0))))))

abbrev pub modal_kind : Modal → ℕ
modal_kind (truth b) = 0
modal_kind (combined all f g) = 1
modal_kind (after all A f) = 2
modal_kind (fixed_point greatest f) = 3
modal_kind (of_fixed_point n) = 4

kind_told : (g : Modal) → kind (modal_code g) ≡ modal_kind g
unfolding kind modal_code either_code
kind_told (truth true) = refl
kind_told (truth false) = refl
kind_told (combined true f g) = refl
kind_told (combined false f g) = refl
kind_told (after true A f) = refl
kind_told (after false A f) = refl
kind_told (fixed_point true f) = refl
kind_told (fixed_point false f) = refl
kind_told (of_fixed_point n) = refl

pub kind_joined : {code : ℕ} → 0x12 ≤ code → code < 0x14 → kind code ≡ 1
unfolding kind
kind_joined {code} low high = cases (eqb code 0x12)
    (λ t. rw t refl)
    (λ f. let e : code ≡ 0x13 = omega (arith, eqb-false code 0x12 f) in rw e refl)

pub kind_box : {code : ℕ} → 0x30 ≤ code → code < 0x32 → kind code ≡ 2
unfolding kind
kind_box {code} low high = cases (eqb code 0x30)
    (λ t. let e = eqb-true code 0x30 t in rw e refl)
    (λ f. let e : code ≡ 0x31 = omega (arith, eqb-false code 0x30 f) in rw e refl)

pub kind_fixed : {code : ℕ} → 0x32 ≤ code → code < 0x34 → kind code ≡ 3
unfolding kind
kind_fixed {code} low high = cases (eqb code 0x32)
    (λ t. let e = eqb-true code 0x32 t in rw e refl)
    (λ f. let e : code ≡ 0x33 = omega (arith, eqb-false code 0x32 f) in rw e refl)

pub kind_other : {code : ℕ} → (0x12 ≤ code → code < 0x14 → ⊥) → (0x30 ≤ code → code < 0x35 → ⊥) → kind code ≡ 0
unfolding kind
kind_other {code} joins rest =
    rw (
      ne_eqb code 0x12 (λ e. joins (omega arith) (omega arith)),
      ne_eqb code 0x13 (λ e. joins (omega arith) (omega arith)),
      ne_eqb code 0x30 (λ e. rest (omega arith) (omega arith)),
      ne_eqb code 0x31 (λ e. rest (omega arith) (omega arith)),
      ne_eqb code 0x32 (λ e. rest (omega arith) (omega arith)),
      ne_eqb code 0x33 (λ e. rest (omega arith) (omega arith)),
      ne_eqb code 0x34 (λ e. rest (omega arith) (omega arith)),
    ) refl

pub first_code : (s : List ℕ) (at : ℕ) (g : Modal) → Stands s at (spelled_modal g) → get_or s at 0 ≡ modal_code g
first_code s at g h = stand.first s at _ _ (subst (Stands s at) (modal_opened g) h)

pub kind_at : (s : List ℕ) (at : ℕ) (g : Modal) → Stands s at (spelled_modal g) → kind (get_or s at 0) ≡ modal_kind g
kind_at s at g h = ap kind (first_code s at g h) ∙ kind_told g

-- a formula has a byte at least
some_bytes : (g : Modal) → 1 ≤ length (spelled_modal g)
unfolding spelled_modal
some_bytes (truth b) = omega arith
some_bytes (combined all f g) = omega arith
some_bytes (after all A f) = omega arith
some_bytes (fixed_point greatest f) = omega arith
some_bytes (of_fixed_point n) = omega arith

-- and begins inside the last place of the sheet
pub begins_inside : (s : List ℕ) (at : ℕ) (g : Modal) → length s ≡ 4608 → Stands s (4352 + at) (spelled_modal g) → at < 256
begins_inside s at g e h = omega (arith, some_bytes g, stands_inside s (4352 + at) (spelled_modal g) h)

-- a box has the code `30`, a diamond `31`
pub box_code : (s : List ℕ) (at : ℕ) (all : Bool) (A : Actions) (g : Modal) → Stands s at (spelled_modal (after all A g))
    → eqb (get_or s at 0) 0x30 ≡ all
unfolding modal_code either_code
box_code s at true A g h = rw (first_code s at (after true A g) h) refl
box_code s at false A g h = rw (first_code s at (after false A g) h) refl

pub joined_code : (s : List ℕ) (at : ℕ) (all : Bool) (g h : Modal) → Stands s at (spelled_modal (combined all g h))
    → get_or s at 0 ≡ either_code all 0x12 0x13
unfolding modal_code
joined_code s at all g h p = first_code s at (combined all g h) p

pub truth_code : (s : List ℕ) (at : ℕ) (b : Bool) → Stands s at (spelled_modal (truth b))
    → get_or s at 0 ≡ either_code b 0x11 0x10
unfolding modal_code
truth_code s at b p = first_code s at (truth b) p

-- ---- the equation of a fixed point
pub equation_numbered : {process : Process} {f : Modal} {sheet : List ℕ} → Sheet process f sheet → (n : ℕ)
    → equation_number sheet n ≡ n + before_of f
unfolding formula_frame
equation_numbered {process} {f} {sheet} sh n =
    ap (λ (b : Bool). cond b n (n + 1)) (ap is_fixed (first_code sheet 4353 f body) ∙ fixed_or_not)
    ∙ either_sum (begins_with_fixed_point f)
  where
    body : Stands sheet 4353 (spelled_modal f)
    body = stand.after_one sheet 4352 0x08 (spelled_modal f) sh.last

    fixed_or_not : is_fixed (modal_code f) ≡ begins_with_fixed_point f
    fixed_or_not = (code_told f sheet 4353 _ (subst (Stands sheet 4353) (modal_opened f) body)).1

    either_sum : (b : Bool) → cond b n (n + 1) ≡ n + cond b 0 1
    either_sum true = omega arith
    either_sum false = refl

-- ---- the formulas inside
-- the spot behind the code
abbrev pub behind_code : Spot → Spot
behind_code spot = record { at = spot.at + 1; number = spot.number; depth = spot.depth; q = spot.q }

module _ {sheet : List ℕ} {spot : Spot} {all : Bool} {g h : Modal} (p : Spotted sheet spot (combined all g h)) where
  behind_connective : Stands sheet (4352 + spot.at + 1) (spelled_modal g ++ spelled_modal h)
  unfolding spelled_modal
  behind_connective = stand.after_one sheet (4352 + spot.at) _ _ p.stands

  pub first_stands : Stands sheet (4352 + (spot.at + 1)) (spelled_modal g)
  first_stands = stand.moved sheet (4352 + spot.at + 1) (4352 + (spot.at + 1)) (spelled_modal g) (omega arith)
      (stand.left_part sheet (4352 + spot.at + 1) (spelled_modal g) (spelled_modal h) behind_connective)

  both_few : spot.number + (fixed_points g + fixed_points h) ≤ 8
  unfolding fixed_points
  both_few = p.few

  both_formed : Is (well_formed_formula p.around spot.number g)
      × Is (well_formed_formula p.around (spot.number + fixed_points g) h)
  unfolding well_formed_formula
  both_formed = (and_l _ _ p.formed, and_r _ _ p.formed)

  pub first_spotted : Spotted sheet (behind_code spot) g
  first_spotted = record {
    stands = first_stands;
    around = p.around;
    formed = both_formed.0;
    below = p.below;
    few = omega (arith, both_few);
    four = p.four;
  }

  module _ {next : Skipped} (s : Skips sheet (spot.at + 1) next) (size : length sheet ≡ 4608) where
    second_stands : Stands sheet (4352 + next.next) (spelled_modal h)
    second_stands =
        let place : 4352 + spot.at + 1 + length (spelled_modal g) ≡ 4352 + next.next =
        omega (arith, (s.skipped g size first_stands).0) in
        stand.moved sheet _ _ (spelled_modal h) place
        (stand.right_part sheet (4352 + spot.at + 1) (spelled_modal g) (spelled_modal h) behind_connective)

    pub second_inside : next.next < 256
    second_inside = begins_inside sheet next.next h size second_stands

    pub second_small : spot.number + next.count ≤ 8
    second_small = omega (arith, both_few, (s.skipped g size first_stands).1)

    pub second_number : next.count ≡ fixed_points g
    second_number = (s.skipped g size first_stands).1

    pub second_spotted : Spotted sheet (moved spot next.next next.count) h
    second_spotted = record {
      stands = second_stands;
      around = p.around;
      formed = rw second_number both_formed.1;
      below = p.below;
      few = rw second_number (omega (arith, both_few));
      four = p.four;
    }

module _ (sheet : List ℕ) (at : ℕ) (all : Bool) (A : Actions) (g : Modal)
    (p : Stands sheet (4352 + at) (spelled_modal (after all A g))) where
  behind_box : Stands sheet (4352 + at + 1) (spelled_actions A ++ spelled_modal g)
  unfolding spelled_modal
  behind_box = stand.after_one sheet (4352 + at) _ _ p

  pub actions_stand : Stands sheet (4352 + (at + 1)) (spelled_actions A)
  actions_stand = stand.moved sheet (4352 + at + 1) (4352 + (at + 1)) (spelled_actions A) (omega arith)
      (stand.left_part sheet (4352 + at + 1) (spelled_actions A) (spelled_modal g) behind_box)

  -- behind the actions
  pub inner_stands : Stands sheet (4352 + inner_place sheet at) (spelled_modal g)
  inner_stands =
      let width = actions_width A sheet (4352 + at + 1) (spelled_modal g) behind_box in
      let code : 4353 + at ≡ 4352 + at + 1 = omega arith in
      let place : 4352 + at + 1 + length (spelled_actions A) ≡ 4352 + inner_place sheet at =
      rw (code, either_place (eqb (get_or sheet (4352 + at + 1) 0) 0x11)) (omega (arith, width)) in
      stand.moved sheet _ _ (spelled_modal g) place
      (stand.right_part sheet (4352 + at + 1) (spelled_actions A) (spelled_modal g) behind_box)
    where
      either_place : (b : Bool) → cond b (at + 2) (at + 3) ≡ at + cond b 2 3
      either_place true = refl
      either_place false = refl

  pub inner_inside : length sheet ≡ 4608 → inner_place sheet at < 256
  inner_inside size = begins_inside sheet (inner_place sheet at) g size inner_stands

-- it stands two bytes on at least
pub inner_on : (sheet : List ℕ) (at : ℕ) → at + 2 ≤ inner_place sheet at
inner_on sheet at = either (eqb (get_or sheet (4353 + at) 0) 0x11)
  where
    either : (b : Bool) → at + 2 ≤ cond b (at + 2) (at + 3)
    either true = omega arith
    either false = omega arith

-- the spot of the formula inside, after the step of the summand in a place
abbrev pub spot_inside : List ℕ → Spot → ℕ → Spot
spot_inside sheet spot slot = inside spot (inner_place sheet spot.at) (get_or sheet (256 * slot + 1) 0)

module _ {sheet : List ℕ} {spot : Spot} {all : Bool} {A : Actions} {g : Modal} (p : Spotted sheet spot (after all A g)) where
  pub inside_spotted : (slot : ℕ) → spot.q + get_or sheet (256 * slot + 1) 0 ≤ 4
      → Spotted sheet (spot_inside sheet spot slot) g
  unfolding well_formed_formula fixed_points
  inside_spotted slot l = record {
    stands = inner_stands sheet spot.at all A g p.stands;
    around = p.around;
    formed = and_r _ _ p.formed;
    below = p.below;
    few = p.few;
    four = l;
  }

-- ---- a number as a byte: there is one where it is below 256
pub same_byte : {E : Type 0} {n b : ℕ} (r : Result ℕ E) → OkIff r (n < 256) n → Some b ≡ result_ok r → b ≡ n
same_byte (Ok x) h e = let is = h.1 in cc
same_byte (Err x) h e = absurd cc

pub no_byte : {E : Type 0} {n : ℕ} (r : Result ℕ E) → OkIff r (n < 256) n → false ≡ is_ok r → 255 < n
no_byte (Ok x) h e = absurd cc
no_byte (Err x) h e = omega (arith, h)

-- ---- fixed points and their variables: the numbers are small
pub fixed_small : {sheet : List ℕ} {spot : Spot} {greatest : Bool} {g : Modal} → Spotted sheet spot (fixed_point greatest g)
    → spot.number < 255
unfolding fixed_points
fixed_small p = omega (arith, p.few)

module _ {sheet : List ℕ} {spot : Spot} {m : ℕ} (p : Spotted sheet spot (of_fixed_point m)) where
  pub named_number : get_or sheet (4352 + spot.at + 1) 0 ≡ m
  unfolding spelled_modal
  named_number = stand.first sheet (4352 + spot.at + 1) m [] (stand.after_one sheet (4352 + spot.at) 0x34 (m ∷ []) p.stands)

  pub named_small : m < 255
  unfolding well_formed_formula
  named_small = let b = p.below m p.formed in omega arith
