-- What is promised of right sides that are put: for any sheet that counts stay in bounds, and where a process
-- and a formula are laid out on it, which bytes they are.
-- In what follows `out` and `left` are the frame before and after, `count` and r how many bytes are in it.
use Rattle.std.specs.Prelude.{ℕ, ◌+◌, ◌-◌, ◌*◌, ◌≤◌, ◌<◌, ◌≡◌, Bool, true, false, cond, List, [], ◌∷◌, ◌++◌}
use Rattle.std.specs.Prelude.{map}
use Rattle.std.specs.Prelude.{eqb, leb, ltb, length, get_or, take, drop, slice_set}
use Rattle.meaning.specs.Logic.{Is}
use Rattle.meaning.specs.Formulas.{Formula, instance, number}
use Rattle.spelling.specs.Stands.{Stands}
use Rattle.spelling.specs.Spelled.{either_code, spelled, spelled_term}
use Rattle.translation.specs.Processes.{Process}
use Rattle.translation.specs.Modal.{Modal, Actions, fixed_points, combined, after}
use Rattle.translation.specs.Rules.{well_formed_input, well_formed_formula, among}
use Rattle.translation.specs.Translation.{guard, substituted, variables_from, matching, joined_all}
use Rattle.translation.specs.Translation.{after_summand, right_side, begins_with_fixed_point}
use Rattle.translation.specs.Translation.{four_quantifiers}
use Rattle.inputs.specs.InputFrames.{spelled_modal}
use Rattle.inputs.specs.Sheet.{Sheet}
use Rattle.scans.specs.Formulas.{is_fixed}
use Rattle.scans.specs.Items.{Item, plain_item, spelled_item}
use Rattle.scans.specs.Summands.{nth_summand, Placed}
use Rattle.sides.specs.declared.Listed.{Listed}
use Rattle.sides.specs.declared.Spot.{Spot}
use Rattle.sides.specs.declared.Part.{Part}
use Rattle.sides.specs.Emitted.{Emits, Grows, Puts}
use Rattle.sides.specs.Steps.{Step, listed, state_after, terms_in, Stacked, item_after, sound_item}

-- a process and a formula on a sheet, with the places of their summands' parts
pub record Laid (process : Process) (f : Modal) (sheet places : List ℕ) : Type 0 where
  pub sheet_is : Sheet process f sheet
  pub formed : Is (well_formed_input process f)
  pub placed : Placed process places

-- ---- parts
-- what stands behind a code of a condition or of a term, where it is no variable's
abbrev pub code_bytes : ℕ → ℕ → List ℕ
code_bytes code operand = cond (ltb code 0x20) (code ∷ []) (code ∷ operand ∷ [])

-- a condition or a term of the last step's summand
pub record PartTold (sheet places : List ℕ) (part : Part) (steps : List Listed) (out : List ℕ) (count : ℕ)
    (left : List ℕ)
    (r : ℕ) : Type 0 where
  pub grows : Grows out count left r
  pub told : (process : Process) (f : Modal) (s : Step) (ss : List Step) (i : Item)
      → Laid process f sheet places → Stacked process steps part.step (s ∷ ss) → Is (plain_item i)
      → Is (sound_item (length (process.ranges ++ (nth_summand process s.index).own)) i)
      → Stands sheet (256 * (s.index + 1) + part.at) (spelled_item i)
      → Emits true (item_after (terms_in process s ss) part.flip i) out count left r

-- a variable of the last step's summand; a parameter needs no more than the steps before it
pub record VariableTold (sheet places : List ℕ) (x step : ℕ) (steps : List Listed) (out : List ℕ) (count : ℕ)
    (left : List ℕ)
    (r : ℕ) : Type 0 where
  pub grows : Grows out count left r
  pub parameter : (process : Process) (f : Modal) (ss : List Step) → Laid process f sheet places
      → Stacked process steps (step - 1) ss → x < length process.ranges
      → Emits true (spelled_term (get_or (state_after process ss) x (number 0))) out
      count left r
  pub own : (process : Process) (f : Modal) (s : Step) (ss : List Step) → Laid process f sheet places
      → Stacked process steps step (s ∷ ss) → length process.ranges ≤ x
      → x < length (process.ranges ++ (nth_summand process s.index).own)
      → Emits true (spelled_term (get_or (terms_in process s ss) x (number 0))) out
      count left r

-- the instance of an equation at what the parameters are after some steps
pub record InstanceTold (sheet places : List ℕ) (equation depth : ℕ) (steps : List Listed) (out : List ℕ)
    (count : ℕ)
    (left : List ℕ) (r : ℕ) : Type 0 where
  pub grows : Grows out count left r
  pub told : (process : Process) (f : Modal) (ss : List Step) → Laid process f sheet places
      → Stacked process steps depth ss
      → Emits true (spelled (instance equation (state_after process ss))) out count left r

-- ---- quantifiers
unfoldable pub quantifier_bytes : Bool → List ℕ → List ℕ
quantifier_bytes all [] = []
quantifier_bytes all (r ∷ rs) = either_code all 0x14 0x15 ∷ r ∷ quantifier_bytes all rs

pub record QuantifiersTold (sheet : List ℕ) (slot : ℕ) (all : Bool) (out : List ℕ) (count : ℕ) (left : List ℕ)
    (r : ℕ) : Type 0 where
  pub size : length left ≡ length out
  pub more : count ≤ 257 → (count ≤ r) × (r ≤ 257)
  pub told : (process : Process) (f : Modal) (j : ℕ) → Sheet process f sheet → slot ≡ j + 1
      → j < length process.summands → count ≤ 257
      → Emits true (quantifier_bytes all (nth_summand process j).own) out count left r

-- ---- formulas
-- how many equations stand before that of fixed point 0: "a greatest one around it", where the formula begins
-- with none
abbrev pub before_of : Modal → ℕ
before_of f = cond (begins_with_fixed_point f) 0 1

abbrev pub equation_number : List ℕ → ℕ → ℕ
equation_number sheet n = cond (is_fixed (get_or sheet 4353 0)) n (n + 1)

abbrev pub inner_place : List ℕ → ℕ → ℕ
inner_place sheet at = cond (eqb (get_or sheet (4353 + at) 0) 0x11) (at + 2) (at + 3)

abbrev pub inside : Spot → ℕ → ℕ → Spot
inside spot inner own =
    record { at = inner; number = spot.number; depth = spot.depth + 1; q = spot.q + own }

abbrev pub moved : Spot → ℕ → ℕ → Spot
moved spot at count =
    record { at = at; number = spot.number + count; depth = spot.depth; q = spot.q }

-- each step around has put two bytes
pub record Ready (spot : Spot) (count : ℕ) : Type 0 where
  pub near : 2 * spot.depth ≤ count
  pub most : count ≤ 256

-- the formula g at a spot: the fixed points around it have numbers below 8, and so have its own
pub record Spotted (sheet : List ℕ) (spot : Spot) (g : Modal) : Type 0 where
  pub stands : Stands sheet (4352 + spot.at) (spelled_modal g)
  pub around : List ℕ
  pub formed : Is (well_formed_formula around spot.number g)
  pub below : (m : ℕ) → Is (among m around) → m < 8
  pub few : spot.number + fixed_points g ≤ 8
  pub four : spot.q ≤ 4

-- the steps around a spot are as before
pub record Kept (steps : List Listed) (spot : Spot) (steps_left : List Listed) : Type 0 where
  pub long : length steps_left ≡ length steps
  pub same : take spot.depth steps_left ≡ take spot.depth steps

-- the formula that stands for g at a spot, after the steps around it
abbrev pub side_of : Process → Modal → Spot → List Step → Modal → Formula
side_of process f spot ss g =
    right_side process (before_of f) g spot.number (state_after process ss) spot.q

-- a formula with q quantifiers around it
abbrev pub EmitsFormula : ℕ → Formula → List ℕ → ℕ → List ℕ → ℕ → Type 0
EmitsFormula q h out count left r = Emits (four_quantifiers q h) (spelled h) out count left r

pub record SideTold (sheet places : List ℕ) (spot : Spot) (steps : List Listed) (out : List ℕ) (count : ℕ)
    (steps_left : List Listed) (left : List ℕ) (r : ℕ) : Type 0 where
  pub grows : Grows out count left r
  pub kept : Kept steps spot steps_left
  pub told : (process : Process) (f g : Modal) (ss : List Step) → Laid process f sheet places
      → Spotted sheet spot g → Stacked process steps spot.depth ss
      → EmitsFormula spot.q (side_of process f spot ss g) out count left r

-- the same where the formula is an `and` or an `or`
pub record BothTold (sheet places : List ℕ) (spot : Spot) (steps : List Listed) (out : List ℕ) (count : ℕ)
    (steps_left : List Listed) (left : List ℕ) (r : ℕ) : Type 0 where
  pub grows : Grows out count left r
  pub kept : Kept steps spot steps_left
  pub told : (process : Process) (f g h : Modal) (all : Bool) (ss : List Step) → Laid process f sheet places
      → Spotted sheet spot (combined all g h) → Stacked process steps spot.depth ss
      → EmitsFormula spot.q (side_of process f spot ss (combined all g h)) out count left r

-- a fixed point, or its variable: the instance of its equation
pub record FixedTold (sheet places : List ℕ) (spot : Spot) (number : ℕ) (steps : List Listed) (out : List ℕ)
    (count : ℕ)
    (left : List ℕ) (r : ℕ) : Type 0 where
  pub grows : Grows out count left r
  pub told : (process : Process) (f : Modal) (ss : List Step) → Laid process f sheet places → number < 255
      → Stacked process steps spot.depth ss
      → Emits true (spelled (instance (number + before_of f) (state_after process ss))) out count left r

-- one step: what stands before the formula inside, and the step written down
pub record StepTold (sheet places : List ℕ) (spot : Spot) (slot : ℕ) (steps : List Listed) (out : List ℕ)
    (count : ℕ)
    (steps_left : List Listed) (left : List ℕ) (r : ℕ) : Type 0 where
  pub grows : Grows out count left r
  pub kept : Kept steps spot steps_left
  pub written : r ≤ 256 → (steps_left ≡ slice_set steps spot.depth (listed slot spot.q)) × (count + 2 ≤ r)
      × (spot.q + get_or sheet (256 * slot + 1) 0 ≤ 4)
  pub told : (process : Process) (f g : Modal) (all : Bool) (A : Actions) (j : ℕ) (ss : List Step)
      → Laid process f sheet places → Stands sheet (4352 + spot.at) (spelled_modal (after all A g))
      → Stacked process steps spot.depth ss → slot ≡ j + 1 → j < length process.summands → spot.q ≤ 4
      → let s = nth_summand process j in
      let ts = terms_in process (record { index = j; quantifiers = spot.q }) ss in
      Emits (leb (spot.q + length s.own) 4)
      (quantifier_bytes all s.own ++ (either_code all 0x13 0x12 ∷ spelled
      (substituted ts (guard all s.condition))))
      out count left r

-- the connective before a step, where there are more behind it
pub record ConnectiveTold (all more : Bool) (out : List ℕ) (count : ℕ) (left : List ℕ) (r : ℕ) : Type 0 where
  pub joined : more ≡ true → Puts true (either_code all 0x12 0x13 ∷ []) out count left r
  pub bare : more ≡ false → (left ≡ out) × (r ≡ count)

-- a box or a diamond over the matching summands from a place of the sheet on
pub record SummandsTold (sheet places : List ℕ) (spot : Spot) (from : ℕ) (steps : List Listed) (out : List ℕ)
    (count : ℕ)
    (steps_left : List Listed) (left : List ℕ) (r : ℕ) : Type 0 where
  pub grows : Grows out count left r
  pub kept : Kept steps spot steps_left
  pub told : (process : Process) (f g : Modal) (all : Bool) (A : Actions) (ss : List Step)
      → Laid process f sheet places → Spotted sheet spot (after all A g)
      → Stacked process steps spot.depth ss → 1 ≤ from
      → EmitsFormula spot.q (joined_all all (map
      (after_summand process all (right_side process (before_of f) g spot.number) (state_after process ss)
      spot.q) (matching A (drop (from - 1) process.summands)))) out count left r

-- ---- what `put_right_side` promises: nothing is put into a frame that has not 256 bytes
pub record RightSide (sheet places : List ℕ) (at number : ℕ) (out : List ℕ) (count : ℕ) (left : List ℕ)
    (r : ℕ) : Type 0 where
  pub size : length left ≡ length out
  pub most : r ≤ 257
  pub told : (process : Process) (f g : Modal) → Laid process f sheet places
      → Spotted sheet (record { at = at; number = number; depth = 0; q = 0 }) g → length out ≡ 256
      → EmitsFormula 0
      (right_side process (before_of f) g number (variables_from 0 process.ranges) 0) out count left r
