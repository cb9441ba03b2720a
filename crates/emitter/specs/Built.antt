-- What `model_text` promises: the text of the model, where the model is within the limits.
-- The sheet is one on which a process and a formula are laid out, which keep the rules.
use Rattle.std.specs.Prelude.{ℕ, ◌+◌, ◌≤◌, ◌<◌, ◌≡◌, Bool, true, false, cond, List, [], ◌∷◌, map, length}
use Rattle.std.specs.Prelude.{get_or, take, replicate, Option, Some, None, IfSome, IsSomeAnd}
use Rattle.std.proofs.lemmas.List.Edits.{sets}
use Rattle.meaning.specs.Logic.{Is}
use Rattle.meaning.specs.Models.{ModelEquation, Model}
use Rattle.meaning.specs.Formulas.{constant}
use Rattle.frames.specs.Frames.{text_of}
use Rattle.frames.specs.PutLine.{LinePut}
use Rattle.spelling.specs.Spelled.{either_code, equation_frame, start_frame}
use Rattle.spelling.specs.Stands.{Stands}
use Rattle.translation.specs.Processes.{Process}
use Rattle.translation.specs.Modal.{Modal}
use Rattle.translation.specs.Modal.{fixed_points}
use Rattle.translation.specs.Rules.{well_formed_input, well_formed_formula, among}
use Rattle.translation.specs.Translation.{translated, translated_start, equation_of}
use Rattle.inputs.specs.InputFrames.{spelled_modal}
use Rattle.inputs.specs.Sheet.{Sheet}
use Rattle.scans.specs.FixedPoints.{fixed_in, no_fixed}
use Rattle.scans.specs.Summands.{Placed}
use Rattle.sides.specs.Told.{before_of}
use Rattle.emitter.specs.declared.Built.{Built}
use Rattle.emitter.specs.declared.Head.{Head}
use Rattle.emitter.specs.Limits.{equation_fits, each_fits, within_limits, text_for}

-- a text, zeros after it, and how long it is
abbrev pub text_built : List ℕ → Built
text_built text = record { length = length text; text = sets (replicate 4117 0) 0 text }

-- the text of the model, where the model is within the limits
unfoldable pub built : Process → Modal → Option Built
built process f =
    cond (within_limits (translated process f))
    (Some (text_built (text_for process f)))
    None

-- ---- what is known of what is laid out on a sheet, each frame in a place of its own, and what `model_text`
-- promises of it
pub record Given (process : Process) (f : Modal) (sheet : List ℕ) : Type 0 where
  pub sheet_is : Sheet process f sheet
  pub formed : Is (well_formed_input process f)

pub record ModelTold (sheet : List ℕ) (r : Option Built) : Type 0 where
  pub told : (process : Process) (f : Modal) → Given process f sheet → r ≡ built process f

-- ---- what the functions inside promise
pub record CountTold (sheet : List ℕ) (r : ℕ) : Type 0 where
  pub few : r ≤ 257
  pub told : (process : Process) (f : Modal) → Given process f sheet → r ≡ length (translated process f)

abbrev pub no_equation : ModelEquation
no_equation = record { greatest = false; ranges = []; body = constant false }

-- the frame of an equation begins so: its sign, its formula, and the number of the first fixed point in that;
-- the formula keeps the rules, and its numbers and those of the fixed points around it are below 8
pub record HeadOf (sheet : List ℕ) (greatest : Bool) (inner : Modal) (number : ℕ) (r : Head) : Type 0 where
  pub sign : r.sign ≡ either_code greatest 1 0
  pub named : r.number ≡ number
  pub stands : Stands sheet (4352 + r.at) (spelled_modal inner)

pub record Inner (inner : Modal) (number : ℕ) : Type 0 where
  pub around : List ℕ
  pub formed : Is (well_formed_formula around number inner)
  pub below : (m : ℕ) → Is (among m around) → m < 8
  pub few : number + fixed_points inner ≤ 8

-- fixed point m of the formula
pub record FixedTold (sheet : List ℕ) (m : ℕ) (r : Option Head) : Type 0 where
  pub told : (process : Process) (f : Modal) → Given process f sheet → m < fixed_points f
      → let fixed = get_or (fixed_in f) m no_fixed in
      IsSomeAnd r (HeadOf sheet fixed.greatest fixed.inner (m + 1))

-- equation e of the model
pub record Headed (process : Process) (f : Modal) (sheet : List ℕ) (e : ℕ) (r : Head) : Type 0 where
  pub greatest : Bool
  pub inner : Modal
  pub number : ℕ
  pub equation : get_or (translated process f) e no_equation
      ≡ equation_of process (before_of f) greatest inner number
  pub head : HeadOf sheet greatest inner number r
  pub keeps : Inner inner number

pub record HeadTold (sheet : List ℕ) (e : ℕ) (r : Option Head) : Type 0 where
  pub told : (process : Process) (f : Modal) → Given process f sheet → length (translated process f) ≤ 8
      → e < length (translated process f) → IsSomeAnd r (Headed process f sheet e)

-- what an equation's frame begins with
abbrev pub head_bytes : List ℕ → ℕ → List ℕ
head_bytes ranges sign = 0x01 ∷ sign ∷ length ranges ∷ ranges

pub record HeadPut (sheet : List ℕ) (sign : ℕ) (frame left : List ℕ) (r : ℕ) : Type 0 where
  pub size : length left ≡ length frame
  pub few : r ≤ 7
  pub told : (process : Process) (f : Modal) → Given process f sheet
      → (r ≡ length (head_bytes process.ranges sign))
      × (left ≡ sets frame 0 (head_bytes process.ranges sign))

-- the frame of equation e; none where it does not fit
pub record EquationPut (sheet places : List ℕ) (e : ℕ) (left : List ℕ) (r : Option ℕ) : Type 0 where
  pub size : length left ≡ 256
  pub few : IfSome r (λ n. n ≤ 256)
  pub told : (process : Process) (f : Modal) → Given process f sheet → Placed process places
      → length (translated process f) ≤ 8 → e < length (translated process f)
      → let equation = get_or (translated process f) e no_equation in
      let n = length (equation_frame equation) in
      (equation_fits equation ≡ true → (r ≡ Some n) × (take n left ≡ equation_frame equation))
      × (equation_fits equation ≡ false → r ≡ None)

-- the lines of some equations
abbrev pub lines_for : Model → List ℕ
lines_for model = text_of (map equation_frame model)

-- where they end; none where one of them does not fit
pub record EquationsPut (sheet places : List ℕ) (count : ℕ) (left : List ℕ) (r : Option ℕ) : Type 0 where
  pub size : length left ≡ 4117
  pub told : (process : Process) (f : Modal) → Given process f sheet → Placed process places
      → length (translated process f) ≡ count
      → let lines = lines_for (translated process f) in
      (each_fits (translated process f) ≡ true
      → (r ≡ Some (length lines)) × (left ≡ sets (replicate 4117 0) 0 lines))
      × (each_fits (translated process f) ≡ false → r ≡ None)

-- the line of the start, behind them
pub record StartPut (sheet text : List ℕ) (at : ℕ) (left : List ℕ) (r : ℕ) : Type 0 where
  pub told : (process : Process) (f : Modal) → Given process f sheet
      → LinePut text at (start_frame (translated_start process)) r left
