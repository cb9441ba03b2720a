-- What is promised of the summands on a sheet: where their actions and next-state terms stand, which match.
-- Places are counted from the first byte of the summand's frame.
use Rattle.std.specs.Prelude.{ℕ, ◌+◌, ◌*◌, ◌≤◌, ◌<◌, ◌≡◌, Bool, true, false, List, length, get_or, take}
use Rattle.meaning.specs.Logic.{Is}
use Rattle.spelling.specs.Spelled.{spelled, spelled_terms}
use Rattle.spelling.specs.Stands.{Stands}
use Rattle.translation.specs.Processes.{Summand, Process}
use Rattle.translation.specs.Modal.{Modal, Actions, one_of}
use Rattle.translation.specs.Rules.{well_formed_input}
use Rattle.inputs.specs.Inputs.{no_summand}
use Rattle.inputs.specs.InputFrames.{spelled_actions}
use Rattle.inputs.specs.Sheet.{Sheet}
use Rattle.scans.specs.Items.{Item, plain_item, spelled_item}

-- the summand in place j + 1 of a sheet
abbrev pub nth_summand : Process → ℕ → Summand
nth_summand process j = get_or process.summands j no_summand

-- where a summand's action stands: after its first two bytes, its own variables' ranges and its condition
abbrev pub action_place : Summand → ℕ
action_place s = 2 + length s.own + length (spelled s.condition)

-- and where next-state term i stands: after those before it
abbrev pub next_place : Summand → ℕ → ℕ
next_place s i = action_place s + 1 + length (spelled_terms (take i s.next))

-- a table of five places for each summand
pub record Placed (process : Process) (places : List ℕ) : Type 0 where
  pub action : (j : ℕ) → j < length process.summands
      → get_or places (5 * (j + 1)) 0 ≡ action_place (nth_summand process j)
  pub next : (j i : ℕ) → j < length process.summands → i < length (nth_summand process j).next
      → get_or places (5 * (j + 1) + 1 + i) 0 ≡ next_place (nth_summand process j) i

-- ---- what `places_of` promises
pub record Places (sheet places : List ℕ) : Type 0 where
  pub size : length places ≡ 85
  pub placed : (process : Process) (f : Modal) → Sheet process f sheet → Is (well_formed_input process f)
      → Placed process places

-- ---- what `next_matching` promises: A is what stands at place `at` of the formula, `from` is one of 1 to 17
pub record FirstMatch (process : Process) (A : Actions) (from r : ℕ) : Type 0 where
  pub late : from ≤ r
  pub unmatched : (j : ℕ) → from ≤ j + 1 → j + 1 < r → j < length process.summands
      → one_of A (nth_summand process j).action ≡ false
  pub matched : (j : ℕ) → r ≡ j + 1 → r < 17
      → (j < length process.summands) × (one_of A (nth_summand process j).action ≡ true)

pub record Matches (sheet places : List ℕ) (at from r : ℕ) : Type 0 where
  pub near : r ≤ 17
  pub onward : from ≤ 17 → from ≤ r
  pub first : (process : Process) (f : Modal) (A : Actions) → Sheet process f sheet → Placed process places
      → Stands sheet (4352 + at) (spelled_actions A) → 1 ≤ from → from ≤ 17 → FirstMatch process A from r

-- ---- what the functions inside promise
-- the item that stands at a place of the frame in a place of the sheet ends at r
pub record EndsPart (sheet : List ℕ) (slot at r : ℕ) : Type 0 where
  pub ended : (i : Item) → Is (plain_item i) → at + length (spelled_item i) ≤ 256
      → Stands sheet (256 * slot + at) (spelled_item i) → r ≡ at + length (spelled_item i)

pub record IsOneOf (sheet : List ℕ) (at action : ℕ) (r : Bool) : Type 0 where
  pub told : (A : Actions) → Stands sheet (4352 + at) (spelled_actions A) → r ≡ one_of A action

-- v is number i of a summand's five places: that of its action, then those of its next-state terms
pub record PlaceOf (s : Summand) (i v : ℕ) : Type 0 where
  pub action : i ≡ 0 → v ≡ action_place s
  pub next : (m : ℕ) → i ≡ m + 1 → m < length s.next → v ≡ next_place s m

-- of the summand in place j + 1 place number i, where `last` is the one before it
pub record PlaceTold (sheet : List ℕ) (slot i last r : ℕ) : Type 0 where
  pub told : (process : Process) (f : Modal) (j : ℕ) → Sheet process f sheet
      → Is (well_formed_input process f) → slot ≡ j + 1 → j < length process.summands
      → ((m : ℕ) → i ≡ m + 1 → PlaceOf (nth_summand process j) m last) → PlaceOf (nth_summand process j) i r

pub record IsMatch (sheet places : List ℕ) (at slot : ℕ) (r : Bool) : Type 0 where
  pub told : (process : Process) (f : Modal) (A : Actions) (j : ℕ) → Sheet process f sheet
      → Placed process places → Stands sheet (4352 + at) (spelled_actions A) → slot ≡ j + 1 → slot ≤ 16
      → (j < length process.summands → r ≡ one_of A (nth_summand process j).action)
      × (length process.summands ≤ j → r ≡ false)
