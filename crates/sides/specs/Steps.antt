-- The steps around a formula, the last one first, and what the parameters are after them.
-- A step is a summand of the process, by its number, and how many quantifiers are around it.
use Rattle.std.specs.Prelude.{ℕ, suc, ◌+◌, ◌-◌, ◌≤◌, ◌<◌, ◌≡◌, Bool, true, false, cond, List, [], ◌∷◌}
use Rattle.std.specs.Prelude.{◌++◌, eqb, length, get_or}
use Rattle.meaning.specs.Formulas.{Term}
use Rattle.meaning.specs.Ranges.{sound_term, sound}
use Rattle.spelling.specs.Spelled.{spelled, spelled_term}
use Rattle.translation.specs.Processes.{Process}
use Rattle.translation.specs.Translation.{substituted_term, substituted_terms, substituted, guard}
use Rattle.translation.specs.Translation.{variables_from, reach}
use Rattle.scans.specs.Items.{Item, condition, term}
use Rattle.scans.specs.Summands.{nth_summand}
use Rattle.sides.specs.declared.Listed.{Listed}

pub record Step : Type 0 where
  pub index : ℕ
  pub quantifiers : ℕ

-- a step in their list: the place of its summand in the sheet, and the quantifiers around it
abbrev pub listed : ℕ → ℕ → Listed
listed slot q = record { slot = slot; quantifiers = q }

abbrev pub no_step : Listed
no_step = listed 0 0

-- step n, counted from 1
abbrev pub nth_step : List Listed → ℕ → Listed
nth_step steps n = get_or steps (n - 1) no_step

module _ (process : Process) where
  -- the terms that stand for the parameters after some steps
  unfoldable pub state_after : List Step → List Term
  state_after [] = variables_from 0 process.ranges
  state_after (s ∷ ss) =
      substituted_terms (reach process (state_after ss) s.quantifiers (nth_summand process s.index))
      (nth_summand process s.index).next

  -- the terms that stand for the variables of a step's summand, after the steps before it
  abbrev pub terms_in : Step → List Step → List Term
  terms_in s ss = reach process (state_after ss) s.quantifiers (nth_summand process s.index)

  -- the steps in their list, the first one first
  pub data Stacked (steps : List Listed) : ℕ → List Step → Type 0 where
    none : Stacked steps 0 []
    more : {n : ℕ} {s : Step} {ss : List Step} → s.index < length process.summands → s.quantifiers ≤ 4
        → get_or steps n no_step ≡ listed (s.index + 1) s.quantifiers → Stacked steps n ss
        → Stacked steps (suc n) (s ∷ ss)

-- a condition, negated where `flip`, or a term, with the terms σ in place of the variables
unfoldable pub item_after : List Term → Bool → Item → List ℕ
item_after σ flip (condition f) = spelled (substituted σ (guard flip f))
item_after σ flip (term t) = spelled_term (substituted_term σ t)

unfoldable pub items_after : List Term → Bool → List Item → List ℕ
items_after σ flip [] = []
items_after σ flip (i ∷ is) = item_after σ flip i ++ items_after σ flip is

-- k variables are in reach in it
abbrev pub sound_item : ℕ → Item → Bool
sound_item k (condition f) = sound k 0 f
sound_item k (term t) = sound_term k t

-- a code of a condition, negated where `flip`; codes of terms stay
unfoldable pub flipped : Bool → ℕ → ℕ
flipped false code = code
flipped true code =
    cond (eqb code 0x10) 0x11 (cond (eqb code 0x11) 0x10 (cond (eqb code 0x12) 0x13
    (cond (eqb code 0x13) 0x12 (cond (eqb code 0x16) 0x18 (cond (eqb code 0x17) 0x19
    (cond (eqb code 0x18) 0x16 (cond (eqb code 0x19) 0x17 code)))))))
