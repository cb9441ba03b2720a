-- Definitions that the theorems of `proofs/Looser` speak of.
-- Each stands alone; what follows from them is there.
use Rattle.std.specs.Prelude.{ℕ, Bool, List}
use Rattle.std.proofs.Math.Bool.{true, false}
use Rattle.meaning.specs.Logic.{◌and◌, Is}
use Rattle.meaning.specs.Solution.{Args}
use Rattle.translation.specs.Processes.{Summand, Process, steps}
use Rattle.translation.specs.Modal.{Modal, truth, combined, after, fixed_point, of_fixed_point}

-- no `30` stands in the formula
unfoldable pub no_box : Modal → Bool
no_box (truth b) = true
no_box (combined all f g) = no_box f and no_box g
no_box (after true A f) = false
no_box (after false A f) = no_box f
no_box (fixed_point s f) = no_box f
no_box (of_fixed_point m) = true

-- the process with other summands
abbrev pub with_summands : Process → List Summand → Process
with_summands process ss = record { ranges = process.ranges; initial = process.initial; summands = ss }

-- every step by ss is one by ss'
abbrev pub Includes : List Summand → List Summand → Type 0
Includes ss ss' = (d : Args) (a : ℕ) (d' : Args) → Is (steps ss d a d') → Is (steps ss' d a d')
