-- `emitter::put_equations` meets its contract.
-- Before turn e the lines of the first e equations are put; where one does not fit, not all of them fit.
use Prim.Native.Nat.{ℕ, ◌≤◌}
use mathlib.Core.Path.{◌≡◌}
use mathlib.Core.List.{List}
use lib.ListN.{length}
use Rattle.translation.specs.Processes.{Process}
use Rattle.translation.specs.Modal.{Modal}
use Rattle.translation.specs.Translation.{translated}
use Rattle.scans.specs.Summands.{Placed}
use Rattle.emitter.specs.Built.{Given}
use Rattle.emitter.proofs.LinesLaws.{Lines}
use Rattle.emitter.proofs.put_equations.Given as goal

pub record Putting (sheet places : List ℕ) (count : ℕ) (text : List ℕ) (at e : ℕ) : Type 0 where
  pub few : count ≤ 8
  pub near : e ≤ count
  pub long : length text ≡ 4117
  pub lines : (process : Process) (f : Modal) → Given process f sheet → Placed process places
      → length (translated process f) ≡ count → Lines (translated process f) e at text

abbrev pub invariant-loop-e : goal.invariant-loop-e
invariant-loop-e l = Putting l.sheet l.places l.count l.text l.at l.e
