-- `emitter::model_text` meets its contract.
-- The equations are counted, and put line by line; where they are too many, or one is too large, there is no text.
use Prim.Native.Nat.{ℕ}
use native.Mathlib.Omega.{arith}
use mathlib.Core.Path.{sym, ◌∙◌}
use mathlib.Core.List.{List}
use Rattle.translation.specs.Processes.{Process}
use Rattle.translation.specs.Modal.{Modal}
use Rattle.scans.specs.Summands.{Placed, Places}
use Rattle.emitter.specs.Built.{Given}
use Rattle.emitter.proofs.TextLaws.{too_many, one_too_large, whole_text}
use Rattle.emitter.proofs.model_text.Goals as goal

placed_for : {sheet places : List ℕ} {process : Process} {f : Modal} → Places sheet places → Given process f sheet
    → Placed process places
placed_for {process = process} {f = f} p g = p.placed process f g.sheet_is g.formed

pub returns-then-count-gt8 : goal.returns-then-count-gt8
returns-then-count-gt8 c =
    record {
      told = λ process f g.
          let counted = c.count_equations-count.ensures.told process f g in
          too_many process f (omega arith);
    }

pub returns-in_err-at : goal.returns-in_err-at
returns-in_err-at c =
    let places = c.places_of-places.ensures in
    let counted = c.count_equations-count.ensures in
    record {
      told = λ process f g.
          c.from_residual.ensures ∙
          one_too_large (omega arith) g (placed_for places g) (sym (counted.told process f g)) c.in_err-at.ensures;
    }

pub returns : goal.returns
returns c =
    let places = c.places_of-places.ensures in
    let counted = c.count_equations-count.ensures in
    record {
      told = λ process f g.
          whole_text (omega arith) g (placed_for places g) (sym (counted.told process f g)) c.in_ok-at.ensures
          (c.put_start-length.ensures.told process f g);
    }
