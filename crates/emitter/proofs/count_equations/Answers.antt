-- `emitter::count_equations` meets its contract.
-- One for each fixed point that is skipped over; the first code says whether one is added.
use Prim.Native.Nat.{ℕ, ◌+◌}
use native.Mathlib.Omega.{arith}
use mathlib.Core.Path.{◌≡◌, sym, ◌∙◌}
use mathlib.Core.Bool.{true, false}
use mathlib.Core.List.{List}
use lib.ListN.{get_or}
use Rattle.scans.specs.declared.Skipped.{Skipped}
use Rattle.scans.specs.Formulas.{is_fixed, Skips}
use Rattle.emitter.specs.Built.{CountTold}
use Rattle.emitter.proofs.Heads.{count_begun, count_enclosed}
use Rattle.emitter.proofs.SheetHeads.{formula_stands, begins_fixed}
use Rattle.emitter.proofs.count_equations.Goals as goal

module _ {sheet : List ℕ} {r : Skipped} (skipped : Skips sheet 1 r) {code : ℕ} (code_is : code ≡ get_or sheet 4353 0) where
  begun : true ≡ is_fixed code → CountTold sheet r.count
  begun t = record {
    few = omega (arith, skipped.few);
    told = λ process f g.
        (skipped.skipped f g.sheet_is.size (formula_stands g)).1
        ∙ sym (count_begun process f (begins_fixed g code_is t));
  }

  enclosed : false ≡ is_fixed code → CountTold sheet (r.count + 1)
  enclosed t = record {
    few = omega (arith, skipped.few);
    told = λ process f g.
        omega (
          arith,
          (skipped.skipped f g.sheet_is.size (formula_stands g)).1,
          count_enclosed process f (begins_fixed g code_is t),
        );
  }

pub returns-then-is_fixed : goal.returns-then-is_fixed
returns-then-is_fixed c =
    begun c.skip-count.ensures c.element.ensures
    (sym c.if-is_fixed.true ∙ c.is_fixed.ensures)

pub returns-else-is_fixed : goal.returns-else-is_fixed
returns-else-is_fixed c =
    enclosed c.skip-count.ensures c.element.ensures
    (sym c.if-is_fixed.false ∙ c.is_fixed.ensures)
