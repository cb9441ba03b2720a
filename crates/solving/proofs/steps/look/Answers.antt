-- `steps::look` meets its contract: an instance that has its right side stays; one that differs from it goes there.
-- Where the right side is the constant of its equation nothing changes, and the instance stays dirty.
use mathlib.Core.Path.{sym, ap, ◌∙◌}
use mathlib.Core.Bool.{not}
use native.Mathlib.Omega.{arith}
use Rattle.truth.proofs.Bits.{beq_eq}
use Rattle.instances.specs.Sides.{is_greatest, numbered_system}
use Rattle.instances.proofs.GraphLaws.{other_than}
use Rattle.solving.proofs.StepLaws.{look_stays, look_moves}
use Rattle.solving.proofs.steps.look.Goals as goal

pub returns-then-w-has : goal.returns-then-w-has
returns-then-w-has c =
    record {
      spent = omega arith;
      keeps = λ g count mid. look_stays g c.requires.0 mid _ _ c.put-rest.ensures
          (sym (c.side_value-w.ensures g) ∙ beq_eq _ _ c.if-w-has.true ∙ c.has.ensures);
    }

pub returns-then-w-is_greatest : goal.returns-then-w-is_greatest
returns-then-w-is_greatest c =
    record { spent = omega arith; keeps = λ g count mid. record { midway = mid.midway; unchanged = mid.unchanged } }

pub returns : goal.returns
unfolding numbered_system
returns c =
    let constant = c.is_greatest.ensures ∙ ap (is_greatest c.args.equations) c.equation_number.ensures in
    record {
      spent = omega arith;
      keeps = λ g count mid. look_moves g c.requires.0 mid _ _ _ _ _ (c.side_value-w.ensures g)
          (other_than _ _ (ap not c.if-w-is_greatest.false) ∙ ap not constant)
          c.put-truth.ensures c.put-rest.ensures c.with_unlike-dirty.ensures;
    }
