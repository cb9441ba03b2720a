-- `steps::is_greatest` meets its contract: the code is the definition.
-- Past the eight equations the definition reads a blank one, whose sign is 0.
use mathlib.Core.Path.{◌≡◌, refl, sym, ap}
use native.Mathlib.Omega.{arith}
use lib.Dec.{eqb}
use lib.ListN.{length, get_or-eq_default}
use borrow.Author.Rules.{rules}
use Rattle.formulas.specs.declared.Equation.{Equation}
use Rattle.formulas.specs.Bodies.{blank}
use Rattle.instances.specs.Sides.{is_greatest}
use Rattle.solving.proofs.steps.is_greatest.Goals as goal

pub returns-then-e-ge8 : goal.returns-then-e-ge8
unfolding is_greatest
returns-then-e-ge8 c =
    let a = c.args in
    let eight : length a.equations ≡ 8 = search rules in
    sym (ap (λ (q : Equation). eqb q.sign 1) (get_or-eq_default a.equations blank {n = a.e} (omega (arith, eight))))

pub returns : goal.returns
unfolding is_greatest
returns c = refl
