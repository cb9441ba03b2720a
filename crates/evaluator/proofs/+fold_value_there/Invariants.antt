-- The proof of the cycle of calls {fold, value_there}.
-- `value_there` reads a code's kind: `head`, and each arm answers by the kind's law. `fold` joins one value after the other.
use Prim.Native.Nat.{◌-◌, ◌+◌, ◌*◌}
use Rattle.truth.specs.Bits.{bit_of}
use Rattle.formulas.specs.Tuples.{items}
use Rattle.prepared.specs.Prepared.{formula_there}
use Rattle.evaluator.specs.Values.{value_in}
use Rattle.evaluator.specs.Folds.{FoldValued}
use Rattle.evaluator.proofs.+fold_value_there.Given as goal

abbrev pub decreases-fold : goal.decreases-fold
decreases-fold l = (256 - l.at) * 2 + 1

-- the values below i are gone through
abbrev pub invariant-fold-loop-i : goal.invariant-fold-loop-i
invariant-fold-loop-i l =
    FoldValued l.all l.i (formula_there l.body (l.scope.count + 1) l.at) (value_in l.table (bit_of l.truth)) (items l.scope) l.a

abbrev pub decreases-value_there : goal.decreases-value_there
decreases-value_there l = (256 - l.at) * 2
