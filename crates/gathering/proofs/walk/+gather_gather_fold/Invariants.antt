-- The proof of the cycle of calls {gather, gather_fold}.
-- `gather` reads a code's kind: `head`, and each arm answers by the kind's law. `gather_fold` takes one value after the other.
use Prim.Native.Nat.{◌-◌, ◌+◌, ◌*◌}
use Rattle.formulas.specs.Tuples.{items}
use Rattle.prepared.specs.Prepared.{formula_there}
use Rattle.gathering.specs.Gathered.{store, GathersOver}
use Rattle.gathering.proofs.walk.+gather_gather_fold.Given as goal

abbrev pub decreases-gather : goal.decreases-gather
decreases-gather l = (256 - l.at) * 2

abbrev pub decreases-gather_fold : goal.decreases-gather_fold
decreases-gather_fold l = (256 - l.at) * 2 + 1

-- the values below i are gone through
abbrev pub invariant-gather_fold-loop-i : goal.invariant-gather_fold-loop-i
invariant-gather_fold-loop-i l =
    let f = formula_there l.body (l.scope.count + 1) l.at in
    GathersOver l.all l.i f (items l.scope) (store l.fn.table l.fn.found l.fn.reads) (store l.table l.found l.reads) l.a
