-- `System::first_candidates` meets its contract.
-- The instances below j are at the constants of their equations' signs; each turn puts instance j, or passes it.
use native.Mathlib.Omega.{arith}
use Rattle.nested.proofs.Fill.{fill_none, fill_more, fill_skip, fill_done}
use Rattle.nested.proofs.Fill.{named_below, not_named_below, constant_is}
use Rattle.nested.proofs.System.first_candidates.Goals as goal
use Rattle.nested.proofs.System.first_candidates.Goals.{then-e-self, else-e-self}

pub loop-j-preserved : goal.loop-j-preserved
loop-j-preserved c =
    let a = c.args.self in
    let is = c.equation_number-e.ensures in
    elim c.if-e-self.branch [
      | then-e-self w ↦
          fill_more c.loop-j.invariant (omega arith) a.few_words (named_below a.table.now _ is w.if-e-self.true)
          (constant_is a.table.now _ is a.equations) w.put-put.ensures w.s-is
      | else-e-self w ↦
          fill_skip c.loop-j.invariant (omega arith) (not_named_below a.table.now _ is w.if-e-self.false) w.s-is
    ]

pub loop-j-init : goal.loop-j-init
loop-j-init c = fill_none c.none-s.ensures

pub returns : goal.returns
returns c = fill_done c.loop-j.invariant (omega arith)
