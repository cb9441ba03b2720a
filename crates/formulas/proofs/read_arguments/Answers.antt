-- `formulas::read_arguments` meets its contract.
-- One argument more is compared, or there are not so many.
use Rattle.std.proofs.Common.{◌≡◌, ◌&&◌, get_or, leb, arith, ◌∙◌}
use Rattle.formulas.proofs.Fitting.{arguments_start, arguments_stop, arguments_more, arguments_end}
use Rattle.formulas.proofs.read_arguments.Goals as goal
use Rattle.formulas.proofs.read_arguments.Goals.{then-found, else-found}

pub loop-j-init : goal.loop-j-init
loop-j-init c = arguments_start

pub returns-in_err-a : goal.returns-in_err-a
returns-in_err-a c =
    rw c.from_residual.ensures (arguments_stop c.loop-j.invariant (omega arith) c.in_err-a.ensures)

pub loop-j-preserved : goal.loop-j-preserved
loop-j-preserved c =
    let compared : c.if-found.found ≡ c.loop-j.found && leb c.in_ok-a.a.found (get_or c.args.signatures.now c.loop-j.j 0) =
    elim c.if-found.branch [
      | then-found w ↦ rw (w.if-found.true, ← w.element.ensures) w.found-is
      | else-found w ↦ rw w.if-found.false (w.found-is ∙ w.if-found.false)
    ] in
    arguments_more c.loop-j.invariant (omega arith) c.in_ok-a.ensures compared

pub returns : goal.returns
returns c = arguments_end c.loop-j.invariant (omega arith)
