-- `formulas::read_arguments` meets its contract.
-- The invariant: what is told of the arguments that are left is told of all.
use Rattle.formulas.specs.Tuples.{items}
use Rattle.formulas.proofs.Fitting.{Arguments}
use Rattle.formulas.proofs.read_arguments.Given as goal

abbrev pub invariant-loop-j : goal.invariant-loop-j
invariant-loop-j l = Arguments l.body l.scope.count l.at l.c l.signatures l.first l.fits (items l.scope) l.next l.j l.found
