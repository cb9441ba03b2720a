-- `formulas::signatures_of` meets its contract.
-- The places below j are written; the last place was written first.
use Rattle.formulas.proofs.Signatures.{Signing}
use Rattle.formulas.proofs.parameters.signatures_of.Given as goal

abbrev pub invariant-loop-j : goal.invariant-loop-j
invariant-loop-j l = Signing l.equations l.count l.table l.j
