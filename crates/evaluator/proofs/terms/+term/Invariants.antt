-- The proof of the cycle of calls {term}.
-- `term` reads the byte behind a code and the code's kind: `head`. Each arm answers by the kind's law.
use Prim.Native.Nat.{◌-◌}
use Rattle.evaluator.proofs.terms.+term.Given as goal

abbrev pub decreases-term : goal.decreases-term
decreases-term l = 256 - l.at
