use Prim.Native.Nat.{◌-◌}
use lib.ListN.{length}
use Rattle.formulas.proofs.terms.+read_term.Given as goal

abbrev pub decreases-read_term : goal.decreases-read_term
decreases-read_term l = length l.body.now - l.at
