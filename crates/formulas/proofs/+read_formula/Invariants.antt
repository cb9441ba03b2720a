use Prim.Native.Nat.{◌+◌, ◌-◌, ◌/◌}
use Rattle.formulas.proofs.+read_formula.Given as goal

abbrev pub decreases-read_formula : goal.decreases-read_formula
decreases-read_formula l = (l.limit - l.at + 1) / 2
