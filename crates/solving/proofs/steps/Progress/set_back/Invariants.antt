-- `Progress::set_back` meets its contract: each turn the last instance of the equation that is not at w goes back.
-- The next one is before it, and at the end there is none.
use Rattle.truth.specs.Bits.{bit_of}
use Rattle.truth.specs.Rows.{row_of}
use Rattle.truth.proofs.RowLaws.{unlike_left}
use Rattle.instances.specs.Graph.{members_row}
use Rattle.solving.proofs.StepLaws.{Going}
use Rattle.solving.proofs.steps.Progress.set_back.Given as goal

abbrev pub invariant-loop-j : goal.invariant-loop-j
invariant-loop-j l = Going l.graph l.m l.w l.initial.s l.s

abbrev pub decreases-loop-j : goal.decreases-loop-j
decreases-loop-j l = unlike_left (row_of l.graph (members_row l.m)) (bit_of l.s.truth) l.w
