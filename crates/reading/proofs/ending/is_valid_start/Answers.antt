-- `reading::is_valid_start` meets its contract.
-- The start names an equation or not.
use native.Mathlib.Omega.{arith}
use mathlib.Core.Path.{◌∙◌}
use borrow.Author.Tests.{le-ltb}
use Rattle.reading.specs.Records.{model_told}
use Rattle.reading.proofs.Starts.{start_unnamed, start_named}
use Rattle.reading.proofs.ending.is_valid_start.Goals as goal

pub returns-then-i-m : goal.returns-then-i-m
returns-then-i-m c =
    start_named (model_told c.args.m) (omega arith) c.from-i.ensures c.if-i-m.true c.start_fits.ensures

pub returns-else-i-m : goal.returns-else-i-m
returns-else-i-m c =
    le-ltb _ _ c.if-i-m.false
    ∙ start_unnamed (model_told c.args.m) (omega arith) c.from-i.ensures c.if-i-m.false
