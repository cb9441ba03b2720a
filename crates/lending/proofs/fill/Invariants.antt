-- `lending::fill` meets its contract.
-- Before turn i the first i records are written, over as many as there were.
use mathlib.Core.Path.{◌≡◌}
use mathlib.Core.List.{map}
use Rattle.lending.specs.Records.{record_of}
use Rattle.lending.specs.Prepared.{overwritten}
use Rattle.lending.proofs.fill.Given as goal

abbrev pub invariant-loop-i : goal.invariant-loop-i
invariant-loop-i l = l.records ≡ overwritten l.i (map record_of l.model.equations) l.initial.records
