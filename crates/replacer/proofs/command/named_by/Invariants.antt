-- `replacer::command::named_by` meets its contract.
-- What the digits say that are left, behind the number so far, is what all of them say.
use Prim.Native.Nat.{◌≤◌, min}
use mathlib.Core.Path.{◌≡◌}
use lib.ListN.{drop}
use Rattle.replacer.specs.Printed.{decimal_behind}
use Rattle.replacer.specs.Contract.{named_by}
use Rattle.replacer.proofs.command.named_by.Given as goal

abbrev pub invariant-loop-c : goal.invariant-loop-c
invariant-loop-c l = record {
  low : l.n ≤ 8;
  left : min (decimal_behind l.n (drop l.c-index l.word)) 8 ≡ named_by l.word;
}
