-- `replacer::command::is_number` meets its contract.
-- Every character of the word is asked whether it is a decimal digit.
use native.Mathlib.Omega.{arith}
use mathlib.Core.Path.{sym, ◌∙◌}
use lib.ListN.{length}
use borrow.Author.Tests.{eqb-false, le-leb, tests}
use Rattle.std.proofs.Common.{rules}
use Rattle.std.proofs.lemmas.Iterator.{YieldsList-from_slice}
use Rattle.std.proofs.lemmas.Iterator.Search.{all_from_yields_List}
use Rattle.replacer.specs.Printed.{is_decimal}
use Rattle.replacer.proofs.CommandWords.{all_told}
use Rattle.replacer.proofs.command.is_number.Goals as goal

pub returns-then-not-is_empty : goal.returns-then-not-is_empty
returns-then-not-is_empty c =
    let w = c.args.word.now in
    let all = all_from_yields_List is_decimal _ _ c.all.result c.all.ensures.ran (YieldsList-from_slice w cc)
    (λ x b q k. search (rules, tests)) in
    let some = eqb-false (length w) 0 (sym c.is_empty.ensures ∙ c.if-not-is_empty.true) in
    rw (le-leb 1 (length w) (omega (arith, some))) (all ∙ all_told w)
