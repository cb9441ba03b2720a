-- `processes::is_summand` meets its contract.
-- The tests are those of `summand_tested`, one after the other; in reach are the parameters, then the own variables.
use mathlib.Core.Path.{◌≡◌, sym, ◌∙◌}
use borrow.Author.Rules.{rules}
use Rattle.formulas.specs.Tuples.{items}
use Rattle.processes.specs.SummandTests.{is_step_behind}
use Rattle.processes.proofs.SummandRead.{summand_many, summand_no_ranges, summand_rest}
use Rattle.processes.proofs.summands.is_summand.Goals as goal
use Rattle.processes.proofs.summands.is_summand.Goals.{then-own-gt4-via-then-own-gt4}
use Rattle.processes.proofs.summands.is_summand.Goals.{then-own-gt4-via-else-own-gt4+then-not-are_ranges}

pub returns-then-own-gt4 : goal.returns-then-own-gt4
returns-then-own-gt4 c =
    let own = c.from-own.ensures ∙ c.element.ensures in
    elim c.then-own-gt4.branch [
      | then-own-gt4-via-then-own-gt4 w ↦ summand_many _ _ c.requires own w.if-own-gt4.true
      | then-own-gt4-via-else-own-gt4+then-not-are_ranges w ↦
          summand_no_ranges _ _ c.requires own w.if-own-gt4.false (sym w.are_ranges.ensures ∙ w.if-not-are_ranges.true)
    ]

pub returns : goal.returns
returns c =
    let step : c.is_some_and.result
    ≡ is_step_behind c.args.frame.now c.condition_end-end.result (items c.with_ranges-scope.result)
    (items c.with_ranges-parameters.result) = search rules in
    summand_rest _ _ c.requires (c.from-own.ensures ∙ c.element.ensures) c.if-own-gt4.false
    (sym c.are_ranges.ensures ∙ c.if-not-are_ranges.false)
    c.with_ranges-parameters.ensures.0 c.with_ranges-scope.ensures.0 c.condition_end-end.ensures step
