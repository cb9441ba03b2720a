-- `processes::is_process` meets its contract.
-- Each test is one of the definition's; a test that fails decides.
use mathlib.Core.Path.{sym, ◌∙◌}
use Rattle.processes.proofs.FrameTests.{process_many, process_size, process_rest}
use Rattle.processes.proofs.summands.is_process.Goals as goal
use Rattle.processes.proofs.summands.is_process.Goals.{then-count-gt4-via-then-count-gt4}
use Rattle.processes.proofs.summands.is_process.Goals.{then-count-gt4-via-else-count-gt4+then-frame-count}

pub returns-then-count-gt4 : goal.returns-then-count-gt4
returns-then-count-gt4 c =
    let same = c.from-count.ensures ∙ c.element.ensures in
    elim c.then-count-gt4.branch [
      | then-count-gt4-via-then-count-gt4 w ↦ process_many _ same w.if-count-gt4.true
      | then-count-gt4-via-else-count-gt4+then-frame-count w ↦
          process_size _ same w.if-count-gt4.false w.if-frame-count.true
    ]

pub returns-then-are_ranges : goal.returns-then-are_ranges
returns-then-are_ranges c =
    let same = c.from-count.ensures ∙ c.element.ensures in
    let rest = process_rest _ same c.if-count-gt4.false c.if-frame-count.false in
    c.are_below.ensures ∙ (rw (sym c.are_ranges.ensures ∙ c.if-are_ranges.true) at rest)

pub returns-else-are_ranges : goal.returns-else-are_ranges
returns-else-are_ranges c =
    let same = c.from-count.ensures ∙ c.element.ensures in
    let rest = process_rest _ same c.if-count-gt4.false c.if-frame-count.false in
    c.if-are_ranges.false ∙ (rw (sym c.are_ranges.ensures ∙ c.if-are_ranges.false) at rest)
