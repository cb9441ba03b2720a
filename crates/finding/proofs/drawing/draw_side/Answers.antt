-- An instance is drawn: its own row, the rows of what it reads, that of its equation, and those of its shape.
-- Each call changes rows that lie apart; where there are no rows for it nothing is promised.
use native.Mathlib.Omega.{arith}
use mathlib.Core.Path.{◌≡◌, sym, ◌∙◌}
use mathlib.Core.Bool.{true}
use lib.ListN.{length}
use borrow.Author.Rules.{rules}
use Rattle.truth.proofs.RowLaws.{row_replaced}
use Rattle.gathering.specs.Shapes.{is_plain}
use Rattle.finding.specs.Drawn.{Notes}
use Rattle.finding.proofs.DrawingLaws.{noted_as, not_noted_as, side_drawn}
use Rattle.finding.proofs.drawing.draw_side.Goals as goal
use Rattle.finding.proofs.drawing.draw_side.Goals.{then-is_plain, else-is_plain}

pub returns-then-is_plain-2 : goal.returns-then-is_plain-2
returns-then-is_plain-2 c =
    let eight : length c.args.reads ≡ 8 = search rules in
    let and_row : Notes c.note.new.graph c.if-is_plain.graph 1032 c.args.j (is_plain true c.args.shape) =
    elim c.if-is_plain.branch [
      | then-is_plain w ↦ rw w.graph-is (noted_as w.note-then-is_plain.ensures (sym w.if-is_plain.true ∙ c.is_plain.ensures))
      | else-is_plain w ↦ rw w.graph-is (not_noted_as (sym w.if-is_plain.false ∙ c.is_plain.ensures))
    ] in
    record {
      size = search rules;
      drawn = λ into few.
          side_drawn (λ all. is_plain all c.args.shape) into few
          (row_replaced c.args.j c.args.reads eight (omega (arith, into.lent)) c.put_row.ensures)
          c.note_readers.ensures c.note.ensures and_row
          (noted_as c.note-then-is_plain-2.ensures (sym c.if-is_plain-2.true ∙ c.is_plain-2.ensures));
    }

pub returns-else-is_plain-2 : goal.returns-else-is_plain-2
returns-else-is_plain-2 c =
    let eight : length c.args.reads ≡ 8 = search rules in
    let and_row : Notes c.note.new.graph c.if-is_plain.graph 1032 c.args.j (is_plain true c.args.shape) =
    elim c.if-is_plain.branch [
      | then-is_plain w ↦ rw w.graph-is (noted_as w.note-then-is_plain.ensures (sym w.if-is_plain.true ∙ c.is_plain.ensures))
      | else-is_plain w ↦ rw w.graph-is (not_noted_as (sym w.if-is_plain.false ∙ c.is_plain.ensures))
    ] in
    record {
      size = search rules;
      drawn = λ into few.
          side_drawn (λ all. is_plain all c.args.shape) into few
          (row_replaced c.args.j c.args.reads eight (omega (arith, into.lent)) c.put_row.ensures)
          c.note_readers.ensures c.note.ensures and_row
          (not_noted_as (sym c.if-is_plain-2.false ∙ c.is_plain-2.ensures));
    }
