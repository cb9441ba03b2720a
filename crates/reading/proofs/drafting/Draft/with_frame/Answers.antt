-- `reading::with_frame` meets its contract.
-- A start is put where there was none.
use Rattle.reading.specs.Contract.{with_start}
use Rattle.reading.proofs.drafting.Draft.with_frame.Goals as goal

pub returns-in-2 : goal.returns-in-2
returns-in-2 c =
    unfold with_start in rw (
      ← c.element.ensures,
      c.in-2.is,
      c.start_record.ensures,
    )
