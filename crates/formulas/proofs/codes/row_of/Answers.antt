-- `formulas::row_of` meets its contract.
-- The table's rows are the definition's, one by one; before and past the table stands no row.
use Rattle.std.proofs.Common.{arith}
use Rattle.formulas.proofs.Columns.{in_rows, no_rows}
use Rattle.formulas.proofs.codes.row_of.Goals as goal

pub returns-then-code-le35 : goal.returns-then-code-le35
returns-then-code-le35 c = in_rows c.args.code c.from.result (omega arith) (omega arith)

pub returns-else-code-ge16 : goal.returns-else-code-ge16
returns-else-code-ge16 c = no_rows c.args.code c.else-code-ge16.either
