-- `printing::Frame::put` meets its contract.
-- There is room for the line, so it is written.
use native.Mathlib.Omega.{arith}
use mathlib.Core.Path.{◌≡◌}
use lib.ListN.{length, take}
use lib.Seq.{length-take-le}
use Rattle.frames.proofs.Stores.{line_puts}
use borrow.Author.Rules.{rules}
use Rattle.printing.proofs.Frame.put.Goals as goal

pub returns : goal.returns
returns c =
    let f = c.args.self in
    let eight : length f.bytes ≡ 8 = search rules in
    let n = length-take-le f.count f.bytes (omega arith) in
    line_puts c.args.out.now c.args.at (take f.count f.bytes) (omega arith) c.put_line.ensures
