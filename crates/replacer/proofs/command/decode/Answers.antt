-- `replacer::command::decode` meets its contract.
-- The bytes before the present one are there.
use native.Mathlib.Omega.{arith}
use mathlib.Core.Path.{◌≡◌}
use Rattle.replacer.proofs.CommandWords.{decoded_more}
use Rattle.replacer.proofs.command.decode.Goals as goal

pub loop-i-preserved : goal.loop-i-preserved
loop-i-preserved c = decoded_more _ _ _ _ c.loop-i.invariant (omega arith) (omega arith) c.byte.ensures

pub returns : goal.returns
returns c =
    let loop = c.loop-i in
    let all : loop.i ≡ c.min-count.result = omega arith in
    record { counted = c.min-count.ensures; long = loop.auto.list; decoded = rw all at loop.invariant }
