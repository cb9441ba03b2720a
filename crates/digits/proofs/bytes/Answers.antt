-- `digits::bytes` meets its contract.
-- The places below i are filled.
use native.Mathlib.Omega.{arith}
use Rattle.digits.proofs.Pairs.{length_bytes}
use Rattle.digits.proofs.Filled.{filling_start, filling_more, all_filled}
use Rattle.digits.proofs.bytes.Goals as goal

pub loop-i-init : goal.loop-i-init
loop-i-init c = filling_start _

pub loop-i-preserved : goal.loop-i-preserved
loop-i-preserved c =
    filling_more _ (omega (arith, c.min-count.ensures, length_bytes c.args.characters.now))
    c.byte.ensures c.loop-i.invariant

pub returns : goal.returns
returns c =
    all_filled _ (omega (arith, c.min-count.ensures, length_bytes c.args.characters.now)) c.loop-i.invariant
