-- `formulas::signatures_of` meets its contract.
-- The places below j are written; the last place was written first.
use Rattle.std.proofs.Common.{◌≡◌, length, arith, rules}
use Rattle.formulas.proofs.Signatures.{signed}
use Rattle.formulas.proofs.parameters.signatures_of.Goals as goal

pub returns : goal.returns
returns c =
    let eight : length c.args.equations ≡ 8 = search rules in
    signed _ _ c.loop-j.invariant (omega arith) eight
