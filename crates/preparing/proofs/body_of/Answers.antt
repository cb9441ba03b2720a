-- `preparing::body_of` meets its contract.
-- It is cut after 256 bytes, and where the bodies end.
use Prim.Native.Nat.{◌*◌}
use Rattle.preparing.proofs.Parts.{body_cut}
use Rattle.preparing.proofs.body_of.Goals as goal

pub returns : goal.returns
returns c =
    let a = c.args in
    body_cut a.bodies.now (a.e * 256) a.size c.min-from.ensures c.min-room.ensures
    c.min-to.ensures
