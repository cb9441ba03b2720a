-- `instances::body_of` meets its contract.
-- The part of the bodies from the equation's place on, 512 bytes or as many as there are.
use Prim.Native.Nat.{◌*◌, ◌/◌}
use Rattle.instances.proofs.Bodies.{part_cut}
use Rattle.instances.proofs.body_of.Goals as goal

pub returns : goal.returns
returns c =
    let a = c.args in
    part_cut a.bodies.now (a.w / 65536 * 512) 512
    (rw (← c.equation_number.ensures) c.min-first.ensures) c.min-end.ensures
