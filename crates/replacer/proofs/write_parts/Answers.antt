-- `replacer::write_parts` meets its contract.
-- What is put part after part, each from the place where the one before it ends, is put as a whole.
use Prim.Native.Nat.{◌+◌, ◌-◌, ◌*◌}
use native.Mathlib.Omega.{arith}
use mathlib.Core.Path.{sym}
use lib.ListN.{length, drop, length-drop}
use lib.Seq.{length-take-le, take_all}
use Rattle.replacer.proofs.PartsPut.{parts_put}
use Rattle.replacer.proofs.write_parts.Goals as goal

pub slice_bounds-put-end : goal.slice_bounds-put-end
slice_bounds-put-end c =
    sym (length-take-le c.args.e.place c.args.text.now (omega (arith, c.requires.0)))

pub returns : goal.returns
returns c =
    let text = c.args.text.now in
    let place = c.args.e.place in
    let from = place + (2 * c.args.e.length + 1) in
    let rest = take_all (length text - from) (drop from text) (omega (arith, length-drop from text)) in
    let first = length-take-le place text (omega (arith, c.requires.0)) in
    parts_put first c.put.ensures c.put_line-next.ensures c.put-2.ensures rest
    (omega (arith, length-drop from text, c.requires.0, c.requires.1))
