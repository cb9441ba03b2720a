-- `preparing::mark` meets its contract.
-- What is written is the end of the code's parts, and that is past the place.
use Prim.Native.Nat.{◌≤◌, ◌<◌, min}
use native.Mathlib.Omega.{arith}
use mathlib.Core.Path.{◌≡◌}
use Rattle.preparing.specs.Ends.{parts_end}
use Rattle.preparing.proofs.CodeSteps.{width_few}
use Rattle.preparing.proofs.Marking.{parts_past, marked_more, end_found}
use Rattle.preparing.proofs.mark.Goals as goal

pub returns : goal.returns
returns c =
    let ended : let a = c.args in c.min-next.result ≡ min (parts_end a.body.now a.out.now a.at) 256 =
    let a = c.args in
    end_found a.body.now a.out.now a.at c.element-code.ensures
    c.element.ensures c.parts_of-parts.ensures c.width_of.ensures c.after-end.ensures
    c.min-next.ensures in
    marked_more c.requires.2 c.requires.0 c.requires.1 ended

pub overflow_add-at-2 : goal.overflow_add-at-2
overflow_add-at-2 c =
    let width : c.width_of.result ≤ 3 = rw c.width_of.ensures (width_few c.element-code.result).1 in
    omega (arith, width, c.requires.0, c.requires.1)

pub overflow_sub-out : goal.overflow_sub-out
overflow_sub-out c =
    let ended : let a = c.args in c.min-next.result ≡ min (parts_end a.body.now a.out.now a.at) 256 =
    let a = c.args in
    end_found a.body.now a.out.now a.at c.element-code.ensures
    c.element.ensures c.parts_of-parts.ensures c.width_of.ensures c.after-end.ensures
    c.min-next.ensures in
    let past : c.args.at < c.min-next.result =
    omega (arith, ended, c.requires.0, c.requires.1, parts_past c.requires.2 c.requires.0 c.requires.1) in
    omega (arith, past)

pub overflow_sub-out-2 : goal.overflow_sub-out-2
overflow_sub-out-2 c =
    let ended : let a = c.args in c.min-next.result ≡ min (parts_end a.body.now a.out.now a.at) 256 =
    let a = c.args in
    end_found a.body.now a.out.now a.at c.element-code.ensures
    c.element.ensures c.parts_of-parts.ensures c.width_of.ensures c.after-end.ensures
    c.min-next.ensures in
    let past : c.args.at < c.min-next.result =
    omega (arith, ended, c.requires.0, c.requires.1, parts_past c.requires.2 c.requires.0 c.requires.1) in
    omega (arith, past)
