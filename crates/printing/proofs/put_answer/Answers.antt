-- `printing::put_answer` meets its contract.
-- On a refusal one line, on a verdict the instances' lines and the verdict's after them.
use lib.ListN.{take, length-take}
use native.Mathlib.Omega.{arith}
use Rattle.printing.proofs.Stores.{lines_short, told}
use Rattle.printing.proofs.put_answer.Goals as goal

pub put-requires : goal.put-requires
put-requires c =
    let printable = rw c.in-Ok.is at c.requires.0 in
    let e = c.in-Ok.e in
    let short = lines_short e.model.equations e.answer.truth 0 (take e.answer.reached c.args.words.now) in
    let put = c.put_instances-at in (
      omega (arith, c.from.ensures.1),
      omega (
        arith,
        c.from.ensures.1,
        put.ensures.0,
        put.auto.out,
        short,
        length-take e.answer.reached c.args.words.now,
        printable.1.few printable.0,
        c.requires.1,
      ),
    )

pub returns-in-Ok : goal.returns-in-Ok
returns-in-Ok c =
    rw c.in-Ok.is (told _ _ _ _ c.put_instances-at.ensures (rw c.from.ensures.0 at c.put.ensures))
