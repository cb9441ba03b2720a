-- `reading::judge_start` meets its contract.
-- The tests of the code are those of the definition, in its order.
use mathlib.Core.Path.{refl}
use native.Mathlib.Omega.{arith}
use borrow.Author.Tests.{lt-ltb, lt-leb, le-leb}
use Rattle.reading.specs.Reading.{start_refusal}
use Rattle.reading.proofs.judging.judge_start.Goals as goal

pub returns-then-started : goal.returns-then-started
unfolding start_refusal
returns-then-started c = grind (arith, c.then-started.either)

pub returns-then-frame-lt2 : goal.returns-then-frame-lt2
unfolding start_refusal
returns-then-frame-lt2 c =
    rw (c.if-started.false, lt-ltb 0 c.args.count (omega arith), lt-leb 2 _ c.if-frame-lt2.true) refl

pub returns : goal.returns
unfolding start_refusal
returns c = rw (c.if-started.false, lt-ltb 0 c.args.count (omega arith), le-leb 2 _ c.if-frame-lt2.false) refl
