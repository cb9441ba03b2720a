-- The proof of the cycle of calls {System::solve}: the measure is the number of equations left.
-- The loop's invariant: so many turns were made, and the later equations are still at their first candidates.
use mathlib.Core.Path.{sym, ◌∙◌}
use native.Mathlib.Omega.{arith}
use borrow.Author.Rules.{rules}
use Rattle.truth.proofs.Bits.{same_bits}
use Rattle.instances.proofs.SystemLaws.{system_size, system_proper}
use Rattle.nested.proofs.Turns.{solved_none, no_turn, one_turn, all_turns, idle_turn}
use Rattle.nested.proofs.System.+solve.Goals as goal

pub returns-then-e-self : goal.returns-then-e-self
returns-then-e-self t c = solved_none _ c.if-e-self.true

pub loop-init : goal.loop-init
loop-init t c = (search rules, no_turn _ c.requires.1)

pub solve-inner-requires : goal.solve-inner-requires
solve-inner-requires t c =
    (omega arith, (omega arith, c.loop.invariant.1.unsolved))

-- a turn that changes nothing ends it
pub returns-then-same : goal.returns-then-same
returns-then-same t c =
    let loop = c.loop in
    let next = c.next_candidate-next in
    let alike = same_bits next.result loop.current (search rules) (search rules) (sym c.same.ensures ∙ c.if-same.true) in
    idle_turn loop.invariant.1 (omega arith) c.requires.1 c.solve-inner.ensures next.ensures alike

pub loop-preserved : goal.loop-preserved
loop-preserved t c =
    let loop = c.loop in
    let a = c.args.self in
    let size = system_size a.bodies.now a.equations a.table.now in (
      search rules,
      one_turn loop.invariant.1 c.solve-inner.ensures c.next_candidate-next.ensures
          (system_proper a.bodies.now a.equations a.table.now) (omega arith),
    )

pub solve-requires : goal.solve-requires
solve-requires t c =
    (omega arith, (omega arith, c.loop.invariant.1.unsolved))

-- as many turns as there are instances
pub returns : goal.returns
returns t c =
    let loop = c.loop in
    let a = c.args.self in
    let size = system_size a.bodies.now a.equations a.table.now in
    all_turns loop.invariant.1 (omega arith) c.requires.1 c.solve.ensures
    (omega (arith, loop.invariant.1.within))
