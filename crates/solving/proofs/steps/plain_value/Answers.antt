-- `steps::plain_value` meets its contract: the code is the definition.
-- The test tells whether the row has a number at which the set is not `all`.
use mathlib.Core.Path.{◌≡◌, refl, sym}
use native.Mathlib.Omega.{arith}
use borrow.Author.Tests.{eq-eqb, ne_eqb}
use Rattle.truth.specs.Bits.{bit_of}
use Rattle.truth.specs.Rows.{row_of, unlike_in, last_below}
use Rattle.solving.proofs.steps.plain_value.Goals as goal

pub returns-in-None : goal.returns-in-None
returns-in-None c = rw (eq-eqb _ 512 (sym c.in-None.ensures.number)) refl

pub returns-in-Some : goal.returns-in-Some
returns-in-Some c =
    let a = c.args in
    let last = c.in-Some.ensures in
    let k = last_below 512 (unlike_in (row_of a.graph.now a.j) (bit_of a.t) a.all) in
    let some : k ≡ 512 → ⊥ = λ e. omega (arith, last.number, last.small) in
    rw (ne_eqb k 512 some) refl
