-- The proof of the cycle of calls {term}.
-- `term` reads the byte behind a code and the code's kind: `head`. Each arm answers by the kind's law.
use Prim.Native.Nat.{◌+◌}
use native.Mathlib.Omega.{arith}
use mathlib.Core.Path.{sym, ◌∙◌}
use Rattle.meaning.proofs.Typed.{range_positive}
use Rattle.prepared.proofs.Steps.{end_on}
use Rattle.evaluator.proofs.TermLaws as law
use Rattle.evaluator.proofs.TermLaws.{head}
use Rattle.evaluator.proofs.terms.+term.Goals as goal

pub returns-then-at-ge256 : goal.returns-then-at-ge256
returns-then-at-ge256 t c = rw c.alone.ensures (law.past_term _ _ c.if-at-ge256.true)

pub returns-in_default : goal.returns-in_default
returns-in_default t c =
    let h = head c.if-at-ge256.false c.byte_at.ensures c.term_kind_of.ensures c.in_default.is in
    rw c.alone-in_default.ensures (law.no_term h)

pub returns-in-Number : goal.returns-in-Number
returns-in-Number t c =
    let h = head c.if-at-ge256.false c.byte_at.ensures c.term_kind_of.ensures c.in-Some.is in
    rw c.alone-in-Number.ensures (law.a_number h c.byte_at-x.ensures c.in-Number.is)

pub returns-in-Variable : goal.returns-in-Variable
returns-in-Variable t c =
    let h = head c.if-at-ge256.false c.byte_at.ensures c.term_kind_of.ensures c.in-Some.is in
    law.a_variable h c.byte_at-x.ensures c.in-Variable.is c.item.ensures c.only.ensures

pub returns-then-not-is_range : goal.returns-then-not-is_range
returns-then-not-is_range t c =
    let h = head c.if-at-ge256.false c.byte_at.ensures c.term_kind_of.ensures c.in-Some.is in
    rw c.alone-then-not-is_range.ensures (law.no_range h c.byte_at-x.ensures c.in-Calculation.is
    (sym c.is_range.ensures ∙ c.if-not-is_range.true))

pub returns-else-not-is_range : goal.returns-else-not-is_range
returns-else-not-is_range t c =
    let h = head c.if-at-ge256.false c.byte_at.ensures c.term_kind_of.ensures c.in-Some.is in
    let range = sym c.is_range.ensures ∙ c.if-not-is_range.false in
    law.a_calculation h c.byte_at-x.ensures c.in-Calculation.is range
    c.end_at.ensures c.term-a.ensures c.term-b.ensures
    c.calculate.ensures c.both.ensures

-- a range is not 0
pub calculate-requires : goal.calculate-requires
calculate-requires t c = range_positive _ (sym c.is_range.ensures ∙ c.if-not-is_range.false)

-- the second term is further on
pub term-b-requires : goal.term-b-requires
term-b-requires t c =
    let h = head c.if-at-ge256.false c.byte_at.ensures c.term_kind_of.ensures c.in-Some.is in
    (omega (arith, h.inside, c.end_at.ensures, end_on c.args.body.now (c.args.at + 2)), tt)
