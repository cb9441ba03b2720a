-- The proof of the cycle of calls {fold, value_there}.
-- `value_there` reads a code's kind: `head`, and each arm answers by the kind's law. `fold` joins one value after the other.
use Prim.Native.Nat.{◌+◌}
use native.Mathlib.Omega.{arith}
use mathlib.Core.Path.{◌≡◌, sym, ◌∙◌}
use lib.ListN.{length}
use lib.Seq.{length-take-le}
use borrow.Author.Rules.{rules}
use Rattle.meaning.proofs.Typed.{range_positive}
use Rattle.formulas.specs.Tuples.{items}
use Rattle.prepared.proofs.Steps.{end_on}
use Rattle.evaluator.proofs.FormulaLaws as law
use Rattle.evaluator.proofs.FormulaLaws.{head}
use Rattle.evaluator.proofs.+fold_value_there.Goals as goal
use Rattle.evaluator.proofs.+fold_value_there.Goals.{value_there-then-scope-ge8-via-then-scope-ge8 as no_place}
use Rattle.evaluator.proofs.+fold_value_there.Goals.{value_there-then-scope-ge8-via-else-scope-ge8+then-not-is_range as no_range}

pub value_there-returns-then-at-ge256 : goal.value_there-returns-then-at-ge256
value_there-returns-then-at-ge256 t c =
    rw c.alone.ensures (law.past_formula _ _ _ c.if-at-ge256.true)

pub value_there-returns-in_default : goal.value_there-returns-in_default
value_there-returns-in_default t c =
    let h = head c.if-at-ge256.false c.byte_at.ensures c.kind_of.ensures c.in_default.is in
    rw c.alone-in_default.ensures (law.no_formula h _)

pub value_there-returns-in-Constant : goal.value_there-returns-in-Constant
value_there-returns-in-Constant t c =
    let h = head c.if-at-ge256.false c.byte_at.ensures c.kind_of.ensures c.in-Some.is in
    rw c.alone-in-Constant.ensures (law.a_constant h _ c.in-Constant.is)

pub value_there-returns-then-decides : goal.value_there-returns-then-decides
value_there-returns-then-decides t c =
    let h = head c.if-at-ge256.false c.byte_at.ensures c.kind_of.ensures c.in-Some.is in
    law.join_decided h _ c.in-Join.is c.value_there-a.ensures (sym c.decides.ensures ∙ c.if-decides.true)

-- the second part is further on
pub value_there-value_there-b-requires : goal.value_there-value_there-b-requires
value_there-value_there-b-requires t c =
    let a = c.args in
    (omega (arith, c.end_at.ensures, end_on a.body.now (a.at + 1)), tt)

pub value_there-returns-else-decides : goal.value_there-returns-else-decides
value_there-returns-else-decides t c =
    let h = head c.if-at-ge256.false c.byte_at.ensures c.kind_of.ensures c.in-Some.is in
    rw c.joined.ensures (law.a_join h _ c.in-Join.is c.value_there-a.ensures c.end_at.ensures c.value_there-b.ensures)

pub value_there-returns-then-scope-ge8 : goal.value_there-returns-then-scope-ge8
value_there-returns-then-scope-ge8 t c =
    let h = head c.if-at-ge256.false c.byte_at.ensures c.kind_of.ensures c.in-Some.is in
    let is = c.in-Quantifier.is in
    rw c.alone-then-scope-ge8.ensures (elim c.then-scope-ge8.branch [
      | no_place w ↦ law.no_place h _ is w.if-scope-ge8.true
      | no_range w ↦
          law.no_range h _ is w.if-scope-ge8.false c.byte_at-r.ensures (sym w.is_range.ensures ∙ w.if-not-is_range.true)
    ])

pub value_there-fold-requires : goal.value_there-fold-requires
value_there-fold-requires t c =
    let more = range_positive c.byte_at-r.result (sym c.is_range.ensures ∙ c.if-not-is_range.false) in
    (omega arith, (more, c.if-scope-ge8.false))

pub value_there-returns-else-not-is_range : goal.value_there-returns-else-not-is_range
value_there-returns-else-not-is_range t c =
    let h = head c.if-at-ge256.false c.byte_at.ensures c.kind_of.ensures c.in-Some.is in
    law.a_quantifier h _ c.in-Quantifier.is c.if-scope-ge8.false c.byte_at-r.ensures
    (sym c.is_range.ensures ∙ c.if-not-is_range.false) c.fold.ensures

pub value_there-returns-in-Compare : goal.value_there-returns-in-Compare
value_there-returns-in-Compare t c =
    let h = head c.if-at-ge256.false c.byte_at.ensures c.kind_of.ensures c.in-Some.is in
    rw c.test_at-a.ensures (law.a_comparison h _ c.in-Compare.is)

pub value_there-returns-in-Instance : goal.value_there-returns-in-Instance
value_there-returns-in-Instance t c =
    let h = head c.if-at-ge256.false c.byte_at.ensures c.kind_of.ensures c.in-Some.is in
    rw (c.value_of.ensures, c.word_at-a.ensures) (law.an_instance h _ c.in-Instance.is)

pub fold-loop-i-init : goal.fold-loop-i-init
fold-loop-i-init t c =
    let p = c.push.ensures.1 (omega (arith, c.requires.1)) in
    law.the_first _ _ (rw (p.1, p.0) at c.value_there-a.ensures)

pub fold-returns-then-decides : goal.fold-returns-then-decides
fold-returns-then-decides t c =
    law.these_decide _ _ (omega arith) c.loop-i.invariant (omega arith) (sym c.decides.ensures ∙ c.if-decides.true)

pub fold-returns-then-not-looks_at : goal.fold-returns-then-not-looks_at
fold-returns-then-not-looks_at t c =
    let in_reach : length (items c.args.scope) ≡ c.args.scope.count =
    let scope = c.args.scope in
    let eight : length scope.values ≡ 8 = search rules in
    length-take-le scope.count scope.values (omega (arith, eight, c.requires.1)) in
    law.not_looked_at _ _ (omega arith) c.loop-i.invariant (omega arith)
    (rw in_reach (sym c.looks_at.ensures ∙ c.if-not-looks_at.true))

pub fold-loop-i-preserved : goal.fold-loop-i-preserved
fold-loop-i-preserved t c =
    let p = c.push-in-loop-i.ensures.1 (omega (arith, c.requires.1)) in
    rw c.joined-a.ensures (law.the_next _ _ (omega arith) c.loop-i.invariant (rw (p.1, p.0) at c.value_there-b.ensures))

-- all values are gone through
pub fold-returns : goal.fold-returns
fold-returns t c =
    let end : c.loop-i.i ≡ c.args.r = omega arith in
    rw end at c.loop-i.invariant
