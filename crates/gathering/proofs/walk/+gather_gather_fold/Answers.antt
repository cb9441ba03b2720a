-- The proof of the cycle of calls {gather, gather_fold}.
-- `gather` reads a code's kind: `head`, and each arm answers by the kind's law. `gather_fold` takes one value after the other.
use Prim.Native.Nat.{◌+◌}
use native.Mathlib.Omega.{arith}
use mathlib.Core.Path.{◌≡◌, sym, ◌∙◌}
use mathlib.Core.Bool.{false}
use lib.ListN.{length}
use lib.Seq.{length-take-le}
use borrow.Author.Rules.{rules}
use Rattle.meaning.proofs.Typed.{range_positive}
use Rattle.formulas.specs.Tuples.{items}
use Rattle.prepared.proofs.Steps.{end_on, formula_past}
use Rattle.evaluator.proofs.FormulaLaws.{head}
use Rattle.gathering.proofs.GatheringLaws as law
use Rattle.gathering.proofs.walk.+gather_gather_fold.Goals as goal
use Rattle.gathering.proofs.walk.+gather_gather_fold.Goals.{gather-then-scope-ge8-via-then-scope-ge8 as no_place}
use Rattle.gathering.proofs.walk.+gather_gather_fold.Goals.{gather-then-scope-ge8-via-else-scope-ge8+then-not-is_range as other}

pub gather-returns-then-at-ge256 : goal.gather-returns-then-at-ge256
gather-returns-then-at-ge256 t c =
    rw c.alone.ensures (law.gather_constant _ false c.requires (formula_past _ _ _ c.if-at-ge256.true))

pub gather-returns-in_default : goal.gather-returns-in_default
gather-returns-in_default t c =
    let h = head c.if-at-ge256.false c.byte_at.ensures c.kind_of.ensures c.in_default.is in
    rw c.alone-in_default.ensures (law.gather_none h _ _ c.requires)

pub gather-returns-in-Constant : goal.gather-returns-in-Constant
gather-returns-in-Constant t c =
    let h = head c.if-at-ge256.false c.byte_at.ensures c.kind_of.ensures c.in-Some.is in
    rw c.alone-in-Constant.ensures (law.gather_known h _ _ c.in-Constant.is c.requires)

pub gather-returns-in-Compare : goal.gather-returns-in-Compare
gather-returns-in-Compare t c =
    let h = head c.if-at-ge256.false c.byte_at.ensures c.kind_of.ensures c.in-Some.is in
    rw c.test_at-a.ensures (law.gather_compare h _ _ c.in-Compare.is c.requires)

-- ---- a join
pub gather-returns-then-decides : goal.gather-returns-then-decides
gather-returns-then-decides t c =
    let h = head c.if-at-ge256.false c.byte_at.ensures c.kind_of.ensures c.in-Some.is in
    law.gather_first h _ _ c.in-Join.is c.gather-first.ensures (sym c.decides.ensures ∙ c.if-decides.true)

-- the second part is further on
pub gather-gather-part-requires : goal.gather-gather-part-requires
gather-gather-part-requires t c =
    let a = c.args in
    (omega (arith, c.end_at.ensures, end_on a.body.now (a.at + 1)), omega (arith, c.gather-first.ensures.within))

pub gather-returns-else-decides : goal.gather-returns-else-decides
gather-returns-else-decides t c =
    let h = head c.if-at-ge256.false c.byte_at.ensures c.kind_of.ensures c.in-Some.is in
    rw (c.take_back.ensures.0, c.take_back.ensures.1, c.joined-part.ensures)
    (law.gather_join h _ _ c.in-Join.is c.gather-first.ensures c.end_at.ensures c.requires c.gather-part.ensures)

-- the table is as long as before
-- ---- a quantifier
pub gather-returns-then-scope-ge8 : goal.gather-returns-then-scope-ge8
gather-returns-then-scope-ge8 t c =
    let h = head c.if-at-ge256.false c.byte_at.ensures c.kind_of.ensures c.in-Some.is in
    let is = c.in-Quantifier.is in
    rw c.alone-then-scope-ge8.ensures (elim c.then-scope-ge8.branch [
      | no_place w ↦ law.gather_unplaced h _ _ is c.requires w.if-scope-ge8.true
      | other w ↦ law.gather_unranged h _ _ is c.requires w.if-scope-ge8.false c.byte_at-r.ensures
          (sym w.is_range.ensures ∙ w.if-not-is_range.true)
    ])

pub gather-gather_fold-part-requires : goal.gather-gather_fold-part-requires
gather-gather_fold-part-requires t c =
    let some = range_positive c.byte_at-r.result (sym c.is_range.ensures ∙ c.if-not-is_range.false) in
    (omega arith, (c.requires, some, c.if-scope-ge8.false))

pub gather-returns-else-not-is_range : goal.gather-returns-else-not-is_range
gather-returns-else-not-is_range t c =
    let h = head c.if-at-ge256.false c.byte_at.ensures c.kind_of.ensures c.in-Some.is in
    let range = sym c.is_range.ensures ∙ c.if-not-is_range.false in
    rw (c.take_back-in-Quantifier.ensures.0, c.take_back-in-Quantifier.ensures.1)
    (law.gather_quantifier h _ _ c.in-Quantifier.is c.requires c.if-scope-ge8.false c.byte_at-r.ensures range
    c.gather_fold-part.ensures)

-- ---- an instance
pub gather-returns-in-Instance : goal.gather-returns-in-Instance
gather-returns-in-Instance t c =
    let h = head c.if-at-ge256.false c.byte_at.ensures c.kind_of.ensures c.in-Some.is in
    law.gather_instance h _ _ c.in-Instance.is c.gather_instance.ensures

-- ---- the values of a quantified variable
pub gather_fold-loop-i-init : goal.gather_fold-loop-i-init
gather_fold-loop-i-init t c =
    let p = c.push.ensures.1 (omega (arith, c.requires.2)) in
    law.gather_one _ _ (rw (p.1, p.0) at c.gather-a.ensures)

pub gather_fold-returns-then-decides : goal.gather_fold-returns-then-decides
gather_fold-returns-then-decides t c =
    law.gather_decided _ _ (omega arith) c.loop-i.invariant (omega arith) (sym c.decides.ensures ∙ c.if-decides.true)

pub gather_fold-returns-then-not-looks_at : goal.gather_fold-returns-then-not-looks_at
gather_fold-returns-then-not-looks_at t c =
    let in_reach : length (items c.args.scope) ≡ c.args.scope.count =
    let scope = c.args.scope in
    let eight : length scope.values ≡ 8 = search rules in
    length-take-le scope.count scope.values (omega (arith, eight, c.requires.2)) in
    rw c.joined.ensures
    (law.gather_copies _ _ (omega arith) c.loop-i.invariant (omega arith) (sym c.decides.ensures ∙ c.if-decides.false)
    (rw in_reach (sym c.looks_at.ensures ∙ c.if-not-looks_at.true)))

pub gather_fold-gather-b-requires : goal.gather_fold-gather-b-requires
gather_fold-gather-b-requires t c = (omega arith, omega (arith, c.loop-i.invariant.within))

pub gather_fold-loop-i-preserved : goal.gather_fold-loop-i-preserved
gather_fold-loop-i-preserved t c =
    let p = c.push-in-loop-i.ensures.1 (omega (arith, c.requires.2)) in
    rw c.joined-a.ensures (law.gather_next _ _ (omega arith) c.loop-i.invariant (rw (p.1, p.0) at c.gather-b.ensures))

-- all values are gone through
pub gather_fold-returns : goal.gather_fold-returns
gather_fold-returns t c =
    let end : c.loop-i.i ≡ c.args.r = omega arith in
    rw end at c.loop-i.invariant
