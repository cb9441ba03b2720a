-- `scans::next_matching` meets its contract.
-- The places that were passed do not match.
use Rattle.scans.proofs.Matching.{unmatched_start, unmatched_more, first_matched, none_matched}
use Rattle.scans.proofs.summands.next_matching.Goals as goal

pub returns-then-is_match-clause-first : goal.returns-then-is_match-clause-first
returns-then-is_match-clause-first c =
    first_matched c.loop-slot.invariant c.loop-slot-test.true c.from.ensures c.is_match.ensures c.if-is_match.true

pub loop-slot-preserved : goal.loop-slot-preserved
loop-slot-preserved c =
    unmatched_more c.loop-slot.invariant c.loop-slot-test.true c.from.ensures c.is_match.ensures c.if-is_match.false

pub loop-slot-init : goal.loop-slot-init
loop-slot-init c = unmatched_start _ _ _ _

pub returns-clause-first : goal.returns-clause-first
returns-clause-first c = none_matched c.loop-slot.invariant c.loop-slot-test.false
