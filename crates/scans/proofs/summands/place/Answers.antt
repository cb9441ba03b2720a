-- `scans::place` meets its contract.
-- Its three cases: the action behind the condition, the first term behind the action, a term behind a term.
use native.Mathlib.Omega.{arith}
use mathlib.Core.Path.{ap, ◌∙◌}
use Prim.Native.Nat.{ℕ, ◌+◌, ◌%◌}
use Rattle.scans.proofs.PlacesTold.{action_told, first_told, next_told}
use Rattle.scans.proofs.summands.place.Goals as goal

pub returns-in-0 : goal.returns-in-0
returns-in-0 c =
    action_told c.in-0.is c.part_end.ensures
    (ap (λ (n : ℕ). 2 + n) (c.from-own.ensures ∙ c.element.ensures)) c.as_byte.ensures

pub returns-in-1 : goal.returns-in-1
returns-in-1 c =
    let last = c.from-before.ensures in
    first_told c.in-1.is (c.as_byte-in-1.ensures ∙ ap (λ (n : ℕ). (n + 1) % 256) last)

pub returns-in_default : goal.returns-in_default
returns-in_default c =
    let last = c.from-before.ensures in
    next_told {i = c.args.i} (λ h. omega arith) (λ h. omega arith) c.part_end-in_default.ensures last c.as_byte-in_default.ensures
