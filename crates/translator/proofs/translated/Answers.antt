-- `translator::translated` meets its contract.
-- The input's refusal, then the limits, then the room: each test is that of the definition.
use native.Mathlib.Omega.{arith}
use mathlib.Core.Path.{◌≡◌}
use Rattle.std.specs.Prelude.{Err, Option, Some, None}
use Rattle.std.specs.Option.{ok_or}
use Rattle.std.proofs.lemmas.Result.{err_from_is_err_and}
use Rattle.refusals.specs.declared.Reason.{Reason}
use Rattle.refusals.specs.declared.Reason.TheVariants.{ModelTooLarge}
use Rattle.emitter.specs.declared.Built.{Built}
use Rattle.translator.proofs.Answered.{stays_input, stays_limits, stays_room, model_put}
use Rattle.translator.proofs.Built.{read, too_large, whole, size, room, first}
use Rattle.translator.proofs.translated.Goals as goal

pub returns-in_err-sheet : goal.returns-in_err-sheet
returns-in_err-sheet c =
    let told = err_from_is_err_and c.from_residual.result c.from_residual.ensures.1 in
    rw (told.1, told.2) (stays_input _ _ _ c.in_err-sheet.ensures)

-- the reason that is given where none is built
reason_given : (r : Option Built) (x : Reason) → Err x ≡ ok_or r ModelTooLarge → x ≡ ModelTooLarge
reason_given (Some b) x e = absurd (cc)
reason_given None x e = cc

pub returns-in_err-built : goal.returns-in_err-built
returns-in_err-built c =
    let told = err_from_is_err_and c.from_residual-in_err-built.result c.from_residual-in_err-built.ensures.1 in
    let reason = reason_given c.model_text.result _ c.in_err-built.ensures.value in
    let large = too_large _ _ c.in_ok-sheet.ensures c.model_text.ensures c.in_err-built.ensures.ok_part in
    rw (told.1, told.2, reason) (stays_limits _ _ (read _ _ c.in_ok-sheet.ensures) large)

pub returns-then-out-built : goal.returns-then-out-built
returns-then-out-built c =
    let w = whole _ _ c.in_ok-sheet.ensures c.model_text.ensures c.in_ok-built.ensures.ok_part in
    rw c.from.ensures (stays_room _ _ w.read w.within (omega (arith, size w, c.if-out-built.true)))

pub shared_ref_as_front-put : goal.shared_ref_as_front-put
shared_ref_as_front-put c = room (whole _ _ c.in_ok-sheet.ensures c.model_text.ensures c.in_ok-built.ensures.ok_part)

pub returns : goal.returns
returns c =
    let w = whole _ _ c.in_ok-sheet.ensures c.model_text.ensures c.in_ok-built.ensures.ok_part in
    model_put _ _ w.read w.within (omega (arith, size w, c.if-out-built.false)) (rw (first w) at c.put.ensures)
