-- `replacer::replaced` meets its contract.
-- Each way out is one of the refusals that are due, in their order; else the text is cut and written.
use native.Mathlib.Omega.{arith}
use Prim.Native.Nat.{ℕ}
use mathlib.Core.Path.{◌≡◌, refl, sym, ap, ◌∙◌}
use Rattle.std.proofs.Common.{rules, true}
use Rattle.std.specs.Prelude.{Result, Ok, Err, MatchResult}
use lib.ListN.{get_or}
use Rattle.std.specs.Result.{is_ok}
use Rattle.std.proofs.lemmas.Result.{err_from_is_err_and}
use Rattle.refusals.specs.declared.Reason.{Reason}
use Rattle.refusals.specs.declared.Refusal.{Refusal}
use Rattle.replacer.proofs.Known.{named, read_as, in_eight, digits_within, few_parameters}
use Rattle.replacer.proofs.Replied.{old_stays, gone_stays, long_stays, side_stays, room_stays}
use Rattle.replacer.proofs.Replied.{parts_fit, text_written}
use Rattle.replacer.proofs.replaced.Goals as goal

pub returns-in_err-model : goal.returns-in_err-model
returns-in_err-model c =
    let told = err_from_is_err_and c.from_residual.result c.from_residual.ensures.1 in
    rw (told.1, told.2) (old_stays _ _ _ _ _ c.in_err-model.ensures)

pub returns-then-model-equation : goal.returns-then-model-equation
returns-then-model-equation c =
    rw c.from.ensures
    (gone_stays (read_as c.in_ok-model.ensures) _ _ _ c.if-model-equation.true)

pub offset_bounds-model-equation : goal.offset_bounds-model-equation
offset_bounds-model-equation c =
    omega (arith, in_eight (named c.in_ok-model.ensures c.if-model-equation.false))

pub bounds-model-equation : goal.bounds-model-equation
bounds-model-equation c = in_eight (named c.in_ok-model.ensures c.if-model-equation.false)

pub overflow_mul-size : goal.overflow_mul-size
overflow_mul-size c =
    omega (arith, digits_within (named c.in_ok-model.ensures c.if-model-equation.false))

pub overflow_sub-size : goal.overflow_sub-size
overflow_sub-size c = digits_within (named c.in_ok-model.ensures c.if-model-equation.false)

pub returns-then-size-gt32768 : goal.returns-then-size-gt32768
returns-then-size-gt32768 c =
    let there = named c.in_ok-model.ensures c.if-model-equation.false in
    rw c.from-then-size-gt32768.ensures (long_stays there _ _ _ c.min-added.ensures c.if-size-gt32768.true)

pub judge_side-requires : goal.judge_side-requires
judge_side-requires c =
    few_parameters (named c.in_ok-model.ensures c.if-model-equation.false)

pub offset_bounds-model-equation-2 : goal.offset_bounds-model-equation-2
offset_bounds-model-equation-2 c =
    omega (arith, in_eight (named c.in_ok-model.ensures c.if-model-equation.false))

pub bounds-model-equation-2 : goal.bounds-model-equation-2
bounds-model-equation-2 c =
    in_eight (named c.in_ok-model.ensures c.if-model-equation.false)

passed : (j : Result (Unit {0}) Reason) → true ≡ is_ok j → j ≡ Ok tt
passed (Ok tt) is = refl
passed (Err reason) is = absurd (cc)

-- a reason that is told with a line was the reason
with_line : (j : Result (Unit {0}) Reason) {Told : Reason → Type 0} (x : Refusal) (line : ℕ)
    → MatchResult j (λ u. Err x ≡ Ok u) Told
    → ((reason : Reason) → Told reason → x ≡ record { reason = reason; line = line })
    → (j ≡ Err x.reason) × (x ≡ record { reason = x.reason; line = line })
with_line (Ok u) x line h same = absurd (cc)
with_line (Err reason) x line h same =
    let is = same reason h in
    (ap (λ (y : Refusal). Err y.reason) (sym is), cc)

pub returns-in_err-map_err : goal.returns-in_err-map_err
returns-in_err-map_err c =
    let told = err_from_is_err_and c.from_residual-in_err-map_err.result c.from_residual-in_err-map_err.ensures.1 in
    let there = named c.in_ok-model.ensures c.if-model-equation.false in
    let line = get_or c.in_ok-model.field-0.model.lines c.args.equation 0 in
    let is = with_line c.judge_side.result c.in_err-map_err.field-0.0 line c.in_err-map_err.ensures.cases
    (λ reason told. search rules) in
    rw (told.1, told.2, is.1) (side_stays there _ _ _ c.min-added.ensures c.type_inv.side c.if-size-gt32768.false
    (sym is.0 ∙ c.judge_side.ensures))

pub returns-then-out-size : goal.returns-then-out-size
returns-then-out-size c =
    let there = named c.in_ok-model.ensures c.if-model-equation.false in
    let judged = sym (passed c.judge_side.result c.in_ok-map_err.ensures.variant) ∙ c.judge_side.ensures in
    rw c.from-then-out-size.ensures
    (room_stays there _ _ _ c.min-added.ensures c.type_inv.side c.if-size-gt32768.false judged c.if-out-size.true)

pub write_parts-requires : goal.write_parts-requires
write_parts-requires c =
    let there = named c.in_ok-model.ensures c.if-model-equation.false in
    let judged = sym (passed c.judge_side.result c.in_ok-map_err.ensures.variant) ∙ c.judge_side.ensures in
    parts_fit there c.args.side.now c.args.out.now _ c.min-added.ensures c.type_inv.side c.if-size-gt32768.false
    judged c.if-out-size.false

pub returns : goal.returns
returns c =
    let there = named c.in_ok-model.ensures c.if-model-equation.false in
    let judged = sym (passed c.judge_side.result c.in_ok-map_err.ensures.variant) ∙ c.judge_side.ensures in
    text_written there _ _ _ c.min-added.ensures c.type_inv.side c.if-size-gt32768.false judged
    c.if-out-size.false c.write_parts.ensures
