-- `reading::finish` meets its contract.
-- One constructor for each way out.
use mathlib.Core.Path.{◌≡◌, refl, sym, ◌∙◌}
use mathlib.Core.Bool.{false}
use Rattle.std.specs.Prelude.{Ok, Err, Option, Some, None, is_some}
use Rattle.std.specs.Option.{ok_or}
use Rattle.std.proofs.lemmas.Result.{err_from_is_err_and}
use Rattle.refusals.specs.declared.Refusal.{Refusal}
use Rattle.reading.specs.declared.Start.{Start}
use Rattle.reading.specs.Contract.{no_start, misfits, wrong_start, passes}
use Rattle.reading.proofs.ending.finish.Goals as goal

-- the start that is there, or the refusal where there is none
started : (s : Option Start) (r : Refusal) (x : Start) → Ok x ≡ ok_or s r → s ≡ Some x
started (Some y) r x e = cc
started None r x e = absurd (cc)

unstarted : (s : Option Start) (r x : Refusal) → Err x ≡ ok_or s r → (is_some s ≡ false) × (x ≡ r)
unstarted (Some y) r x e = absurd (cc)
unstarted None r x e = (refl, cc)

pub returns-in_err-start : goal.returns-in_err-start
returns-in_err-start c =
    let told = err_from_is_err_and c.from_residual.result c.from_residual.ensures.1 in
    let none = unstarted c.args.draft.start _ _ c.in_err-start.ensures.value in
    rw (told.1, told.2, none.1) (no_start none.0)

pub returns-in-Some : goal.returns-in-Some
returns-in-Some c =
    rw (started c.args.draft.start _ _ c.in_ok-start.ensures.value)
    (misfits refl (rw c.in-Some.is at c.first_misfit.ensures))

pub returns-then-not-is_valid_start : goal.returns-then-not-is_valid_start
returns-then-not-is_valid_start c =
    rw (started c.args.draft.start _ _ c.in_ok-start.ensures.value)
    (wrong_start refl c.in_default.ensures (sym c.is_valid_start.ensures ∙ c.if-not-is_valid_start.true))

pub returns : goal.returns
returns c =
    rw (started c.args.draft.start _ _ c.in_ok-start.ensures.value)
    (passes refl c.in_default.ensures (sym c.is_valid_start.ensures ∙ c.if-not-is_valid_start.false) refl)
