-- `formulas::read_instance` meets its contract.
-- The arguments are told against the signature's bytes; how many there are is compared with how many there must be.
use Rattle.std.proofs.Common.{◌≡◌, ◌&&◌, ◌+◌, ◌*◌, Bool, get_or, eqb, ltb, refl, ◌∙◌}
use borrow.Author.Tests.{lt-ltb, le-ltb}
use Rattle.meaning.specs.Ranges.{arguments_fit, fits}
use Rattle.formulas.specs.Contract.{part, signatures_in}
use Rattle.formulas.specs.Tuples.{items}
use Rattle.formulas.proofs.ByKind.{instance_no, instance_tells}
use Rattle.formulas.proofs.Fitting.{named_fits}
use Rattle.formulas.proofs.read_instance.Goals as goal
use Rattle.formulas.proofs.read_instance.Goals.{then-x-count, else-x-count}

pub returns-then-c-gt4 : goal.returns-then-c-gt4
returns-then-c-gt4 c = instance_no (c.from-c.ensures ∙ c.element-2.ensures) c.if-c-gt4.true

pub returns : goal.returns
returns c =
    let table = c.args.signatures.now in
    let rs = items c.args.scope in
    let x = c.from-x.result in
    let many = c.from-c.result in
    let named : c.if-x-count.named ≡ ltb x (get_or table 40 0) && eqb many (get_or table (5 * x + 4) 0) =
    elim c.if-x-count.branch [
      | then-x-count w ↦ rw (
        lt-ltb x (get_or table 40 0) (rw c.from-count.ensures at w.if-x-count.true),
        ← c.element-3.ensures,
        ← c.from-k.ensures,
      )
          w.named-is
      | else-x-count w ↦ rw (le-ltb x (get_or table 40 0) (rw c.from-count.ensures at w.if-x-count.false))
          (w.named-is ∙ le-ltb x _ w.if-x-count.false)
    ] in
    instance_tells c.args.body.now c.args.scope.count c.args.at (λ (v : Bool) f. v ≡ fits (signatures_in table) f rs)
    (c.from-c.ensures ∙ c.element-2.ensures) c.if-c-gt4.false (c.from-x.ensures ∙ c.element.ensures)
    (λ v ts. v ≡ c.if-x-count.named && arguments_fit ts (part table (5 * x) many) rs)
    c.read_arguments.result c.read_arguments.ensures
    (λ v ts long r. r ∙ rw named (named_fits table x ts rs long (ltb x (get_or table 40 0)) refl))
