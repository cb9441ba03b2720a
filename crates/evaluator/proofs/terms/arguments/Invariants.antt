-- `evaluator::terms::arguments` meets its contract.
-- What is still to be put behind the terms that are there makes the whole.
use Rattle.std.proofs.Common.{◌+◌, ◌-◌, ◌≤◌}
use Rattle.formulas.specs.Tuples.{items}
use Rattle.formulas.specs.declared.Tuple.{Tuple}
use Rattle.looked.specs.declared.Looked.{Looked}
use Rattle.prepared.specs.Prepared.{terms_there}
use Rattle.evaluator.specs.Replies.{TermsValued}
use Rattle.evaluator.proofs.terms.arguments.Given as goal

abbrev pub invariant-loop : goal.invariant-loop
invariant-loop l =
    (l.got.value.count + (l.n - l.counter) ≤ 8)
    × ((r : Looked Tuple) → TermsValued (terms_there l.body (l.n - l.counter) l.next) (items l.scope) l.got r
    → TermsValued (terms_there l.body l.n l.at) (items l.scope) l.initial.got r)
