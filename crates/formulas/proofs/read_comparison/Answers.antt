-- `formulas::read_comparison` meets its contract: two terms, in which nothing can misfit.
-- Where one of them can't be read there are no two.
use Rattle.std.proofs.Common.{arith, refl}
use Rattle.formulas.proofs.ByKind as law
use Rattle.formulas.proofs.read_comparison.Goals as goal

pub returns-in_err-a : goal.returns-in_err-a
returns-in_err-a c = rw c.from_residual.ensures (law.terms_stop (omega arith) c.in_err-a.ensures)

pub returns-in_err-b : goal.returns-in_err-b
returns-in_err-b c =
    rw c.from_residual-in_err-b.ensures
    (law.terms_map (law.two_terms c.in_ok-a.ensures c.in_err-b.ensures) (λ _ _. tt))

pub returns : goal.returns
returns c = law.terms_map (law.two_terms c.in_ok-a.ensures c.in_ok-b.ensures) (λ _ _. refl)
