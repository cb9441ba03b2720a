-- `reading::with_equation` meets its contract.
-- Three stores.
use mathlib.Core.Path.{refl}
use Rattle.reading.specs.Contract.{with_equation}
use Rattle.reading.proofs.drafting.Draft.with_equation.Goals as goal

pub returns : goal.returns
returns c = unfold with_equation in refl
