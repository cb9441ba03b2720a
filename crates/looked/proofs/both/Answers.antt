-- `looked::both` meets its contract.
-- The definition is the same operation on bits.
use mathlib.Core.Path.{refl}
use Rattle.looked.specs.Looked.{both}
use Rattle.looked.proofs.both.Goals as goal

pub returns : goal.returns
unfolding both
returns c = refl
