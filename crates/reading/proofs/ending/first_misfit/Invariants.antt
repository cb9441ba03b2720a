-- `reading::first_misfit` meets its contract.
-- All before the present one fit.
use Prim.Native.Nat.{ℕ, ◌<◌}
use mathlib.Core.Path.{◌≡◌}
use mathlib.Core.Bool.{true}
use Rattle.reading.specs.Contract.{fits_at}
use Rattle.reading.specs.Records.{model_told}
use Rattle.reading.proofs.ending.first_misfit.Given as goal

abbrev pub invariant-loop-j : goal.invariant-loop-j
invariant-loop-j l = (i : ℕ) → i < l.j → fits_at (model_told l.m) l.bodies i ≡ true
