-- `looked::looks_at` meets its contract.
-- A variable past the eighth is in every set; of the others the set's digit tells.
use mathlib.Core.Path.{refl}
use borrow.Author.Tests.{le-leb, lt-leb}
use Rattle.looked.specs.Looked.{looks_at}
use Rattle.looked.proofs.looks_at.Goals as goal

pub returns-then-i-ge8 : goal.returns-then-i-ge8
unfolding looks_at
returns-then-i-ge8 c = rw (le-leb 8 _ c.if-i-ge8.true) refl

pub returns : goal.returns
unfolding looks_at
returns c = rw (lt-leb 8 _ c.if-i-ge8.false) refl
