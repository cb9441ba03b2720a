-- `truth::has` meets its contract: below 512 the code is the definition.
-- From 512 on no bit is set past the eight words.
use mathlib.Core.Path.{◌≡◌, refl, sym}
use native.Mathlib.Omega.{arith}
use lib.ListN.{length}
use borrow.Author.Rules.{rules}
use Rattle.truth.specs.Bits.{bit_of}
use Rattle.truth.proofs.Bits.{bit_past}
use Rattle.truth.proofs.has.Goals as goal

pub returns-then-j-ge512 : goal.returns-then-j-ge512
returns-then-j-ge512 c =
    let a = c.args in
    let n : length a.t ≡ 8 = search rules in
    sym (bit_past a.t a.j (omega arith))

pub returns : goal.returns
unfolding bit_of
returns c = refl
