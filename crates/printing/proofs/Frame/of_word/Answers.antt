-- `printing::Frame::of_word` meets its contract.
-- The value is stored after the arguments, as many as the equation has parameters.
use Prim.Native.Nat.{ℕ}
use native.Mathlib.Omega.{arith}
use mathlib.Core.Path.{◌≡◌, ap, ◌∙◌}
use lib.ListN.{get_or}
use borrow.Author.Rules.{rules}
use Rattle.formulas.specs.Bodies.{blank}
use Rattle.truth.specs.Bits.{bit}
use Rattle.words.specs.Unpacked.{argument_tuple}
use Rattle.printing.proofs.Stores.{few_arguments, frame_stored}
use Rattle.printing.proofs.Frame.of_word.Goals as goal

pub returns : goal.returns
returns c =
    let a = c.args in
    let unpacked = c.argument_tuple-arguments.ensures
    ∙ ap (λ (e : ℕ). argument_tuple a.word (get_or a.equations e blank).k) c.equation_number-e.ensures in
    let shown : c.from.result ≡ bit a.value = search rules in
    frame_stored a.equations a.word a.value c.equation_number-e.ensures shown unpacked c.requires.1

pub overflow_add-bytes : goal.overflow_add-bytes
overflow_add-bytes c = omega (arith, few_arguments _ _ c.argument_tuple-arguments.ensures)

pub bounds-bytes-k : goal.bounds-bytes-k
bounds-bytes-k c = omega (arith, few_arguments _ _ c.argument_tuple-arguments.ensures)

pub overflow_add-result : goal.overflow_add-result
overflow_add-result c = omega (arith, few_arguments _ _ c.argument_tuple-arguments.ensures)
