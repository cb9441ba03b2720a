-- `replacer::command::print_replacement` meets its contract.
-- The words are judged; then the reply is shown, and what is printed is that for the words as they are.
use Prim.Native.Nat.{ℕ}
use native.Mathlib.Omega.{arith}
use mathlib.Core.Path.{sym, ap, ◌∙◌}
use lib.ListN.{take}
use Rattle.digits.specs.Digits.{bytes_of}
use Rattle.writing.proofs.Shown.{small_buffer}
use Rattle.replacer.proofs.CommandShown.{wrong_number, wrong_side, replacement_shown}
use Rattle.replacer.proofs.command.print_replacement.Goals as goal
use Rattle.replacer.proofs.command.print_replacement.Goals.{then-not-is_number-via-then-not-is_number}
use Rattle.replacer.proofs.command.print_replacement.Goals.{then-not-is_number-via-else-not-is_number+then-not-is_bytes}

pub returns-then-out-lt32768 : goal.returns-then-out-lt32768
returns-then-out-lt32768 c = small_buffer (omega arith)

pub returns-then-not-is_number : goal.returns-then-not-is_number
returns-then-not-is_number c = elim c.then-not-is_number.branch [
  | then-not-is_number-via-then-not-is_number w ↦
      wrong_number _ _ _ (sym c.is_number.ensures ∙ w.if-not-is_number.true) (omega arith)
  | then-not-is_number-via-else-not-is_number+then-not-is_bytes w ↦
      wrong_side _ _ _ (sym c.is_number.ensures ∙ w.if-not-is_number.false)
      (sym w.is_bytes.ensures ∙ w.if-not-is_bytes.true) (omega arith)
]

pub returns : goal.returns
returns c =
    let d = c.decode-count.ensures in
    replacement_shown _ _ _ (sym c.is_number.ensures ∙ c.if-not-is_number.false)
    (sym c.is_bytes.ensures ∙ c.if-not-is_bytes.false) c.named_by.ensures
    (d.decoded ∙ ap (λ (n : ℕ). take n (bytes_of c.args.side.now)) d.counted) c.replace-reply.ensures c.show.ensures
    (omega arith)
