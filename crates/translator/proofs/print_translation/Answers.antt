-- `translator::print_translation` meets its contract.
-- In a buffer that is long enough the reply is shown, and its refusal is that of a buffer of the longest text.
use native.Mathlib.Omega.{arith}
use Rattle.writing.proofs.Shown.{small_buffer}
use Rattle.translator.proofs.Shown.{translation_shown}
use Rattle.translator.proofs.print_translation.Goals as goal

pub returns : goal.returns
returns c =
    translation_shown _ c.translate-reply.ensures c.show.ensures (omega arith)

pub returns-then-out-lt4117 : goal.returns-then-out-lt4117
returns-then-out-lt4117 c = small_buffer (omega arith)
