-- `checker::devashtor_replace` meets its contract.
-- The reply of `replace`, as a word; no refusal names a line over 32,769.
use Rattle.writing.proofs.Laws.{reply_low}
use Rattle.replacer.proofs.Order.{replacement_low}
use Rattle.checker.proofs.ForC.{for_c}
use Rattle.checker.proofs.devashtor_replace.Goals as goal

pub reply_word-requires : goal.reply_word-requires
reply_word-requires c = reply_low c.replace.ensures (replacement_low _ _ _ _)

pub returns : goal.returns
returns c = for_c c.replace.ensures c.reply_word.ensures
