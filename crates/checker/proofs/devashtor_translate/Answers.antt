-- `checker::devashtor_translate` meets its contract.
-- The reply of `translate`, as a word; no refusal names a line over 32,769.
use Rattle.writing.proofs.Laws.{reply_low}
use Rattle.translator.proofs.LineBound.{translation_low}
use Rattle.checker.proofs.ForC.{for_c}
use Rattle.checker.proofs.devashtor_translate.Goals as goal

pub reply_word-requires : goal.reply_word-requires
reply_word-requires c = reply_low c.translate.ensures (translation_low _ _)

pub returns : goal.returns
returns c = for_c c.translate.ensures c.reply_word.ensures
