-- `words::word_of` meets its contract: the code is the definition, each value made wider.
-- Every part is a byte, so the sum fits 32 bits.
use Rattle.meaning.specs.Words.{word}
use Rattle.words.proofs.word_of.Goals as goal

pub returns : goal.returns
unfolding word
returns c = cc
