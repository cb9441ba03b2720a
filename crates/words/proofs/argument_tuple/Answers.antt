-- `words::argument_tuple` meets its contract: the code is the definition.
-- Each argument is below 16, so it is a byte.
use Rattle.std.proofs.Common.{refl}
use Rattle.meaning.specs.WordLaws.{arguments_of}
use Rattle.words.specs.Unpacked.{argument_tuple}
use Rattle.words.proofs.argument_tuple.Goals as goal

pub returns : goal.returns
unfolding argument_tuple arguments_of
returns c = rw (c.min.ensures, c.from.ensures) refl
