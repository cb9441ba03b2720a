-- The reached instances of a model that was read: prepared, then found.
-- What was found is a law's one hypothesis; whether it went over the room decides which law.
use mathlib.Core.Path.{refl}
use Rattle.engine.specs.Examined.{counted}
use Rattle.engine.proofs.Examining.{searched, too_many, counted_so}
use Rattle.engine.proofs.find_model.Goals as goal

pub returns-in_default-clause-judges : goal.returns-in_default-clause-judges
returns-in_default-clause-judges c t read =
    too_many (searched read c.prepare-prepared.ensures c.start_word-start.ensures c.in_default.ensures) counted refl refl

pub returns-clause-judges : goal.returns-clause-judges
returns-clause-judges c t read =
    counted_so (searched read c.prepare-prepared.ensures c.start_word-start.ensures c.in-Some.ensures) refl c.tell.ensures
