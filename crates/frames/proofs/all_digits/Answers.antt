-- `frames::all_digits` meets its contract.
-- Each is a digit, or one is none.
use Rattle.std.proofs.Common.{rules}
use Rattle.std.proofs.lemmas.Iterator.{cases_from_all, YieldsList-from_slice}
use borrow.Author.Tests.{tests}
use mathlib.Core.Path.{◌≡◌}
use mathlib.Core.Bool.{true, false}
use Rattle.digits.specs.Digits.{is_digit}
use Rattle.frames.proofs.Ends.{digits_said}
use Rattle.frames.proofs.all_digits.Goals as goal

pub returns : goal.returns
returns c =
    digits_said c.all.result c.args.characters.now
    (cases_from_all _ _ _ (λ x. is_digit x ≡ true) (λ x. is_digit x ≡ false) c.all.ensures.ran
    (YieldsList-from_slice c.args.characters.now cc) (λ x q k. search (rules, tests)) (λ x q k. search (rules, tests)))
