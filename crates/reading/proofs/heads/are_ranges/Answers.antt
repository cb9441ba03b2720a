-- `reading::are_ranges` meets its contract.
-- Each is a range, or one is none.
use Rattle.std.proofs.Common.{rules}
use Rattle.std.proofs.lemmas.Iterator.{cases_from_all, YieldsList-from_slice}
use borrow.Author.Tests.{tests}
use mathlib.Core.Path.{◌≡◌}
use mathlib.Core.Bool.{true, false}
use Rattle.meaning.specs.Ranges.{is_range}
use Rattle.reading.proofs.Starts.{ranges_said}
use Rattle.reading.proofs.heads.are_ranges.Goals as goal

pub returns : goal.returns
returns c =
    ranges_said c.all.result c.args.r
    (cases_from_all _ _ _ (λ x. is_range x ≡ true) (λ x. is_range x ≡ false) c.all.ensures.ran
    (YieldsList-from_slice c.args.r cc) (λ x q k. search (rules, tests)) (λ x q k. search (rules, tests)))
