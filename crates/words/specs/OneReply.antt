-- ONE REPLY: for each public function two results that its contract allows are equal.
-- Each contract is an equation of the whole result.
use Rattle.std.specs.Prelude.{ℕ, ◌≡◌, List, ◌∷◌}
use Rattle.meaning.specs.OneReply.{one_reply}
use Rattle.meaning.specs.Words.{word}
use Rattle.formulas.specs.declared.Tuple.{Tuple}
use Rattle.formulas.specs.Tuples.{items}
use Rattle.words.specs.Unpacked.{equation_number, argument_tuple}
use Rattle.words.specs.Counts.{count_with}

pub one_word_of : (equation : ℕ) (arguments : Tuple) {r s : ℕ}
    → r ≡ word (equation ∷ items arguments) → s ≡ word (equation ∷ items arguments) → r ≡ s
one_word_of equation arguments = one_reply

pub one_equation_number : (w : ℕ) {r s : ℕ} → r ≡ equation_number w → s ≡ equation_number w → r ≡ s
one_equation_number w = one_reply

pub one_argument_tuple : (w k : ℕ) {r s : Tuple} → r ≡ argument_tuple w k → s ≡ argument_tuple w k → r ≡ s
one_argument_tuple w k = one_reply

pub one_count_with : (equation : ℕ) (list : List ℕ) {r s : ℕ}
    → r ≡ count_with equation list → s ≡ count_with equation list → r ≡ s
one_count_with equation list = one_reply
