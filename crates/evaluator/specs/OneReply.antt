-- ONE REPLY: for each public function two results that its contract allows are equal.
-- Each contract is an equation of the result.
use Rattle.std.specs.Prelude.{ℕ, ◌≡◌, Bool, List, Option}
use Rattle.meaning.specs.OneReply.{one_reply}
use Rattle.truth.specs.Bits.{bit_of}
use Rattle.formulas.specs.declared.Test.{Test}
use Rattle.formulas.specs.declared.Tuple.{Tuple}
use Rattle.formulas.specs.Tuples.{items}
use Rattle.looked.specs.declared.Looked.{Looked}
use Rattle.prepared.specs.Prepared.{formula_there}
use Rattle.evaluator.specs.Values.{valued, index_of, value_in}
use Rattle.evaluator.specs.Replies.{test_there, word_there}

pub one_test_at : (body : List ℕ) (at : ℕ) (scope : Tuple) (t : Test) {r s : Looked Bool}
    → r ≡ test_there body at (items scope) t → s ≡ test_there body at (items scope) t → r ≡ s
one_test_at body at scope t = one_reply

pub one_word_at : (body : List ℕ) (at : ℕ) (scope : Tuple) {r s : Looked ℕ}
    → r ≡ word_there body at (items scope) → s ≡ word_there body at (items scope) → r ≡ s
one_word_at body at scope = one_reply

pub one_lookup : (table : List ℕ) (w : ℕ) {r s : ℕ} → r ≡ index_of table w → s ≡ index_of table w → r ≡ s
one_lookup table w = one_reply

pub one_evaluate : (body : List ℕ) (scope : Tuple) (table truth : List ℕ) {r s : Option Bool}
    → r ≡ valued (formula_there body scope.count 0) (value_in table (bit_of truth)) (items scope)
    → s ≡ valued (formula_there body scope.count 0) (value_in table (bit_of truth)) (items scope) → r ≡ s
one_evaluate body scope table truth = one_reply
