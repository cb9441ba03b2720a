-- DEFINITIONS: what the evaluator says of a term, of a test and of an instance in a prepared body.
-- Of each its value, or its word, and the variables that stand in its terms.
use Rattle.std.specs.Prelude.{ℕ, ◌+◌, min, ◌≡◌, Bool, List, ◌∷◌, ◌++◌}
use Rattle.meaning.specs.Formulas.{Term, value, values, test_holds}
use Rattle.meaning.specs.Words.{word}
use Rattle.formulas.specs.declared.Test.{Test}
use Rattle.formulas.specs.Decode.{test_of}
use Rattle.formulas.specs.Tuples.{items}
use Rattle.looked.specs.declared.Looked.{Looked}
use Rattle.formulas.specs.declared.Tuple.{Tuple}
use Rattle.looked.specs.Looked.{both, looked_term, looked_terms}
use Rattle.prepared.specs.Prepared.{byte_at, end_at, term_there, terms_there}

-- the value of a term where the variables in reach have the values v
pub record TermValued (t : Term) (v : List ℕ) (r : Looked ℕ) : Type 0 where
  pub value : r.value ≡ value t v
  pub looked : r.looked ≡ looked_term t

-- the values of some terms, put after those that are there
pub record TermsValued (ts : List Term) (v : List ℕ) (got r : Looked Tuple) : Type 0 where
  pub values : items r.value ≡ items got.value ++ values ts v
  pub looked : r.looked ≡ looked_terms got.looked ts

-- the terms of the test whose code stands at a place, and the arguments of the instance that does
abbrev pub first_term : List ℕ → ℕ → Term
first_term p at = term_there p (at + 1)

abbrev pub second_term : List ℕ → ℕ → Term
second_term p at = term_there p (end_at p (at + 1))

abbrev pub arguments_there : List ℕ → ℕ → List Term
arguments_there p at = terms_there p (min (byte_at p (at + 2)) 4) (at + 3)

-- the test whose code stands at a place
abbrev pub test_there : List ℕ → ℕ → List ℕ → Test → Looked Bool
test_there p at v t = record {
  value = test_holds (test_of t) (value (first_term p at) v) (value (second_term p at) v);
  looked = both (looked_term (first_term p at)) (looked_term (second_term p at));
}

-- the word of the instance whose code stands at a place
abbrev pub word_there : List ℕ → ℕ → List ℕ → Looked ℕ
word_there p at v = record {
  value = word (byte_at p (at + 1) ∷ values (arguments_there p at) v);
  looked = looked_terms 0 (arguments_there p at);
}
