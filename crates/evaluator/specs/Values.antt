-- DEFINITIONS: the value of a formula, some of whose instances may be open. Document 01, "Meaning and reach".
-- Where every instance has a number it is the formula's truth; where none has, what its simplified form says.
use Rattle.std.specs.Prelude.{ℕ, suc, Bool, true, false, not, cond, List, [], ◌∷◌, ◌++◌, eqb, ltb, length}
use Rattle.std.specs.Prelude.{Option, Some, None}
use Rattle.meaning.specs.Logic.{over}
use Rattle.meaning.specs.Formulas.{Formula, constant, joined, quantified, compared, instance}
use Rattle.meaning.specs.Formulas.{value, values, test_holds}
use Rattle.meaning.specs.Words.{word}

-- a value: true or false, or none, where it is open
abbrev pub known : Bool → Option Bool
known b = Some b

-- "False in an `and` makes it false"; else it is open where a part is open
abbrev pub and_value : Option Bool → Option Bool → Option Bool
and_value (Some false) b = Some false
and_value (Some true) b = b
and_value None (Some false) = Some false
and_value None (Some true) = None
and_value None None = None

-- "true in an `or` makes it true"; else it is open where a part is open
abbrev pub or_value : Option Bool → Option Bool → Option Bool
or_value (Some true) b = Some true
or_value (Some false) b = b
or_value None (Some true) = Some true
or_value None (Some false) = None
or_value None None = None

abbrev pub join_value : Bool → Option Bool → Option Bool → Option Bool
join_value true = and_value
join_value false = or_value

-- whether one part decides the whole
abbrev pub decides : Bool → Option Bool → Bool
decides all (Some false) = all
decides all (Some true) = not all
decides all None = false

-- the value of a formula where σ gives the value of each instance's word and the variables in reach have the
-- values v. "Quantifiers are the `and` or `or` over values from 0 up"
unfoldable pub valued : Formula → (ℕ → Option Bool) → List ℕ → Option Bool
valued (constant b) σ v = known b
valued (joined all f g) σ v = join_value all (valued f σ v) (valued g σ v)
valued (quantified all r f) σ v = over (join_value all) (known all) 0 r (λ i. valued f σ (v ++ (i ∷ [])))
valued (compared t a b) σ v = known (test_holds t (value a v) (value b v))
valued (instance e ts) σ v = σ (word (e ∷ values ts v))

-- where w first stands in a table; the table's length, where it does not
unfoldable pub index_of : List ℕ → ℕ → ℕ
index_of [] w = 0
index_of (x ∷ xs) w = cond (eqb x w) 0 (suc (index_of xs w))

-- the value of a word: what the set says of its number in the table; open where it has none
unfoldable pub value_in : List ℕ → (ℕ → Bool) → ℕ → Option Bool
value_in table set w = cond (ltb (index_of table w) (length table)) (known (set (index_of table w))) None
