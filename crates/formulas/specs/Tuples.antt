-- DEFINITIONS: a tuple of at most eight bytes: values or ranges of the variables in reach, or arguments.
-- "Parameters are 0 to k-1, then quantified ones, outermost first": a quantified one is put after the others.
use Rattle.std.specs.Prelude.{ℕ, ◌+◌, ◌<◌, ◌≡◌, cond, List, [], ◌∷◌, ◌++◌, ltb, take, set}
use Rattle.formulas.specs.declared.Tuple.{Tuple}

abbrev pub items : Tuple → List ℕ
items tuple = take tuple.count tuple.values

-- with one more behind, where there is place for it
abbrev pub pushed : Tuple → ℕ → Tuple
pushed tuple value =
    cond (ltb tuple.count 8)
    (record { values = set tuple.values tuple.count value; count = tuple.count + 1 })
    tuple

-- what `push` promises of its result; the second part is a consequence of the first, for its callers
abbrev pub Pushes : Tuple → ℕ → Tuple → Type 0
Pushes tuple value r =
    (r ≡ pushed tuple value)
    × (tuple.count < 8 → (r.count ≡ tuple.count + 1) × (items r ≡ items tuple ++ (value ∷ [])))
