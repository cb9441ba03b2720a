-- DEFINITIONS: where a condition and some terms in a row end. Request 2026-10, "a formula of 01 without
-- instances or quantifiers", "a next-state term per parameter, under 01's range rule".
-- None stands for nothing that could be read, or that is not as it must be, and so does 0 as a number. "A
-- frame has 1 to 256 bytes": more are not read.
use Rattle.std.specs.Prelude.{ℕ, Bool, cond, List, [], leb, length, Option, None, Some}
use Rattle.meaning.specs.Ranges.{arguments_fit, fits}
use Rattle.formulas.specs.Decode.{Parsed, none, some, when, terms_at, formula_at}

-- the place after what was read, where the test holds of it
abbrev pub place_where : {A : Type 0} → (A → Bool) → Parsed A → Option ℕ
place_where test none = None
place_where test (some a e) = cond (test a) (Some e) None

-- a place as a number
abbrev pub number_of : Option ℕ → ℕ
number_of None = 0
number_of (Some e) = e

abbrev pub end_where : {A : Type 0} → (A → Bool) → Parsed A → ℕ
end_where test p = number_of (place_where test p)

-- the formula at a place of the bytes s, where the variables in reach have the ranges rs: a quantifier in it
-- would be a fifth, and there is no equation that an instance could name
unfoldable pub condition_place : List ℕ → ℕ → List ℕ → Option ℕ
condition_place s at rs =
    place_where (λ f. fits [] f rs) (when (leb (length s) 256) (formula_at (length s) s (length rs) 4 at))

unfoldable pub condition_end : List ℕ → ℕ → List ℕ → ℕ
condition_end s at rs = number_of (condition_place s at rs)

-- as many terms as `ranges` has ranges, none with a range that "exceeds the parameter's"
unfoldable pub terms_place : List ℕ → ℕ → List ℕ → List ℕ → Option ℕ
terms_place s at rs ranges =
    place_where (λ ts. arguments_fit ts ranges rs)
    (when (leb (length s) 256) (terms_at (length s) (length ranges) s (length rs) at))

unfoldable pub terms_end : List ℕ → ℕ → List ℕ → List ℕ → ℕ
terms_end s at rs ranges = number_of (terms_place s at rs ranges)
