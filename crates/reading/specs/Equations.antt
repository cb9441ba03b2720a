-- DEFINITIONS: what a frame says as an equation, and as a start. Document 01, "Text of a model", refusal 5.
-- f is the list of a frame's bytes; a byte past its end reads 0.
use Rattle.std.specs.Prelude.{ℕ, ◌+◌, Bool, cond, ◌&&◌, List, [], ◌∷◌, eqb, ltb, leb, get_or, length, take}
use Rattle.std.specs.Prelude.{drop}
use Rattle.meaning.specs.Models.{ModelEquation}
use Rattle.meaning.specs.Ranges.{all_ranges}
use Rattle.meaning.specs.Reach.{Instance}
use Rattle.formulas.specs.Bodies.{formula_of}

-- "`01` equation: sign .., parameter count k .., k ranges": range i, "1 for an absent one"
abbrev pub range_of : List ℕ → ℕ → ℕ
range_of f i = cond (ltb i (get_or f 2 0)) (get_or f (3 + i) 0) 1

abbrev pub four_ranges : List ℕ → List ℕ
four_ranges f = range_of f 0 ∷ range_of f 1 ∷ range_of f 2 ∷ range_of f 3 ∷ []

-- those of its parameters
abbrev pub ranges_in : List ℕ → List ℕ
ranges_in f = take (get_or f 2 0) (four_ranges f)

-- what follows the head
abbrev pub body_in : List ℕ → List ℕ
body_in f = drop (3 + get_or f 2 0) f

-- 5: a frame that does not end "within its head"; no "sign over 1, k over 4, range 0 or over 16"
unfoldable pub is_valid_head : List ℕ → Bool
is_valid_head f =
    leb (3 + get_or f 2 0) (length f)
    && (leb (get_or f 1 0) 1 && (leb (get_or f 2 0) 4 && all_ranges (four_ranges f)))

-- the equation: "sign (00 least, 01 greatest)", the ranges of its parameters, and the formula that is its
-- body
abbrev pub equation_of : List ℕ → ModelEquation
equation_of f = record {
  greatest = eqb (get_or f 1 0) 1;
  ranges = ranges_in f;
  body = formula_of (body_in f) (ranges_in f);
}

-- "`02` start: equation number, then its arguments": an instance
abbrev pub start_of : List ℕ → Instance
start_of f = drop 1 f
