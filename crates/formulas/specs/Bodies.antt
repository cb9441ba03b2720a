-- DEFINITIONS: the body of an equation. Document 01, "Text of a model", refusals 6 and 7.
-- The body is what follows the head of an equation's frame: some bytes.
use Rattle.std.specs.Prelude.{ℕ, Bool, false, List, [], map, eqb, leb, length, take}
use Rattle.meaning.specs.Formulas.{Formula, constant}
use Rattle.meaning.specs.Ranges.{fits}
use Rattle.formulas.specs.declared.Equation.{Equation}
use Rattle.formulas.specs.Decode.{Parsed, none, some, when, formula_at}

-- what stands past the end of a list of equations
abbrev pub blank : Equation
blank = record { sign = 0; k = 0; ranges = []; place = 0; length = 0 }

-- the ranges of an equation's parameters
abbrev pub ranges_of : Equation → List ℕ
ranges_of e = take e.k e.ranges

-- the ranges of the parameters of each of the first `count` equations
abbrev pub signatures_of : List Equation → ℕ → List (List ℕ)
signatures_of equations count = map ranges_of (take count equations)

-- what stands in a body, the bytes s, of an equation whose parameters have the ranges rs: they are in reach;
-- "a frame has 1 to 256 bytes", so a body has no more
unfoldable pub body_at : List ℕ → List ℕ → Parsed Formula
body_at s rs = when (leb (length s) 256) (formula_at (length s) s (length rs) 0 0)

-- what was read; false where nothing was
abbrev pub found : Parsed Formula → Formula
found none = constant false
found (some f e) = f

abbrev pub formula_of : List ℕ → List ℕ → Formula
formula_of s rs = found (body_at s rs)

-- whether something was read up to e
abbrev pub ends : {A : Type 0} → ℕ → Parsed A → Bool
ends e none = false
ends e (some a m) = eqb m e

-- 6: "what follows the head" is "exactly one formula of the above kind"
unfoldable pub is_body : List ℕ → List ℕ → Bool
is_body s rs = ends (length s) (body_at s rs)

-- 7: no instance in it "names no equation, has the wrong n, or an argument whose range exceeds the
-- parameter's"
unfoldable pub is_fitting : List (List ℕ) → List ℕ → List ℕ → Bool
is_fitting signatures s rs = fits signatures (formula_of s rs) rs
