-- DEFINITIONS: the bodies of a model's equations, decoded once.
-- Equation e's body stands from e * 256 on, as many bytes as it has.
use Rattle.std.specs.Prelude.{ℕ, ◌*◌, List, take, drop, get_or}
use Rattle.formulas.specs.declared.Equation.{Equation}
use Rattle.formulas.specs.Bodies.{blank}

-- equation number e
abbrev pub equation_at : List Equation → ℕ → Equation
equation_at equations e = get_or equations e blank

-- n bytes from the place of equation number e on
abbrev pub body_part : List ℕ → ℕ → ℕ → List ℕ
body_part bodies e n = take n (drop (e * 256) bodies)

-- the decoded body of equation number e
unfoldable pub body_in : List ℕ → List Equation → ℕ → List ℕ
body_in bodies equations e = body_part bodies e (equation_at equations e).length
