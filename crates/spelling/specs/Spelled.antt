-- DEFINITIONS: the bytes of terms, formulas, equations, starts and models. Document 01, "Text of a model".
-- What is read, written: the code, then the operands in their order; "one frame a line".
use Rattle.std.specs.Prelude.{ℕ, Bool, true, false, List, [], ◌∷◌, ◌++◌, length}
use Rattle.meaning.specs.Formulas.{Term, number, variable, calculated, Test, equal, less, unequal, not_less}
use Rattle.meaning.specs.Formulas.{Formula, constant, joined, quantified, compared, instance}
use Rattle.meaning.specs.Models.{ModelEquation, Model}
use Rattle.meaning.specs.Reach.{Instance}

-- one code for true, the other for false
unfoldable pub either_code : Bool → ℕ → ℕ → ℕ
either_code true t f = t
either_code false t f = f

-- `16` equal, `17` less, `18` not equal, `19` not less
unfoldable pub test_code : Test → ℕ
test_code equal = 0x16
test_code less = 0x17
test_code unequal = 0x18
test_code not_less = 0x19

-- `20 v`, `21 i`, `22 r a b`, `23 r a b`
unfoldable pub spelled_term : Term → List ℕ
spelled_term (number v) = 0x20 ∷ v ∷ []
spelled_term (variable i) = 0x21 ∷ i ∷ []
spelled_term (calculated plus r a b) = either_code plus 0x22 0x23 ∷ r ∷ (spelled_term a ++ spelled_term b)

unfoldable pub spelled_terms : List Term → List ℕ
spelled_terms [] = []
spelled_terms (t ∷ ts) = spelled_term t ++ spelled_terms ts

-- `10`, `11`, `12 f g`, `13 f g`, `14 r f`, `15 r f`, `16 a b` to `19 a b`, `1a e n t..`
unfoldable pub spelled : Formula → List ℕ
spelled (constant b) = either_code b 0x11 0x10 ∷ []
spelled (joined all f g) = either_code all 0x12 0x13 ∷ (spelled f ++ spelled g)
spelled (quantified all r f) = either_code all 0x14 0x15 ∷ r ∷ spelled f
spelled (compared t a b) = test_code t ∷ (spelled_term a ++ spelled_term b)
spelled (instance e ts) = 0x1a ∷ e ∷ length ts ∷ spelled_terms ts

-- "`01` equation: sign (00 least, 01 greatest), parameter count k, k ranges, then one formula"
unfoldable pub equation_frame : ModelEquation → List ℕ
equation_frame e =
    0x01 ∷ either_code e.greatest 1 0 ∷ length e.ranges ∷ (e.ranges ++ spelled e.body)

-- "`02` start: equation number, then its arguments"
unfoldable pub start_frame : Instance → List ℕ
start_frame start = 0x02 ∷ start

-- the equations in their order, then the start
unfoldable pub model_frames : Model → Instance → List (List ℕ)
model_frames [] start = start_frame start ∷ []
model_frames (e ∷ es) start = equation_frame e ∷ model_frames es start
