-- What the contracts of the inner functions say; no word of the documents is defined here.
-- They speak of the structs that the code has; that these are those of the text is shown in proofs/Known.
use Rattle.std.specs.Prelude.{ℕ, ◌+◌, ◌/◌, min, ◌≡◌, cond, List, Result, Ok, Err, leb, length, take}
use Rattle.refusals.specs.declared.Reason.{Reason}
use Rattle.refusals.specs.declared.Reason.TheVariants.{NoLine, NoFormula, WrongInstance}
use Rattle.digits.specs.Digits.{bytes_of}
use Rattle.formulas.specs.declared.Equation.{Equation}
use Rattle.formulas.specs.Bodies.{ranges_of, is_body, is_fitting}
use Rattle.replacer.specs.Printed.{decimal}

-- why a new right side of the equation e is refused, the first of 3, 6 and 7, if it is
abbrev pub side_judged : List ℕ → Equation → List (List ℕ) → Result (Unit {0}) Reason
side_judged side e declared =
    cond (leb (3 + e.k + length side) 256)
    (cond (is_body side (ranges_of e))
    (cond (is_fitting declared side (ranges_of e))
    (Ok tt)
    (Err WrongInstance))
    (Err NoFormula))
    (Err NoLine)

-- ---- the words of the command

-- what stands for a number: no equation has a number over 7, so 8 does for all of those
abbrev pub named_by : List ℕ → ℕ
named_by w = min (decimal w) 8

-- the first bytes that a word says, in a list that was `room` long: r of them
pub record Decodes (w : List ℕ) (room : ℕ) (r : ℕ) (left : List ℕ) : Type 0 where
  pub counted : r ≡ min (length w / 2) room
  pub long : length left ≡ room
  pub decoded : take r left ≡ take r (bytes_of w)
