-- DEFINITIONS: the number that the rules give each reason to refuse.
-- Documents 01 and 02, "Numbers of refusal". No other number is given, and no two reasons share one.
use Rattle.std.specs.Prelude.{ℕ}
use Rattle.refusals.specs.declared.Reason.{Reason}
use Rattle.refusals.specs.declared.Reason.TheVariants.{TextTooLong, NoDigit, NoLine, OutOfPlace, WrongHead}
use Rattle.refusals.specs.declared.Reason.TheVariants.{NoFormula, WrongInstance, WrongStart, NoRoom}
use Rattle.refusals.specs.declared.Reason.TheVariants.{ShortBuffer, AnotherList, NoProcess}
use Rattle.refusals.specs.declared.Reason.TheVariants.{ModelTooLarge, NoEquation}

abbrev pub number_of : Reason → ℕ
number_of TextTooLong = 1
number_of NoDigit = 2
number_of NoLine = 3
number_of OutOfPlace = 4
number_of WrongHead = 5
number_of NoFormula = 6
number_of WrongInstance = 7
number_of WrongStart = 8
number_of NoRoom = 9
number_of ShortBuffer = 10
number_of AnotherList = 11
number_of NoProcess = 14
number_of ModelTooLarge = 15
number_of NoEquation = 19
