-- ONE REPLY: no two reasons share a number, so a number and a line say which refusal it is.
-- A number names its reason, so reasons with the same number are the same.
use Rattle.std.specs.Prelude.{ℕ, ◌≡◌, [], ◌∷◌, get_or}
use Rattle.std.proofs.Common.{arith, sym, ap, ◌∙◌, refl}
use Rattle.refusals.specs.declared.Reason.{Reason}
use Rattle.refusals.specs.declared.Reason.TheVariants.{TextTooLong, NoDigit, NoLine, OutOfPlace, WrongHead}
use Rattle.refusals.specs.declared.Reason.TheVariants.{NoFormula, WrongInstance, WrongStart, NoRoom}
use Rattle.refusals.specs.declared.Reason.TheVariants.{ShortBuffer, AnotherList, NoProcess}
use Rattle.refusals.specs.declared.Reason.TheVariants.{ModelTooLarge, NoEquation}
use Rattle.refusals.specs.declared.Refusal.{Refusal}
use Rattle.refusals.specs.Numbers.{number_of}

-- the reason of a number; that of 1 where no reason has it
abbrev reason_of : ℕ → Reason
reason_of n = get_or (
    TextTooLong ∷ TextTooLong ∷ NoDigit ∷ NoLine ∷ OutOfPlace ∷ WrongHead ∷ NoFormula ∷ WrongInstance ∷
    WrongStart ∷ NoRoom ∷ ShortBuffer ∷ AnotherList ∷ TextTooLong ∷ TextTooLong ∷ NoProcess ∷
    ModelTooLarge ∷ TextTooLong ∷ TextTooLong ∷ TextTooLong ∷ NoEquation ∷ []
    ) n TextTooLong

named : (x : Reason) → reason_of (number_of x) ≡ x
named TextTooLong = refl
named NoDigit = refl
named NoLine = refl
named OutOfPlace = refl
named WrongHead = refl
named NoFormula = refl
named WrongInstance = refl
named WrongStart = refl
named NoRoom = refl
named ShortBuffer = refl
named AnotherList = refl
named NoProcess = refl
named ModelTooLarge = refl
named NoEquation = refl

pub one_number : (x y : Reason) → number_of x ≡ number_of y → x ≡ y
one_number x y same = sym (named x) ∙ ap reason_of same ∙ named y

-- no reason has the number 0, which says that there is none
pub some_number : (x : Reason) → number_of x ≡ 0 → ⊥
some_number TextTooLong h = omega (arith, h)
some_number NoDigit h = omega (arith, h)
some_number NoLine h = omega (arith, h)
some_number OutOfPlace h = omega (arith, h)
some_number WrongHead h = omega (arith, h)
some_number NoFormula h = omega (arith, h)
some_number WrongInstance h = omega (arith, h)
some_number WrongStart h = omega (arith, h)
some_number NoRoom h = omega (arith, h)
some_number ShortBuffer h = omega (arith, h)
some_number AnotherList h = omega (arith, h)
some_number NoProcess h = omega (arith, h)
some_number ModelTooLarge h = omega (arith, h)
some_number NoEquation h = omega (arith, h)

pub one_refusal : (r s : Refusal) → number_of r.reason ≡ number_of s.reason → r.line ≡ s.line → r ≡ s
one_refusal r s same line = grind (arith, one_number r.reason s.reason same, line)
