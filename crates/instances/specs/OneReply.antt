-- ONE REPLY: for each public function two results that its contract allows are equal.
-- Each contract is an equation of the result.
use Rattle.std.specs.Prelude.{ℕ, ◌≡◌, Bool, List, Option}
use Rattle.meaning.specs.OneReply.{one_reply}
use Rattle.formulas.specs.declared.Equation.{Equation}
use Rattle.truth.specs.Bits.{bit_of}
use Rattle.words.specs.Unpacked.{equation_number}
use Rattle.prepared.specs.Prepared.{prepared_part}
use Rattle.instances.specs.Sides.{is_true, side_of}

pub one_body_of : (bodies : List ℕ) (w : ℕ) {r s : List ℕ}
    → r ≡ prepared_part bodies (equation_number w) → s ≡ prepared_part bodies (equation_number w) → r ≡ s
one_body_of bodies w = one_reply

pub one_is_true : (value : Option Bool) {r s : Bool} → r ≡ is_true value → s ≡ is_true value → r ≡ s
one_is_true value = one_reply

pub one_right_side : (bodies : List ℕ) (equations : List Equation) (w : ℕ) (table truth : List ℕ)
    {r s : Option Bool} → r ≡ side_of bodies equations table (bit_of truth) w
    → s ≡ side_of bodies equations table (bit_of truth) w → r ≡ s
one_right_side bodies equations w table truth = one_reply
