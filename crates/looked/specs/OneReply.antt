-- ONE REPLY: for each public function two results that its contract allows are equal.
-- Each contract is an equation of the result.
use Rattle.std.specs.Prelude.{ℕ, ◌≡◌, Bool}
use Rattle.meaning.specs.OneReply.{one_reply}
use Rattle.looked.specs.declared.Looked.{Looked}
use Rattle.looked.specs.Looked.{only, both, looks_at}
use Rattle.looked.specs.Alone.{alone}

pub one_alone : {T : Type 0} (value : T) {r s : Looked T} → r ≡ alone value → s ≡ alone value → r ≡ s
one_alone value = one_reply

pub one_only : (i : ℕ) {r s : ℕ} → r ≡ only i → s ≡ only i → r ≡ s
one_only i = one_reply

pub one_both : (a b : ℕ) {r s : ℕ} → r ≡ both a b → s ≡ both a b → r ≡ s
one_both a b = one_reply

pub one_looks_at : (set i : ℕ) {r s : Bool} → r ≡ looks_at set i → s ≡ looks_at set i → r ≡ s
one_looks_at set i = one_reply
