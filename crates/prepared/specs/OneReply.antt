-- ONE REPLY: for each public function two results that its contract allows are equal.
-- Each contract is an equation of the result.
use Rattle.std.specs.Prelude.{ℕ, ◌≡◌, List}
use Rattle.meaning.specs.OneReply.{one_reply}
use Rattle.prepared.specs.Prepared.{byte_at, end_at}

pub one_byte_at : (p : List ℕ) (i : ℕ) {r s : ℕ} → r ≡ byte_at p i → s ≡ byte_at p i → r ≡ s
one_byte_at p i = one_reply

pub one_end_at : (p : List ℕ) (i : ℕ) {r s : ℕ} → r ≡ end_at p i → s ≡ end_at p i → r ≡ s
one_end_at p i = one_reply
