-- ONE REPLY: for each public function two results that its contract allows are equal.
-- Each contract is an equation of the result.
use Rattle.std.specs.Prelude.{ℕ, ◌≡◌, List, get_or}
use Rattle.meaning.specs.OneReply.{one_reply}
use Rattle.digits.specs.Digits.{worth_of, bytes_of, padded, digit_of}

pub one_worth : (b : ℕ) {r s : ℕ} → r ≡ worth_of b → s ≡ worth_of b → r ≡ s
one_worth b = one_reply

pub one_byte : (characters : List ℕ) (i : ℕ) {r s : ℕ}
    → r ≡ get_or (bytes_of characters) i 0 → s ≡ get_or (bytes_of characters) i 0 → r ≡ s
one_byte characters i = one_reply

pub one_bytes : (characters : List ℕ) {r s : List ℕ}
    → r ≡ padded (bytes_of characters) → s ≡ padded (bytes_of characters) → r ≡ s
one_bytes characters = one_reply

pub one_digit : (n : ℕ) {r s : ℕ} → r ≡ digit_of n → s ≡ digit_of n → r ≡ s
one_digit n = one_reply
