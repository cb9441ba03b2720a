-- ONE REPLY: for each public function two results that its contract allows are equal.
-- Each contract is an equation of the result.
use Rattle.std.specs.Prelude.{ℕ, ◌-◌, ◌<◌, min, ◌≡◌, Bool, true, cond, ◌&&◌, List, get_or}
use Rattle.meaning.specs.OneReply.{one_reply}

pub one_wide : (x : ℕ) {r s : ℕ} → (r ≡ x) × (r < 256) → (s ≡ x) × (s < 256) → r ≡ s
one_wide x p q = one_reply p.0 q.0

pub one_and : (a b : Bool) {r s : Bool} → r ≡ a && b → s ≡ a && b → r ≡ s
one_and a b = one_reply

pub one_smaller : (a b : ℕ) {r s : ℕ} → r ≡ min a b → s ≡ min a b → r ≡ s
one_smaller a b = one_reply

pub one_element : (list : List ℕ) (i : ℕ) {r s : ℕ} → r ≡ get_or list i 0 → s ≡ get_or list i 0 → r ≡ s
one_element list i = one_reply

pub one_implies : (a b : Bool) {r s : Bool} → r ≡ cond a b true → s ≡ cond a b true → r ≡ s
one_implies a b = one_reply

pub one_rest : (a b : ℕ) {r s : ℕ} → r ≡ a - b → s ≡ a - b → r ≡ s
one_rest a b = one_reply
