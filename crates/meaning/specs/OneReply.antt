-- ONE REPLY: a promise that is an equation with what is promised allows one reply. "That two replies allowed
-- by the promise are equal is itself proved": for each public function a theorem `one-..` cites this one.
use Rattle.std.specs.Prelude.{◌≡◌}
use Rattle.std.proofs.Common.{sym, ◌∙◌}

pub one_reply : {A : Type 0} {promised a b : A} → a ≡ promised → b ≡ promised → a ≡ b
one_reply p q = p ∙ sym q
