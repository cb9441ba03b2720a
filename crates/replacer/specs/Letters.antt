-- Definitions that the theorems of `proofs/Letters` speak of.
-- Each stands alone; what follows from them is there.
use Rattle.std.specs.Prelude.{ℕ, ◌≡◌}
use mathlib.Core.List.{List, ◌++◌}
use Rattle.digits.specs.Digits.{in_small_letters}
use Rattle.reading.specs.Equations.{body_in}
use Rattle.replacer.specs.Replaced.{equation_frame}
use Rattle.replacer.specs.Replaced.{replaced_text, old_side}

-- ---- the old right side written in
-- the text, parted where the right side of equation e stands, and what is written with its bytes
pub record WithOwn (t : List ℕ) (e : ℕ) : Type 0 where
  pub before : List ℕ
  pub after : List ℕ
  pub text : t ≡ before ++ (old_side t e ++ after)
  pub result : replaced_text t e (body_in (equation_frame t e).bytes)
      ≡ before ++ (in_small_letters (old_side t e) ++ after)
