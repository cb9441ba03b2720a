-- Whether two lists have the same words is told by whether they are equal, and so is how many are due.
-- By the two laws of `same`.
use Prim.Native.Nat.{ℕ}
use mathlib.Core.Path.{◌≡◌, refl, sym, ◌∙◌}
use mathlib.Core.Bool.{Bool, true, false, true≢false}
use mathlib.Core.List.{List}
use lib.Dec.{eqb}
use lib.Pointwise.{pointwise, bytes_decides}
use Rattle.std.specs.Prelude.{take, Some, Ok, Err}
use Rattle.refusals.specs.declared.Reason.TheVariants.{AnotherList}
use Rattle.meaning.specs.Logic.{Is→eq, eq→Is}
use Rattle.meaning.specs.Solution.{same}
use Rattle.meaning.proofs.Members.{same_eq, same_refl}
use Rattle.engine.specs.Told.{due}

pub equal_same : (a b : List ℕ) → a ≡ b → true ≡ same a b
equal_same a b e = rw (e, Is→eq (same_refl b)) refl

pub unequal_same : (a b : List ℕ) → (a ≡ b → ⊥) → false ≡ same a b
unequal_same a b n = of (same a b) refl
  where
    of : (c : Bool) → same a b ≡ c → false ≡ c
    of true e = absurd (n (same_eq a b (eq→Is e)))
    of false e = refl

-- how many words are due where a list is lent, and so many were found
module _ (n : ℕ) (table l : List ℕ) where
  pub due_same : pointwise eqb l (take n table) ≡ true → Ok n ≡ due (Some n) table (Some l)
  due_same e = rw (← equal_same l (take n table) ((bytes_decides l (take n table)).0 e)) refl

  pub due_other : pointwise eqb l (take n table) ≡ false → Err AnotherList ≡ due (Some n) table (Some l)
  due_other e = rw (← unequal_same l (take n table) (λ q. true≢false (sym ((bytes_decides l (take n table)).1 q) ∙ e))) refl
