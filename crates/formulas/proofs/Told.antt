-- How `Told` goes over what the decoder is made of, `then` and `when`; and `ToldWithin`, which has a limit.
-- By cases on what was told; where there is a byte the decoder is deep enough for one step.
use Prim.Native.Nat.{ℕ, zero, suc, ◌+◌, ◌≤◌, ◌<◌}
use native.Mathlib.Omega.{arith}
use mathlib.Core.Path.{◌≡◌, refl}
use mathlib.Core.Bool.{Bool, true, false, ◌&&◌}
use mathlib.Core.List.{List}
use lib.Dec.{eqb}
use lib.ListN.{length}
use Rattle.meaning.specs.Formulas.{Formula, constant}
use Rattle.formulas.specs.Decode.{Parsed, some, then, when}
use Rattle.formulas.specs.Bodies.{found, ends}
use Rattle.formulas.specs.Contract.{Told, refused, told, ToldWithin, within, past}

module _ {A B : Type 0} {P : A → Type 0} {Q : B → Type 0} where
  pub told_then : {p : Parsed A} {m e : ℕ} {ok : Bool} (k : A → ℕ → Parsed B) → Told P m p true
      → ((a : A) → P a → Told Q e (k a m) ok) → Told Q e (then p k) ok
  told_then k (told {a} h) f = f a h

  pub told_stop : {p : Parsed A} {m e : ℕ} (k : A → ℕ → Parsed B) → Told P m p false → Told Q e (then p k) false
  told_stop k refused = refused

  pub told_last : {p : Parsed A} {e : ℕ} {ok : Bool} (g : A → B) → Told P e p ok → ((a : A) → P a → Q (g a))
      → Told Q e (then p (λ a e. some (g a) e)) ok
  told_last g refused f = refused
  told_last g (told {a} h) f = told (f a h)

module _ {A : Type 0} {P : A → Type 0} {e : ℕ} where
  pub told_when : {p : Parsed A} {ok : Bool} (b : Bool) → b ≡ true → Told P e p ok → Told P e (when b p) ok
  told_when b h t = rw h t

  pub told_unless : (p : Parsed A) (b : Bool) → b ≡ false → Told P e (when b p) false
  told_unless p b h = rw h refused

-- what is told of one reading may be said in other words
pub told_map : {A : Type 0} {P Q : A → Type 0} {p : Parsed A} {e : ℕ} {ok : Bool} → Told P e p ok
    → ((a : A) → P a → Q a) → Told Q e p ok
told_map refused f = refused
told_map (told {a} h) f = told (f a h)

-- ---- a whole body
pub told_ends : {A : Type 0} {P : A → Type 0} {p : Parsed A} {e : ℕ} {ok : Bool} (z : ℕ) → Told P e p ok
    → ok && eqb e z ≡ ends z p
told_ends z refused = refl
told_ends z (told h) = refl

pub told_found : {P : Formula → Type 0} {p : Parsed Formula} {e : ℕ} → Told P e p true → P (found p)
told_found (told h) = h

pub told_lost : {P : Formula → Type 0} {p : Parsed Formula} {e : ℕ} → Told P e p false → found p ≡ constant false
told_lost refused = refl

-- ---- within a limit
module _ {A B : Type 0} {P : A → Type 0} {Q : B → Type 0} {limit size : ℕ} where
  pub within_last : {p : Parsed A} {e : ℕ} {ok : Bool} (g : A → B) → ToldWithin limit size P e p ok
      → ((a : A) → P a → Q (g a)) → ToldWithin limit size Q e (then p (λ a e. some (g a) e)) ok
  within_last g (within t) f = within (told_last g t f)
  within_last g (past x y) f = past x y

  pub within_then : {p : Parsed A} {low m e : ℕ} {ok : Bool} (k : A → ℕ → Parsed B) → ToldWithin low size P m p true
      → ((a : A) → P a → ToldWithin limit size Q e (k a m) ok) → ToldWithin limit size Q e (then p k) ok
  within_then k (within (told {a} h)) f = f a h

  pub within_stop : {p : Parsed A} {low m e : ℕ} (k : A → ℕ → Parsed B) → ToldWithin low size P m p false
      → ((a : A) (j : ℕ) → low < j → ToldWithin limit size Q e (k a j) false) → ToldWithin limit size Q e (then p k) false
  within_stop k (within refused) f = within refused
  within_stop k (past {a} {m} x y) f = f a m y

module _ {A : Type 0} {P : A → Type 0} {limit size e : ℕ} where
  pub within_when : {p : Parsed A} {ok : Bool} (b : Bool) → b ≡ true → ToldWithin limit size P e p ok
      → ToldWithin limit size P e (when b p) ok
  within_when b h t = rw h t

  -- with no limit before the end all is told
  pub told_whole : {p : Parsed A} {ok : Bool} → size ≤ limit → ToldWithin limit size P e p ok → Told P e p ok
  told_whole h (within t) = t
  told_whole h (past x y) = absurd (omega arith)

-- where there is a byte, the decoder is one step deep
pub deep : (s : List ℕ) (at : ℕ) (P : ℕ → Type 0) (n : ℕ) → length s ≤ n + at → at < length s
    → ((m : ℕ) → length s ≤ m + (at + 1) → P (suc m)) → P n
deep s at P zero l i f = absurd (omega arith)
deep s at P (suc m) l i f = f m (omega arith)
