-- What a test tells, and an equation's frame as the code judges it, by the record that it makes.
-- A test has two values; those of a refusal are rewritten one after the other, in the order of the definition.
use Prim.Native.Nat.{ℕ, ◌+◌, ◌-◌, ◌<◌}
use native.Mathlib.Omega.{arith}
use mathlib.Core.Path.{◌≡◌, refl, ◌∙◌}
use mathlib.Core.Bool.{Bool, true, false, cond, not, ◌&&◌, and-eq-true_iff}
use mathlib.Core.List.{List}
use lib.ListN.{length, take, drop, length-drop}
use lib.Seq.{take_all}
use borrow.Author.Tests.{lt-ltb}
use Rattle.formulas.specs.declared.Equation.{Equation}
use Rattle.formulas.specs.Bodies.{ranges_of, is_body}
use Rattle.reading.specs.Contract.{is_head}
use Rattle.reading.specs.Equations.{ranges_in, body_in, is_valid_head}
use Rattle.reading.specs.Reading.{equation_refusal}
use Rattle.reading.specs.Records.{equation_record}

pub &&-left : (a b : Bool) → a && b ≡ true → a ≡ true
&&-left a b h = ((and-eq-true_iff a b).0 h).0

pub &&-right : (a b : Bool) → a && b ≡ true → b ≡ true
&&-right a b h = ((and-eq-true_iff a b).0 h).1

-- where a test would give a number other than 0, and 0 came, the test holds
pub passed : {A : Type 0} (number : A → ℕ) (b : Bool) {r x : A} → number (cond b r x) ≡ 0 → 0 < number x
    → (b ≡ true) × (number r ≡ 0)
passed number true e h = (refl, e)
passed number false e h = absurd (omega arith)

-- ---- an equation's frame
-- before the start and not the ninth: the head decides, and then the body
pub equation_judged : (n : ℕ) (f : List ℕ) {started head body : Bool} → started ≡ false → n < 8 → head ≡ is_valid_head f
    → body ≡ is_body (body_in f) (ranges_in f) → cond head (cond body 0 6) 5 ≡ equation_refusal n (not started) f
unfolding equation_refusal
equation_judged n f s l h b = rw (s, lt-ltb n 8 l, ← h, ← b) refl

module _ (f : List ℕ) {e : Equation} (ee : e ≡ equation_record 0 f) where
  pub head_is : {h : Bool} → h ≡ is_head (length f) e → h ≡ is_valid_head f
  unfolding is_valid_head equation_record
  head_is hh = hh ∙ rw ee refl

  pub body_is : {k : ℕ} {b : Bool} → k ≡ e.k → b ≡ is_body (take (length f - (3 + k)) (drop (3 + k) f)) (ranges_of e)
      → b ≡ is_body (body_in f) (ranges_in f)
  unfolding equation_record
  body_is {k} kk bb =
      bb ∙ rw (take_all (length f - (3 + k)) (drop (3 + k) f) (omega (arith, length-drop (3 + k) f)), kk, ee) refl
