-- THEOREMS: which refusal is given, and when: five causes in their order, each with its refusal.
-- The definition's tests are gone through one after the other.
use Rattle.std.specs.Prelude.{ℕ, ◌≤◌, ◌<◌, ◌≡◌, List, eqb, ltb, leb, length}
use Rattle.std.proofs.Common.{arith, ap, leb-true, leb-false}
use Rattle.std.proofs.Math.Path.{refl}
use borrow.Author.Tests.{eq-eqb, ne_eqb, eqb-true, eqb-false, lt-ltb, le-ltb, ltb-true, ltb-false, le-leb}
use borrow.Author.Tests.{lt-leb}
use Rattle.meaning.specs.Logic.{cases}
use Rattle.reading.specs.Reading.{Refusal, refused, text_refusal}
use Rattle.reading.proofs.LineNumbers.{refusal_bounded}
use Rattle.answers.specs.Demand1.{◌exactly_when◌}
use Rattle.replacer.specs.Replaced.{replaced_text, replacement_refusal}
use Rattle.replacer.specs.Order.{Accepted, Due, count_in, new_text, no_room, none, not_there, old_text}

module _ {t : List ℕ} {e : ℕ} {side : List ℕ} {room : ℕ} where
  -- THEOREM: what is due is given
  pub due_given : {r : Refusal} → Due t e side room r → replacement_refusal t e side room ≡ r
  unfolding replacement_refusal
  due_given (old_text n) = rw (ne_eqb _ 0 n) refl
  due_given (not_there z c) = rw (eq-eqb _ 0 z, le-ltb e _ c) refl
  due_given (new_text z c n) = rw (eq-eqb _ 0 z, lt-ltb e _ c, ne_eqb _ 0 n) refl
  due_given (no_room z c y l) = rw (eq-eqb _ 0 z, lt-ltb e _ c, eq-eqb _ 0 y, lt-leb _ room l) refl
  due_given (none z c y l) = rw (eq-eqb _ 0 z, lt-ltb e _ c, eq-eqb _ 0 y, le-leb _ room l) refl

module _ (t : List ℕ) (e : ℕ) (side : List ℕ) (room : ℕ) where
  -- THEOREM: and nothing else is
  pub every_refusal : Due t e side room (replacement_refusal t e side room)
  every_refusal = cases (eqb (text_refusal t).number 0)
      (λ z. by_equation (eqb-true _ 0 z)) (λ n. told (old_text (eqb-false _ 0 n)))
    where
      told : {r : Refusal} → Due t e side room r → Due t e side room (replacement_refusal t e side room)
      told d = rw (due_given d) d

      by_room : (text_refusal t).number ≡ 0 → e < count_in t
          → (text_refusal (replaced_text t e side)).number ≡ 0
          → Due t e side room (replacement_refusal t e side room)
      by_room z c y = cases (leb (length (replaced_text t e side)) room)
          (λ l. told (none z c y (leb-true _ room l))) (λ l. told (no_room z c y (leb-false _ room l)))

      by_result : (text_refusal t).number ≡ 0 → e < count_in t
          → Due t e side room (replacement_refusal t e side room)
      by_result z c = cases (eqb (text_refusal (replaced_text t e side)).number 0)
          (λ y. by_room z c (eqb-true _ 0 y)) (λ n. told (new_text z c (eqb-false _ 0 n)))

      by_equation : (text_refusal t).number ≡ 0 → Due t e side room (replacement_refusal t e side room)
      by_equation z = cases (ltb e (count_in t))
          (λ c. by_result z (ltb-true e _ c)) (λ c. told (not_there z (ltb-false e _ c)))

module _ {t : List ℕ} {e : ℕ} {side : List ℕ} {room : ℕ} where
  causes : {r : Refusal} → Due t e side room r
      → (r.number ≡ 0 → Accepted t e side room)
      × (r.number ≡ 19 → ((text_refusal t).number ≡ 0) × (count_in t ≤ e))
  causes (old_text n) = ((λ z. absurd (n z)), λ x. absurd (omega (arith, (refusal_bounded t).0)))
  causes (not_there z c) = ((λ y. absurd (omega arith)), λ x. (z, c))
  causes (new_text z c n) =
      ((λ y. absurd (n y)), λ x. absurd (omega (arith, (refusal_bounded (replaced_text t e side)).0)))
  causes (no_room z c y l) = ((λ x. absurd (omega arith)), λ x. absurd (omega arith))
  causes (none z c y l) =
      ((λ x. record { read = z; there = c; result = y; room_enough = l }), λ x. absurd (omega arith))

  bounded : {r : Refusal} → Due t e side room r → r.line ≤ 32769
  bounded (old_text n) = (refusal_bounded t).1
  bounded (not_there z c) = omega arith
  bounded (new_text z c n) = (refusal_bounded (replaced_text t e side)).1
  bounded (no_room z c y l) = omega arith
  bounded (none z c y l) = omega arith

module _ (t : List ℕ) (e : ℕ) (side : List ℕ) (room : ℕ) where
  pub written_exactly : ((replacement_refusal t e side room).number ≡ 0) exactly_when Accepted t e side room
  written_exactly = (
    (causes (every_refusal t e side room)).0,
    λ a. ap (λ (r : Refusal). r.number) (due_given (none a.read a.there a.result a.room_enough)),
  )

  -- "19, line 0, exactly when the equation isn't there", of a text that is read
  pub nineteen_exactly : ((replacement_refusal t e side room).number ≡ 19) exactly_when
      (((text_refusal t).number ≡ 0) × (count_in t ≤ e))
  nineteen_exactly = (
    (causes (every_refusal t e side room)).1,
    λ p. ap (λ (r : Refusal). r.number) (due_given (gone p)),
  )
    where
      gone : ((text_refusal t).number ≡ 0) × (count_in t ≤ e) → Due t e side room (refused 19 0)
      gone p = not_there p.0 p.1

  -- no line is past the one after the last that a text can have
  pub replacement_low : (replacement_refusal t e side room).line ≤ 32769
  replacement_low = bounded (every_refusal t e side room)
