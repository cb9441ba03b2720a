-- `over` in parts: the values of a stretch are those below a place between its ends and those from it on.
-- By induction over the first part, for any way to join that is associative and drops `unit` in front.
use Prim.Native.Nat.{ℕ, zero, suc, ◌+◌, ◌-◌, ◌≤◌, ◌<◌}
use native.Mathlib.Omega.{arith}
use Rattle.std.specs.Prelude.{◌≡◌, refl}
use Rattle.std.proofs.Common.{sym, ◌∙◌}
use Rattle.std.proofs.Math.Path.{ap}
use Rattle.meaning.specs.Logic.{over}

-- p at the values from `from` on and below `to`
abbrev pub between : {A : Type 0} → (A → A → A) → A → ℕ → ℕ → (ℕ → A) → A
between joined unit from to p = over joined unit from (to - from) p

pub between_one : {A : Type 0} (joined : A → A → A) (unit : A) (p : ℕ → A) {from to : ℕ} →
    from < to → to ≤ from + 1 → between joined unit from to p ≡ joined (p from) unit
unfolding over
between_one joined unit p {from} {to} l h = let one : to - from ≡ 1 = omega arith in rw one refl

module _ {A : Type 0} (joined : A → A → A) (unit : A)
    (associative : (x y z : A) → joined x (joined y z) ≡ joined (joined x y) z)
    (unit_first : (x : A) → joined unit x ≡ x) (p : ℕ → A) where
  over_parts : (v a b : ℕ) →
      joined (over joined unit v a p) (over joined unit (v + a) b p) ≡ over joined unit v (a + b) p
  unfolding over
  over_parts v zero b =
      let e : v + 0 ≡ v = omega arith in
      let z : 0 + b ≡ b = omega arith in
      rw (e, z) (unit_first (over joined unit v b p))
  over_parts v (suc a) b =
      let e : v + suc a ≡ v + 1 + a = omega arith in
      let z : suc a + b ≡ suc (a + b) = omega arith in
      rw (e, z) (sym (associative (p v) _ _) ∙ ap (joined (p v)) (over_parts (v + 1) a b))

  pub between_parts : {from mid to : ℕ} → from ≤ mid → mid ≤ to →
      joined (between joined unit from mid p) (between joined unit mid to p) ≡ between joined unit from to p
  between_parts {from} {mid} {to} l h =
      let e : from + (mid - from) ≡ mid = omega arith in
      let z : mid - from + (to - mid) ≡ to - from = omega arith in
      rw (e, z) at (over_parts from (mid - from) (to - mid))
