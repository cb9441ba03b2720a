-- The formulas that are still to be gone through, each with the numbers of the fixed points around it.
-- Those around bytes are the fixed points that end later; a new one ends where its formula does.
use Prim.Native.Nat.{ℕ, ◌+◌, ◌≤◌, ◌<◌}
use native.Mathlib.Omega.{arith}
use native.Mathlib.Decide.{ℕ_discrete}
use mathlib.Core.Path.{◌≡◌, refl}
use mathlib.Core.Bool.{Bool, true, false, ◌&&◌}
use mathlib.Core.List.{List, [], ◌∷◌}
use mathlib.Core.Logic.{◌⊎◌, inl, inr}
use lib.Dec.{ltb}
use lib.ListN.{length, get_or, set}
use lib.Seq.{get_or-set_same, get_or-set_other}
use borrow.Author.Tests.{ltb-true, ltb-false, lt-ltb, le-ltb, eq-eqb, ne_eqb}
use Rattle.meaning.specs.Logic.{◌and◌, ◌or◌, cases}
use Rattle.spelling.specs.Stands.{Stands}
use Rattle.translation.specs.Modal.{Modal, fixed_points}
use Rattle.translation.specs.Rules.{among, well_formed_formula}
use Rattle.inputs.specs.InputFrames.{spelled_modal}

-- ---- the numbers around the bytes from `at` to `end`, of the first `count` fixed points
pub record Scope (ends : List ℕ) (count : ℕ) (around : List ℕ) (at end : ℕ) : Type 0 where
  pub told : (m : ℕ) → m < count
      → ((among m around ≡ true) × (end ≤ get_or ends m 0)) ⊎ ((among m around ≡ false) × (get_or ends m 0 ≤ at))
  pub fresh : (m : ℕ) → count ≤ m → among m around ≡ false

pub none_around : (ends : List ℕ) (at end : ℕ) → Scope ends 0 [] at end
unfolding among
none_around ends at end = record { told = λ m l. absurd (omega arith); fresh = λ m l. refl }

module _ {ends : List ℕ} {count : ℕ} {around : List ℕ} {at end : ℕ} (h : Scope ends count around at end) where
  -- a part of the bytes
  pub narrowed : (from to : ℕ) → at ≤ from → to ≤ end → Scope ends count around from to
  narrowed from to l r = record {
    told = λ m k. elim (h.told m k) [
      | inl x ↦ inl (x.0, omega (arith, x.1))
      | inr x ↦ inr (x.0, omega (arith, x.1))
    ];
    fresh = h.fresh;
  }

  -- whether a number is around
  pub is_around : (m : ℕ) → at < end → ltb m count && ltb at (get_or ends m 0) ≡ among m around
  is_around m l = cases (ltb m count)
      (λ b. elim (h.told m (ltb-true m count b)) [
        | inl x ↦ rw (b, x.0, lt-ltb at (get_or ends m 0) (omega (arith, x.1))) refl
        | inr x ↦ rw (b, x.0, le-ltb at (get_or ends m 0) x.1) refl
      ])
      (λ b. rw (b, h.fresh m (ltb-false m count b)) refl)

  -- one more fixed point that ends at e
  module _ (e : ℕ) (place : count < length ends) where
    abbrev more : List ℕ
    more = set ends count e

    pub behind : e ≤ at → Scope more (count + 1) around at end
    behind l = record {
      told = λ m k. elim (ℕ_discrete m count) [
        | yes q ↦ inr (h.fresh m (omega (arith, q)), rw (q, get_or-set_same ends count e 0 place) l)
        | no d ↦ rw (get_or-set_other ends count m e 0 d) (h.told m (omega (arith, d)))
      ];
      fresh = λ m k. h.fresh m (omega arith);
    }

    pub within : end ≤ e → Scope more (count + 1) (count ∷ around) at end
    unfolding among ◌or◌
    within l = record {
      told = λ m k. elim (ℕ_discrete m count) [
        | yes q ↦ inl (rw (eq-eqb m count q) refl, rw (q, get_or-set_same ends count e 0 place) l)
        | no d ↦ rw (ne_eqb m count d, get_or-set_other ends count m e 0 d) (h.told m (omega (arith, d)))
      ];
      fresh = λ m k. rw (ne_eqb m count (λ q. omega (arith, q))) (h.fresh m (omega arith));
    }

-- ---- formulas that stand one after the other up to the end
pub record Pending : Type 0 where
  pub around : List ℕ
  pub formula : Modal

-- all of them are well-formed, where the next fixed point has number n
unfoldable pub all_formed : ℕ → List Pending → Bool
all_formed n [] = true
all_formed n (p ∷ ps) =
    well_formed_formula p.around n p.formula and all_formed (n + fixed_points p.formula) ps

unfoldable pub Placed : List ℕ → List ℕ → ℕ → ℕ → List Pending → Type 0
Placed s ends count at [] = at ≡ length s
Placed s ends count at (p ∷ ps) =
    Stands s at (spelled_modal p.formula) ×
    Scope ends count p.around at (at + length (spelled_modal p.formula)) ×
    Placed s ends count (at + length (spelled_modal p.formula)) ps

pub placed_behind : (s ends : List ℕ) (count e : ℕ) → count < length ends → (at : ℕ) (ps : List Pending) → e ≤ at
    → Placed s ends count at ps → Placed s (set ends count e) (count + 1) at ps
unfolding Placed
placed_behind s ends count e place at [] l h = h
placed_behind s ends count e place at (p ∷ ps) l h =
    let next = at + length (spelled_modal p.formula) in
    (h.0, behind h.1 e place l, placed_behind s ends count e place next ps (omega arith) h.2)

-- what is known at place `at`, where `whole` is whether the whole formula is well-formed
pub record Walk (s ends : List ℕ) (count at : ℕ) (whole : Bool) : Type 0 where
  pub pending : List Pending
  pub placed : Placed s ends count at pending
  pub same : whole ≡ all_formed count pending
