-- Iteration from the empty (least) or the full set (greatest) ends at the fixed point, one step an argument.
-- Each step that changes something moves an argument away from where it started, and none ever moves back.
use Prim.Native.Nat.{ℕ, zero, suc, ◌+◌, ◌≤◌, ◌<◌}
use Rattle.std.proofs.Common.{arith, sym, inl, inr, ⊎_elim}
use Rattle.std.specs.Prelude.{◌≡◌, refl, Bool, true, false, List, [], ◌∷◌, ◌⊎◌, length}
use Rattle.meaning.specs.Logic.{◌and◌, Is, is, never, and_r, or_e}
use Rattle.meaning.specs.Order.{Below, up, down, below_trans, below_antisym, below_of_eq}
use Rattle.meaning.specs.Solution.{Args, Set, mem, fix}
use Rattle.meaning.proofs.Members.{same_eq}
use Rattle.meaning.specs.Sets.{Within}
use Rattle.meaning.specs.FixedPoints.{Ordered, Ordered_on, Closed, Mono}
use Rattle.meaning.proofs.FixedPoints.{mono_to}
use Rattle.meaning.specs.FixedPoints.{part}
use Rattle.meaning.proofs.FixedPoints.{part_in, part_within, part_ordered, inside}
use Rattle.meaning.proofs.FixedPoints.{fix_below, fix_within, fix_equal}
use Rattle.meaning.specs.Iteration.{iterated}

-- how many elements of D have left their start
moved_one : Bool → Bool → ℕ
moved_one false false = 0
moved_one false true = 1
moved_one true false = 1
moved_one true true = 0

moved : Bool → List Args → Set → ℕ
moved s [] S = 0
moved s (x ∷ D) S = moved_one s (S x) + moved s D S

moved_one_bound : (s b : Bool) → moved_one s b ≤ 1
unfolding moved_one
moved_one_bound false false = omega arith
moved_one_bound false true = omega arith
moved_one_bound true false = omega arith
moved_one_bound true true = omega arith

moved_bound : (s : Bool) (D : List Args) (S : Set) → moved s D S ≤ length D
unfolding moved
moved_bound s [] S = omega arith
moved_bound s (x ∷ D) S = omega (arith, moved_bound s D S, moved_one_bound s (S x))

-- if all have, each is at the far end
moved_one_far : (s a b : Bool) → 0 < moved_one s b → Below s a b
unfolding moved_one
moved_one_far false a false h = absurd (omega arith)
moved_one_far false a true h = up (λ _. is)
moved_one_far true a false h = down never
moved_one_far true a true h = absurd (omega arith)

moved_far : (s : Bool) (D : List Args) (S : Set) → length D ≤ moved s D S →
    (x : Args) → Is (mem x D) → (a : Bool) → Below s a (S x)
unfolding moved mem
moved_far s [] S h x m a = never m
moved_far s (y ∷ D) S h x m a = ⊎_elim
    (λ e. rw (same_eq x y e) (moved_one_far s a (S y) (omega (arith, moved_bound s D S))))
    (λ k. moved_far s D S (omega (arith, moved_one_bound s (S y))) x k a) (or_e _ _ m)

-- one set above another: nothing changed, or more have moved
abbrev Unchanged_or_moved : Bool → Bool → Bool → Type 0
Unchanged_or_moved s a b = (Below s b a × (moved_one s a ≡ moved_one s b)) ⊎ (moved_one s a < moved_one s b)

moved_one_step : (s a b : Bool) → Below s a b → Unchanged_or_moved s a b
unfolding moved_one
moved_one_step false false false h = inl (h, refl)
moved_one_step false false true h = inr (omega arith)
moved_one_step false true false (up f) = never (f is)
moved_one_step false true true h = inl (h, refl)
moved_one_step true false false h = inl (h, refl)
moved_one_step true false true (down f) = never (f is)
moved_one_step true true false h = inr (omega arith)
moved_one_step true true true h = inl (h, refl)

abbrev Unchanged_or_more : Bool → List Args → Set → Set → Type 0
Unchanged_or_more s D S S' =
    (Ordered_on (λ x. mem x D) s S' S × (moved s D S ≡ moved s D S')) ⊎ (moved s D S < moved s D S')

moved_step : (s : Bool) (D : List Args) (S S' : Set) → Ordered s S S' → Unchanged_or_more s D S S'
unfolding moved mem
moved_step s [] S S' h = inl ((λ x m. never m), refl)
moved_step s (y ∷ D) S S' h = go (moved_one_step s (S y) (S' y) (h y)) (moved_step s D S S' h)
  where
    back : Below s (S' y) (S y) → Ordered_on (λ x. mem x D) s S' S → Ordered_on (λ x. mem x (y ∷ D)) s S' S
    back l b x m = ⊎_elim (λ e. rw (same_eq x y e) l) (b x) (or_e _ _ m)

    go : Unchanged_or_moved s (S y) (S' y) → Unchanged_or_more s D S S' → Unchanged_or_more s (y ∷ D) S S'
    go (inl p) (inl q) = inl (back p.0 q.0, omega arith)
    go (inl p) (inr q) = inr (omega arith)
    go (inr p) (inl q) = inr (omega arith)
    go (inr p) (inr q) = inr (omega arith)

start_below : (s : Bool) (D : List Args) (S : Set) → Within D S → (x : Args) → Below s (s and mem x D) (S x)
unfolding ◌and◌
start_below false D S w x = up never
start_below true D S w x = down (w x)

module _ (s : Bool) (D : List Args) (F : Set → Set) (m : Mono F) where
  iterated_within : (n : ℕ) → Within D (iterated s D F n)
  unfolding iterated
  iterated_within zero x h = and_r _ _ h
  iterated_within (suc n) x h = part_within D _ x h

  iterated_rises : (n : ℕ) → Ordered s (iterated s D F n) (iterated s D F (suc n))
  unfolding iterated
  iterated_rises zero x = start_below s D _ (part_within D _) x
  iterated_rises (suc n) x = part_ordered s D _ _ (mono_to s F m _ _ (iterated_rises n)) x

  iterated_below : (n : ℕ) → Ordered s (iterated s D F n) (fix s D F)
  unfolding iterated
  iterated_below zero x = start_below s D _ (fix_within s D F) x
  iterated_below (suc n) x =
      below_trans (part_ordered s D _ _ (mono_to s F m _ _ (iterated_below n)) x)
      (below_of_eq s (fix_equal s D F m x))

  iterated_closed : (n : ℕ) → Closed s D F (iterated s D F n) → (x : Args) → iterated s D F n x ≡ fix s D F x
  iterated_closed n c x = below_antisym (iterated_below n x) (fix_below s D F _ (iterated_within n) c x)

  closed_of_back : (n : ℕ) → Ordered_on (λ x. mem x D) s (iterated s D F (suc n)) (iterated s D F n) →
      Closed s D F (iterated s D F n)
  unfolding iterated
  closed_of_back n b x i = below_trans (below_of_eq s (sym (part_in D _ x i))) (b x i)

  -- a step that changes nothing ends it
  pub iterated_stable : (n : ℕ) →
      ((x : Args) → Is (mem x D) → iterated s D F (suc n) x ≡ iterated s D F n x) →
      (x : Args) → iterated s D F n x ≡ fix s D F x
  iterated_stable n e = iterated_closed n (closed_of_back n (λ x i. below_of_eq s (e x i)))

  closed_step : (n : ℕ) → Closed s D F (iterated s D F n) → Closed s D F (iterated s D F (suc n))
  unfolding iterated
  closed_step n c x i = below_trans (mono_to s F m _ _ below x) (below_of_eq s (sym (part_in D _ x i)))
    where
      below : Ordered s (part D (F (iterated s D F n))) (iterated s D F n)
      below = inside s D _ _ (part_within D _) (iterated_within n)
          (λ y j. below_trans (below_of_eq s (part_in D _ y j)) (c y j))

  abbrev Ended_or_moved : ℕ → Type 0
  Ended_or_moved n = Closed s D F (iterated s D F n) ⊎ (n ≤ moved s D (iterated s D F n))

  progress : (n : ℕ) → Ended_or_moved n
  progress zero = inr (omega arith)
  progress (suc n) = go (progress n) (moved_step s D _ _ (iterated_rises n))
    where
      go : Ended_or_moved n → Unchanged_or_more s D (iterated s D F n) (iterated s D F (suc n)) →
          Ended_or_moved (suc n)
      go (inl c) q = inl (closed_step n c)
      go (inr h) (inl b) = inl (closed_step n (closed_of_back n b.0))
      go (inr h) (inr l) = inr (omega arith)

  -- as many steps as there are arguments are enough
  pub iterated_reaches : (n : ℕ) → length D ≤ n → (x : Args) → iterated s D F n x ≡ fix s D F x
  iterated_reaches n l = iterated_closed n (go (progress n))
    where
      go : Ended_or_moved n → Closed s D F (iterated s D F n)
      go (inl c) = c
      go (inr h) = λ x i. moved_far s D (iterated s D F n) (omega arith) x i _
