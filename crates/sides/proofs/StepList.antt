-- The list of steps: what is written behind some steps leaves them as they are, and a step written there is one more.
-- The first n steps are the first n of the list.
use Prim.Native.Nat.{ℕ, suc, ◌+◌, ◌≤◌, ◌<◌}
use native.Mathlib.Omega.{arith}
use mathlib.Core.Path.{◌≡◌, refl, sym, ◌∙◌, ap, subst}
use mathlib.Core.List.{List, ◌∷◌}
use lib.ListN.{length, get_or, take, set, length-set}
use lib.Seq.{take-take, take-set-le, get_or-take, get_or-set_same}
use Rattle.translation.specs.Processes.{Process}
use Rattle.sides.specs.declared.Listed.{Listed}
use Rattle.sides.specs.declared.Spot.{Spot}
use Rattle.sides.specs.Steps.{Step, Stacked, none, more, listed, no_step}
use Rattle.sides.specs.Told.{Kept}

-- ---- the first steps as before
less_kept : (a b : List Listed) (m n : ℕ) → m ≤ n → take n a ≡ take n b → take m a ≡ take m b
less_kept a b m n l e = sym (take-take m n a l) ∙ ap (take m) e ∙ take-take m n b l

step_kept : (a b : List Listed) (i n : ℕ) → i < n → take n a ≡ take n b → get_or a i no_step ≡ get_or b i no_step
step_kept a b i n l e =
    sym (get_or-take n a i no_step l) ∙ ap (λ (x : List Listed). get_or x i no_step) e ∙ get_or-take n b i no_step l

-- ---- the steps as before
pub stacked_kept : (process : Process) (steps after : List Listed) (n : ℕ) (ss : List Step) → take n after ≡ take n steps
    → Stacked process steps n ss → Stacked process after n ss
stacked_kept process steps after _ _ e none = none
stacked_kept process steps after _ _ e (more {n} {s} {ss} a b c h) =
    more a b (step_kept after steps n (suc n) (omega arith) e ∙ c)
    (stacked_kept process steps after n ss (less_kept after steps n (suc n) (omega arith) e) h)

-- ---- one step more
module _ (process : Process) (steps : List Listed) (n : ℕ) (ss : List Step) (s : Step) where
  abbrev pub with_step : List Listed
  with_step = set steps n (listed (s.index + 1) s.quantifiers)

  pub stacked_more : Stacked process steps n ss → s.index < length process.summands → s.quantifiers ≤ 4
      → n < length steps → Stacked process with_step (n + 1) (s ∷ ss)
  stacked_more h j q l =
      let next : suc n ≡ n + 1 = omega arith in
      subst (λ (m : ℕ). Stacked process with_step m (s ∷ ss)) next
      (more j q (get_or-set_same steps n (listed (s.index + 1) s.quantifiers) no_step l)
      (stacked_kept process steps with_step n ss (take-set-le n steps n (listed (s.index + 1) s.quantifiers) (omega arith)) h))

-- ---- `Kept`: nothing written, one part after another, under more steps, and one step written
pub kept_same : (steps : List Listed) (spot : Spot) → Kept steps spot steps
kept_same steps spot = record { long = refl; same = refl }

pub kept_then : {spot : Spot} {steps one two : List Listed} → Kept steps spot one → Kept one spot two → Kept steps spot two
kept_then a b = record { long = b.long ∙ a.long; same = b.same ∙ a.same }

pub kept_around : {deeper : Spot} {steps one : List Listed} (spot : Spot) → spot.depth ≤ deeper.depth → Kept steps deeper one
    → Kept steps spot one
kept_around {deeper} {steps} {one} spot l a =
    record { long = a.long; same = less_kept one steps spot.depth deeper.depth l a.same }

pub kept_written : (spot : Spot) (steps : List Listed) (x : Listed) → Kept steps spot (set steps spot.depth x)
kept_written spot steps x = record {
  long = length-set steps spot.depth x;
  same = take-set-le spot.depth steps spot.depth x (omega arith);
}
