-- The table of places, filled entry by entry: each entry is told by the one before it.
-- The entries below the next are those of their summands.
use Prim.Native.Nat.{ℕ, ◌+◌, ◌-◌, ◌*◌, ◌/◌, ◌%◌, ◌≤◌, ◌<◌}
use native.Mathlib.Omega.{arith}
use native.Mathlib.Decide.{ℕ_discrete}
use mathlib.Core.Path.{◌≡◌, refl, sym, ap, ◌∙◌, subst}
use mathlib.Core.List.{List}
use lib.ListN.{length, length-set, get_or, set}
use lib.Seq.{get_or-set_same, get_or-set_other}
use Rattle.meaning.specs.Logic.{Is}
use Rattle.translation.specs.Processes.{Process}
use Rattle.translation.specs.Modal.{Modal}
use Rattle.translation.specs.Rules.{well_formed_input}
use Rattle.inputs.specs.Sheet.{Sheet}
use Rattle.scans.specs.Summands.{nth_summand, PlaceOf, PlaceTold, Places}
use Rattle.scans.proofs.SummandFrames.{ruled}

-- the entries below k are right
abbrev Filled : Process → List ℕ → ℕ → Type 0
Filled process places k = (j i : ℕ) → j < length process.summands → i < 5 → 5 * (j + 1) + i < k
    → PlaceOf (nth_summand process j) i (get_or places (5 * (j + 1) + i) 0)

pub record Placing (s places : List ℕ) (k : ℕ) : Type 0 where
  pub size : length places ≡ 85
  pub low : 5 ≤ k
  pub near : k ≤ 85
  pub so_far : (process : Process) (f : Modal) → Sheet process f s → Is (well_formed_input process f)
      → Filled process places k

module _ {s places : List ℕ} {k : ℕ} (h : Placing s places k) where
  more_filled : {v : ℕ} → PlaceTold s (k / 5) (k % 5) (get_or places (k - 1) 0) v → k < 85
      → (process : Process) (f : Modal) → Sheet process f s → Is (well_formed_input process f)
      → Filled process (set places k v) (k + 1)
  more_filled {v} t inside process f sheet p j i l m n = elim (ℕ_discrete (5 * (j + 1) + i) k) [
    | yes e ↦
        let there : k < length places = omega (arith, h.size) in
        let number : k % 5 ≡ i = omega (arith, e) in
        let x = nth_summand process j in
        let before : (m : ℕ) → k % 5 ≡ m + 1 → PlaceOf x m (get_or places (k - 1) 0) = λ o z.
        let last : 5 * (j + 1) + o ≡ k - 1 = omega (arith, e, z, number) in
        subst (λ (n : ℕ). PlaceOf x o (get_or places n 0)) last
        (h.so_far process f sheet p j o l (omega (arith, z, number)) (omega (arith, last, h.low))) in
        let told = t.told process f j sheet p (omega (arith, e)) l before in
        subst (λ (n : ℕ). PlaceOf x i (get_or (set places k v) n 0)) (sym e)
        (rw (get_or-set_same places k v 0 there) (subst (λ (n : ℕ). PlaceOf x n v) number told))
    | no d ↦
        rw (get_or-set_other places k (5 * (j + 1) + i) v 0 d) (h.so_far process f sheet p j i l m (omega (arith, n, d)))
  ]

  pub placing_more : {v : ℕ} → PlaceTold s (k / 5) (k % 5) (get_or places (k - 1) 0) v → k < 85
      → Placing s (set places k v) (k + 1)
  placing_more {v} t inside = record {
    size = length-set places k v ∙ h.size;
    low = omega (arith, h.low);
    near = omega arith;
    so_far = more_filled t inside;
  }

  pub all_placed : 85 ≤ k → Places s places
  all_placed done = record {
    size = h.size;
    placed = λ process f sheet p.
        let few = (ruled process f p).few in
        let filled = h.so_far process f sheet p in
        record {
          action = λ j l.
              let here : 5 * (j + 1) + 0 ≡ 5 * (j + 1) = omega arith in
              sym (ap (λ (n : ℕ). get_or places n 0) here)
              ∙ (filled j 0 l (omega arith) (omega (arith, few, l, done))).action refl;
          next = λ j i l m.
              let terms = (ruled process f p).few_terms j l in
              let here : 5 * (j + 1) + (i + 1) ≡ 5 * (j + 1) + 1 + i = omega arith in
              sym (ap (λ (n : ℕ). get_or places n 0) here) ∙
              (filled j (i + 1) l (omega (arith, m, terms)) (omega (arith, few, l, m, terms, done))).next i refl m;
        };
  }
