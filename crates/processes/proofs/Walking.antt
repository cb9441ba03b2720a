-- The walk over the codes of a frame, whatever stands in it: what every turn keeps, and what is told where it ends.
-- If the frame holds a formula, what is left of it tells whether it is well-formed (`Walk`).
use Prim.Native.Nat.{ℕ, ◌+◌, ◌≤◌, ◌<◌}
use native.Mathlib.Omega.{arith}
use mathlib.Core.Path.{◌≡◌, refl, sym, ap, ◌∙◌}
use mathlib.Core.Bool.{true, false, ◌&&◌}
use mathlib.Core.List.{List, []}
use lib.Dec.{ltb}
use lib.ListN.{length, length-set, replicate, get_or, take}
use lib.Seq.{get_or-take, length-take-le}
use borrow.Author.Tests.{ltb-true}
use Rattle.std.specs.Prelude.{None}
use Rattle.meaning.specs.Logic.{cases}
use Rattle.spelling.specs.Stands.{Stands}
use Rattle.translation.specs.Modal.{Modal}
use Rattle.translation.specs.Rules.{well_formed_formula}
use Rattle.inputs.specs.InputFrames.{spelled_modal}
use Rattle.scans.specs.Formulas.{is_fixed}
use Rattle.processes.specs.Ends.{ModalEnds, action_stands, variable_stands, WellFormedTold}
use Rattle.processes.proofs.Rows.{width, width_most}
use Rattle.processes.proofs.Pending.{Walk}
use Rattle.processes.proofs.Turning.{Opened, opened, not_opened, walk_start}
use Rattle.processes.proofs.Turning.{walk_coded, walk_ended, walk_stops, walk_goes, walk_done}

pub record Walking (s ends : List ℕ) (count at : ℕ) : Type 0 where
  pub size : length ends ≡ 256
  pub few : count < at
  pub near : at ≤ 260
  pub walk : (f : Modal) → Stands s 1 (spelled_modal f) → length s ≡ 1 + length (spelled_modal f)
      → Walk s ends count at (well_formed_formula [] 0 f)

pub walking_start : (s : List ℕ) → Walking s (replicate 256 0) 0 1
walking_start s = record {
  size = refl;
  few = omega arith;
  near = omega arith;
  walk = walk_start s (replicate 256 0);
}

pub opened_size : {s ends ends' : List ℕ} {at count count' : ℕ} → Opened s at ends count ends' count' → length ends' ≡ length ends
opened_size {ends = ends} {count = count} (opened e x y q r) = ap length q ∙ length-set ends count e
opened_size (not_opened x q r) = ap length q

pub opened_count : {s ends ends' : List ℕ} {at count count' : ℕ} → Opened s at ends count ends' count' → count' ≤ count + 1
opened_count (opened e x y q r) = omega arith
opened_count (not_opened x q r) = omega arith

module _ {s ends : List ℕ} {count at : ℕ} (w : Walking s ends count at) where
  pub walking_done : length s ≤ at → WellFormedTold s true
  walking_done l = record { told = λ f h e. sym (walk_done (w.walk f h e) l) }

  pub walking_none : at < length s → width s at ≡ 0 → WellFormedTold s false
  walking_none l x = record { told = λ f h e. absurd (walk_coded (w.walk f h e) l x) }

  pub walking_ended : at < length s → is_fixed (get_or s at 0) ≡ true → ModalEnds s (at + 1) None → WellFormedTold s false
  walking_ended l x e = record { told = λ f h q. absurd (walk_ended (w.walk f h q) l x e) }

  module _ {ends' : List ℕ} {count' : ℕ} (short : length s ≤ 256) (l : at < length s)
      (o : Opened s at ends count ends' count') where
    place : count < length ends
    place = omega (arith, w.size, w.few)

    pub walking_stops : variable_stands s at ends' count' && action_stands s at ≡ false → WellFormedTold s false
    walking_stops x = record { told = λ f h e. sym (walk_stops (w.walk f h e) place l o x) }

    pub walking_more : variable_stands s at ends' count' ≡ true → action_stands s at ≡ true → (width s at ≡ 0 → ⊥)
        → Walking s ends' count' (at + width s at)
    walking_more x y z = record {
      size = opened_size o ∙ w.size;
      few = omega (arith, w.few, opened_count o);
      near = omega (arith, width_most s at);
      walk = λ f h e. walk_goes (w.walk f h e) place l o (rw (x, y) refl);
    }

-- ---- of the fixed points so far the ends are kept, and nothing more
pub variable_taken : (s : List ℕ) (at : ℕ) (ends : List ℕ) (count : ℕ) → count ≤ length ends
    → variable_stands s at (take count ends) (length (take count ends)) ≡ variable_stands s at ends count
unfolding variable_stands
variable_taken s at ends count few =
    let n = get_or s (at + 1) 0 in
    let size : length (take count ends) ≡ count = length-take-le count ends few in
    cases (ltb n count)
    (λ b. rw (size, get_or-take count ends n 0 (ltb-true n count b)) refl)
    (λ b. rw (size, b) refl)
