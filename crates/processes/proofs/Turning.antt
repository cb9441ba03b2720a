-- One code of a formula: the formulas inside it take its place among those that are still to be gone through.
-- By cases on the first of them; what its code tells is one part of whether it is well-formed.
use Prim.Native.Nat.{ℕ, suc, ◌+◌, ◌≤◌, ◌<◌}
use native.Mathlib.Omega.{arith}
use mathlib.Core.Path.{◌≡◌, refl, sym, ap, ◌∙◌}
use mathlib.Core.Bool.{Bool, true, false, false≢true, ◌&&◌}
use mathlib.Core.List.{List, [], ◌∷◌, ◌++◌}
use lib.ListN.{length, get_or, set, length-append}
use Rattle.std.specs.Prelude.{Option, None, Some, unwrap_or}
use Rattle.std.proofs.lemmas.Option.{none-some}
use Rattle.meaning.specs.Logic.{◌and◌, is, and-true}
use Rattle.spelling.specs.Stands.{Stands, after_one, left_part, right_part, moved, stands_inside}
use Rattle.translation.specs.Modal.{Modal, truth, combined, after, fixed_point, of_fixed_point, fixed_points}
use Rattle.translation.specs.Rules.{action_fits, well_formed_formula}
use Rattle.inputs.specs.InputFrames.{spelled_actions, spelled_modal}
use Rattle.inputs.specs.ModalRead.{modal_read, modal_on}
use Rattle.scans.specs.Formulas.{is_fixed}
use Rattle.processes.specs.Ends.{end_of, ModalEnds, action_stands, variable_stands}
use Rattle.processes.proofs.Rows.{width}
use Rattle.processes.proofs.OwnBytes.{own_some, is_fixed_point, Coded, coded}
use Rattle.processes.proofs.Pending.{Scope, none_around, narrowed, is_around, within}
use Rattle.processes.proofs.Pending.{Pending, all_formed, Placed, placed_behind, Walk}

-- a fixed point that opens at a place is kept with its end
pub data Opened (s : List ℕ) (at : ℕ) (ends : List ℕ) (count : ℕ) (ends' : List ℕ) (count' : ℕ) : Type 0 where
  opened : (e : ℕ) → is_fixed (get_or s at 0) ≡ true → ModalEnds s (at + 1) (Some e) → ends' ≡ set ends count e
      → count' ≡ count + 1 → Opened s at ends count ends' count'
  not_opened : is_fixed (get_or s at 0) ≡ false → ends' ≡ ends → count' ≡ count → Opened s at ends count ends' count'

-- what is left behind the code at a place, which has been tested
pub record Next (s ends : List ℕ) (count at : ℕ) (whole : Bool) : Type 0 where
  pub pending : List Pending
  pub placed : Placed s ends count (at + width s at) pending
  pub same : whole ≡ ((variable_stands s at ends count && action_stands s at) and all_formed count pending)

and_again : (a b c : Bool) → ((a and b) and c) ≡ (a and (b and c))
unfolding ◌and◌
and_again true b c = refl
and_again false b c = refl

and_yes : (b : Bool) → b && true ≡ b
and_yes true = refl
and_yes false = refl

-- where a formula stands, it is read up to its end
modal_ended : (s : List ℕ) (at : ℕ) {e : Option ℕ} → ModalEnds s at e → (f : Modal) → Stands s at (spelled_modal f)
    → e ≡ Some (at + length (spelled_modal f))
modal_ended s at ended f h =
    ended.ended (length s) (omega arith) ∙
    ap end_of (modal_read f (length s) s at h (omega (arith, stands_inside s at (spelled_modal f) h)))

module _ (s ends : List ℕ) (count at : ℕ) (around : List ℕ) (ps : List Pending) where
  abbrev size : Modal → ℕ
  size f = length (spelled_modal f)

  abbrev formed : Modal → Bool
  formed f = well_formed_formula around count f and all_formed (count + fixed_points f) ps

  placed_at : (a b : ℕ) → a ≡ b → Placed s ends count a ps → Placed s ends count b ps
  placed_at a b e h = rw (← e) h

  shut_turn : (f : Modal) → is_fixed_point f ≡ false → Coded s at f → Stands s at (spelled_modal f)
      → Scope ends count around at (at + size f) → Placed s ends count (at + size f) ps → Next s ends count at (formed f)
  unfolding Placed all_formed well_formed_formula fixed_points spelled_modal ◌and◌
  shut_turn (truth b) x c h scope p =
      let none : count + 0 ≡ count = omega arith in
      record {
        pending = ps;
        placed = rw c.wide p;
        same = rw (c.variable ends count, c.action, none) refl;
      }
  shut_turn (combined all f g) x c h scope p =
      let inner = after_one s at _ _ h in
      let long = length-append (spelled_modal f) (spelled_modal g) in
      let end : at + suc (length (spelled_modal f ++ spelled_modal g)) ≡ at + 1 + size f + size g = omega arith in
      let sum : count + (fixed_points f + fixed_points g) ≡ count + fixed_points f + fixed_points g = omega arith in
      record {
        pending = record { around = around; formula = f } ∷ record { around = around; formula = g } ∷ ps;
        placed = rw c.wide (
          left_part s (at + 1) (spelled_modal f) (spelled_modal g) inner,
          narrowed scope (at + 1) (at + 1 + size f) (omega arith) (omega arith),
          (
            right_part s (at + 1) (spelled_modal f) (spelled_modal g) inner,
            narrowed scope (at + 1 + size f) (at + 1 + size f + size g) (omega arith) (omega arith),
            placed_at _ _ end p,
          ),
        );
        same = rw (c.variable ends count, c.action, sum)
            (and_again (well_formed_formula around count f) (well_formed_formula around (count + fixed_points f) g)
            (all_formed (count + fixed_points f + fixed_points g) ps));
      }
  shut_turn (after all A f) x c h scope p =
      let long = length-append (spelled_actions A) (spelled_modal f) in
      let from : at + 1 + length (spelled_actions A) ≡ at + suc (length (spelled_actions A)) = omega arith in
      let end : at + suc (length (spelled_actions A ++ spelled_modal f)) ≡ at + suc (length (spelled_actions A)) + size f =
      omega arith in
      record {
        pending = record { around = around; formula = f } ∷ ps;
        placed = rw c.wide (
          moved s _ _ (spelled_modal f) from (right_part s (at + 1) (spelled_actions A) (spelled_modal f) (after_one s at _ _ h)),
          narrowed scope (at + suc (length (spelled_actions A))) (at + suc (length (spelled_actions A)) + size f)
              (omega arith) (omega arith),
          placed_at _ _ end p,
        );
        same = rw (c.variable ends count, c.action)
            (and_again (action_fits A) (well_formed_formula around count f) (all_formed (count + fixed_points f) ps));
      }
  shut_turn (fixed_point greatest f) x c h scope p = absurd (false≢true (sym x))
  shut_turn (of_fixed_point m) x c h scope p =
      let none : count + 0 ≡ count = omega arith in
      record {
        pending = ps;
        placed = rw c.wide p;
        same = rw (c.variable ends count, c.action, none, is_around scope m (omega arith), and_yes) refl;
      }

  -- the fixed point of number `count` ends where its formula does
  module _ (place : count < length ends) (e : ℕ) (ended : ModalEnds s (at + 1) (Some e)) where
    ends_there : (f : Modal) → Stands s (at + 1) (spelled_modal f) → e ≡ at + 1 + size f
    ends_there f h = ap (λ (o : Option ℕ). unwrap_or o 0) (modal_ended s (at + 1) ended f h)

    open_turn : (f : Modal) → is_fixed_point f ≡ true → Coded s at f → Stands s at (spelled_modal f)
        → Scope ends count around at (at + size f) → Placed s ends count (at + size f) ps
        → Next s (set ends count e) (count + 1) at (formed f)
    unfolding Placed all_formed well_formed_formula fixed_points spelled_modal ◌and◌
    open_turn (truth b) x c h scope p = absurd (false≢true x)
    open_turn (combined all f g) x c h scope p = absurd (false≢true x)
    open_turn (after all A f) x c h scope p = absurd (false≢true x)
    open_turn (fixed_point greatest f) x c h scope p =
        let inner = after_one s at _ _ h in
        let here = ends_there f inner in
        let end : at + suc (size f) ≡ at + 1 + size f = omega arith in
        let one : suc count ≡ count + 1 = omega arith in
        let sum : count + suc (fixed_points f) ≡ count + 1 + fixed_points f = omega arith in
        record {
          pending = record { around = count ∷ around; formula = f } ∷ ps;
          placed = rw c.wide (
            inner,
            within (narrowed scope (at + 1) (at + 1 + size f) (omega arith) (omega arith)) e place (omega (arith, here)),
            placed_behind s ends count e place (at + 1 + size f) ps (omega (arith, here)) (placed_at _ _ end p),
          );
          same = rw (c.variable (set ends count e) (count + 1), c.action, one, sum) refl;
        }
    open_turn (of_fixed_point m) x c h scope p = absurd (false≢true x)

  pub turn_first : (f : Modal) {ends' : List ℕ} {count' : ℕ} → count < length ends → Opened s at ends count ends' count'
      → Stands s at (spelled_modal f) → Scope ends count around at (at + size f) → Placed s ends count (at + size f) ps
      → Next s ends' count' at (formed f)
  turn_first f place (opened e x y q r) h scope p =
      let c = coded s at f h in
      rw (q, r) (open_turn place e y f (sym c.opening ∙ x) c h scope p)
  turn_first f place (not_opened x q r) h scope p =
      let c = coded s at f h in
      rw (q, r) (shut_turn f (sym c.opening ∙ x) c h scope p)

-- ---- the whole walk
module _ (s ends : List ℕ) (count at : ℕ) where
  -- a fixed point stands before a formula
  some_end : (f : Modal) → Coded s at f → Stands s at (spelled_modal f) → is_fixed (get_or s at 0) ≡ true
      → ModalEnds s (at + 1) None → ⊥
  unfolding spelled_modal
  some_end (truth b) c h x e = absurd (false≢true (sym c.opening ∙ x))
  some_end (combined all f g) c h x e = absurd (false≢true (sym c.opening ∙ x))
  some_end (after all A f) c h x e = absurd (false≢true (sym c.opening ∙ x))
  some_end (fixed_point greatest f) c h x e = none-some _ (modal_ended s (at + 1) e f (after_one s at _ _ h))
  some_end (of_fixed_point m) c h x e = absurd (false≢true (sym c.opening ∙ x))

  ended : (ps : List Pending) → at < length s → Placed s ends count at ps → is_fixed (get_or s at 0) ≡ true
      → ModalEnds s (at + 1) None → ⊥
  unfolding Placed
  ended [] l p x e = absurd (omega (arith, p))
  ended (p ∷ ps) l h x e = some_end p.formula (coded s at p.formula h.0) h.0 x e

  turn_pending : (ps : List Pending) {ends' : List ℕ} {count' : ℕ} → count < length ends → at < length s
      → Opened s at ends count ends' count' → Placed s ends count at ps → Next s ends' count' at (all_formed count ps)
  unfolding Placed all_formed
  turn_pending [] place l o p = absurd (omega (arith, p))
  turn_pending (p ∷ ps) place l o h = turn_first s ends count at p.around ps p.formula place o h.0 h.1 h.2

  some_code : (ps : List Pending) → at < length s → Placed s ends count at ps → width s at ≡ 0 → ⊥
  unfolding Placed
  some_code [] l p = absurd (omega (arith, p))
  some_code (p ∷ ps) l h = coded_width p.formula (coded s at p.formula h.0)
    where
      coded_width : (f : Modal) → Coded s at f → width s at ≡ 0 → ⊥
      coded_width f c e = own_some f (sym c.wide ∙ e)

  all_done : (ps : List Pending) → length s ≤ at → Placed s ends count at ps → all_formed count ps ≡ true
  unfolding Placed all_formed
  all_done [] l p = refl
  all_done (p ∷ ps) l h =
      let inside = stands_inside s at (spelled_modal p.formula) h.0 in
      let read = modal_read p.formula (length s) s at h.0 (omega arith) in
      absurd (omega (arith, modal_on (length s) s at p.formula _ read))

-- whether the whole formula is well-formed, told by what is left
module _ {s ends : List ℕ} {count at : ℕ} {whole : Bool} (w : Walk s ends count at whole) where
  pub walk_coded : at < length s → width s at ≡ 0 → ⊥
  walk_coded l = some_code s ends count at w.pending l w.placed

  pub walk_ended : at < length s → is_fixed (get_or s at 0) ≡ true → ModalEnds s (at + 1) None → ⊥
  walk_ended l x e = ended s ends count at w.pending l w.placed x e

  pub walk_done : length s ≤ at → whole ≡ true
  walk_done l = w.same ∙ all_done s ends count at w.pending l w.placed

  module _ {ends' : List ℕ} {count' : ℕ} (place : count < length ends) (l : at < length s)
      (o : Opened s at ends count ends' count') where
    next : Next s ends' count' at (all_formed count w.pending)
    next = turn_pending s ends count at w.pending place l o w.placed

    abbrev fits : Bool
    fits = variable_stands s at ends' count' && action_stands s at

    pub walk_stops : fits ≡ false → whole ≡ false
    unfolding ◌and◌
    walk_stops x = w.same ∙ next.same ∙ ap (λ (b : Bool). b and all_formed count' next.pending) x

    pub walk_goes : fits ≡ true → Walk s ends' count' (at + width s at) whole
    unfolding ◌and◌
    walk_goes x = record {
      pending = next.pending;
      placed = next.placed;
      same = w.same ∙ next.same ∙ ap (λ (b : Bool). b and all_formed count' next.pending) x;
    }

pub walk_start : (s ends : List ℕ) (f : Modal) → Stands s 1 (spelled_modal f) → length s ≡ 1 + length (spelled_modal f)
    → Walk s ends 0 1 (well_formed_formula [] 0 f)
unfolding Placed all_formed
walk_start s ends f h e = record {
  pending = record { around = []; formula = f } ∷ [];
  placed = (h, none_around ends 1 (1 + length (spelled_modal f)), sym e);
  same = sym (and-true (well_formed_formula [] 0 f) true is);
}
