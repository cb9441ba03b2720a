-- The five places of a summand: each is told by the one before it.
-- The condition ends where the action stands, and each term where the next one does.
use Prim.Native.Nat.{ℕ, suc, ◌+◌, ◌-◌, ◌*◌, ◌%◌, ◌≤◌, ◌<◌}
use native.Mathlib.Omega.{arith}
use mathlib.Core.Path.{◌≡◌, sym, ap, ◌∙◌, subst}
use mathlib.Core.List.{List}
use lib.ListN.{length, get_or}
use Rattle.meaning.specs.Logic.{Is, is}
use Rattle.meaning.specs.Formulas.{number}
use Rattle.spelling.specs.Spelled.{spelled_term, spelled_terms}
use Rattle.spelling.specs.Stands.{Stands}
use Rattle.translation.specs.Processes.{Summand, Process}
use Rattle.translation.specs.Modal.{Modal}
use Rattle.translation.specs.Rules.{plain, well_formed_input}
use Rattle.inputs.specs.InputFrames.{summand_frame}
use Rattle.inputs.specs.Sheet.{Sheet}
use Rattle.scans.specs.Items.{condition, term, spelled_item}
use Rattle.scans.specs.Summands.{nth_summand, action_place, next_place, EndsPart, PlaceTold}
use Rattle.scans.proofs.SummandFrames.{frame_length, own_count, condition_stands, term_stands, next_term, term_inside}
use Rattle.scans.proofs.SummandFrames.{term_long, ruled}

-- the summand x, whose frame stands in a place of the sheet
record Framed (s : List ℕ) (slot : ℕ) (x : Summand) : Type 0 where
  pub there : Stands s (256 * slot) (summand_frame x)
  pub short : length (summand_frame x) ≤ 256
  pub plain_condition : Is (plain x.condition)

framed : (process : Process) (f : Modal) (s : List ℕ) (slot j : ℕ) → Sheet process f s → Is (well_formed_input process f)
    → slot ≡ j + 1 → j < length process.summands → Framed s slot (nth_summand process j)
framed process f s slot j sheet p e l = record {
  there = rw e (sheet.summand j l);
  short = sheet.fits j l;
  plain_condition = (ruled process f p).plain_condition j l;
}

module _ {s : List ℕ} {slot : ℕ} {x : Summand} (k : Framed s slot x) where
  -- the action stands at the end of the condition
  action_after : (at : ℕ) {r : ℕ} → EndsPart s slot at r → at ≡ 2 + get_or s (256 * slot + 1) 0 → r % 256 ≡ action_place x
  unfolding spelled_item
  action_after at {r} e place =
      let own : at ≡ 2 + length x.own = place ∙ ap (λ (n : ℕ). 2 + n) (own_count x k.there) in
      let c = condition x.condition in
      let there : Stands s (256 * slot + at) (spelled_item c) =
      subst (λ (n : ℕ). Stands s (256 * slot + n) (spelled_item c)) (sym own) (condition_stands x k.there) in
      let inside : at + length (spelled_item c) ≤ 256 = omega (arith, own, k.short, frame_length x) in
      omega (arith, e.ended c k.plain_condition inside there, own, k.short, frame_length x)

  first_after : {last : ℕ} → last ≡ action_place x → 0 < length x.next → (last + 1) % 256 ≡ next_place x 0
  unfolding spelled_terms
  first_after e l = omega (arith, e, k.short, term_inside x 0 (number 0) l, term_long (get_or x.next 0 (number 0)))

  -- a term stands at the end of the one before it
  next_after : (i : ℕ) {last r : ℕ} → EndsPart s slot last r → last ≡ next_place x i → suc i < length x.next
      → r % 256 ≡ next_place x (suc i)
  unfolding spelled_item
  next_after i {last} {r} e place l =
      let t = get_or x.next i (number 0) in
      let here : i < length x.next = omega arith in
      let there : Stands s (256 * slot + last) (spelled_item (term t)) =
      subst (λ (n : ℕ). Stands s (256 * slot + n) (spelled_term t)) (sym place) (term_stands x k.there i (number 0) here) in
      let behind = term_inside x (suc i) (number 0) l in
      let long = term_long (get_or x.next (suc i) (number 0)) in
      let step = next_term x i (number 0) here in
      let inside : last + length (spelled_item (term t)) ≤ 256 = omega (arith, place, step, behind, k.short) in
      omega (arith, e.ended (term t) is inside there, place, step, behind, long, k.short)

-- ---- the three cases of `place`
module _ {s : List ℕ} {slot i last : ℕ} where
  pub action_told : {at end : ℕ} → i ≡ 0 → EndsPart s slot at end → at ≡ 2 + get_or s (256 * slot + 1) 0
      → {r : ℕ} → r ≡ end % 256 → PlaceTold s slot i last r
  action_told {at} zeroth e place q = record {
    told = λ process f j sheet p es l before. record {
      action = λ z. q ∙ action_after (framed process f s slot j sheet p es l) at e place;
      next = λ m z n. absurd (omega (arith, z, zeroth));
    };
  }

  pub first_told : i ≡ 1 → {r : ℕ} → r ≡ (last + 1) % 256 → PlaceTold s slot i last r
  first_told one q = record {
    told = λ process f j sheet p es l before. record {
      action = λ z. absurd (omega (arith, z, one));
      next = λ m z n.
          let none : m ≡ 0 = omega (arith, z, one) in
          let x = nth_summand process j in
          q ∙ first_after (framed process f s slot j sheet p es l) ((before m z).action none) (omega (arith, n)) ∙
          ap (next_place x) (sym none);
    };
  }

  pub next_told : (i ≡ 0 → ⊥) → (i ≡ 1 → ⊥) → {at end : ℕ} → EndsPart s slot at end → at ≡ last
      → {r : ℕ} → r ≡ end % 256 → PlaceTold s slot i last r
  next_told some more e place q = record {
    told = λ process f j sheet p es l before. record {
      action = λ z. absurd (some z);
      next = λ m z n.
          let x = nth_summand process j in
          let one : m ≡ suc (m - 1) = omega (arith, z, more) in
          let one' : m ≡ m - 1 + 1 = omega (arith, one) in
          q ∙
          next_after (framed process f s slot j sheet p es l) (m - 1) e
          (place ∙ (before m z).next (m - 1) one' (omega (arith, n, one)))
          (omega (arith, n, one)) ∙
          ap (next_place x) (sym one);
    };
  }
