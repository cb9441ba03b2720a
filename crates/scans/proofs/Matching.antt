-- Which summands match: what the bytes of a sheet tell of a summand's action, and the first place that matches.
-- A place with a summand begins with `07`, and its action stands where the table says.
use Prim.Native.Nat.{ℕ, ◌+◌, ◌*◌, ◌≤◌, ◌<◌}
use native.Mathlib.Omega.{arith}
use native.Mathlib.Decide.{ℕ_discrete, dec_lt}
use mathlib.Core.Path.{◌≡◌, refl, sym, ap, ap₂, ◌∙◌}
use mathlib.Core.Bool.{Bool, true, false, not, cond, true≢false}
use mathlib.Core.List.{List, [], ◌∷◌}
use lib.Dec.{eqb}
use lib.ListN.{length, get_or}
use borrow.Author.Tests.{ne_eqb}
use Rattle.spelling.specs.Stands.{Stands, first, after_one}
use Rattle.translation.specs.Processes.{Process}
use Rattle.translation.specs.Modal.{Modal, Actions, any_action, only, other_than, one_of}
use Rattle.inputs.specs.InputFrames.{spelled_actions, summand_frame}
use Rattle.inputs.specs.Sheet.{Sheet}
use Rattle.scans.specs.Summands.{nth_summand, action_place, Placed, Matches, IsOneOf, IsMatch}
use Rattle.scans.proofs.SummandFrames.{first_byte, action_read}

-- ---- the actions at a place of the formula, by the code and the byte behind it
unfoldable pub by_code : ℕ → ℕ → ℕ → Bool
by_code action code a = cond (eqb code 0x35) (not (eqb action a)) (cond (eqb code 0x36) (eqb action a) true)

code_tells : (s : List ℕ) (at action : ℕ) (A : Actions) → Stands s at (spelled_actions A)
    → by_code action (get_or s at 0) (get_or s (at + 1) 0) ≡ one_of A action
unfolding by_code spelled_actions one_of
code_tells s at action any_action h = rw (first s at 0x11 [] h) refl
code_tells s at action (only a) h =
    rw (first s at 0x36 (a ∷ []) h, first s (at + 1) a [] (after_one s at 0x36 (a ∷ []) h)) refl
code_tells s at action (other_than a) h =
    rw (first s at 0x35 (a ∷ []) h, first s (at + 1) a [] (after_one s at 0x35 (a ∷ []) h)) refl

pub one_of_told : {s : List ℕ} {at action place code a : ℕ} {r : Bool} → r ≡ by_code action code a → place ≡ at
    → code ≡ get_or s (4352 + place) 0 → a ≡ get_or s (4352 + place + 1) 0 → IsOneOf s at action r
one_of_told {s} {at} {action} {place} q ep ec ea = record {
  told = λ A h.
      let here : Stands s (4352 + place) (spelled_actions A) = rw ep h in
      q ∙ ap₂ (by_code action) ec ea ∙ code_tells s _ action A here;
}

-- ---- whether the summand in a place of the sheet matches
module _ {s places : List ℕ} {at slot byte : ℕ} (eb : byte ≡ get_or s (256 * slot) 0) where
  -- a summand stands there
  pub match_told : {p action : ℕ} → p ≡ get_or places (5 * slot) 0 → action ≡ get_or s (256 * slot + p) 0 → {r : Bool}
      → IsOneOf s at action r → byte ≡ 7 → IsMatch s places at slot r
  match_told {p} {action} ep ea {r} o seven = record {
    told = λ process f A j sheet placed h es few. (
      (λ l.
          let x = nth_summand process j in
          let there : Stands s (256 * slot) (summand_frame x) = rw es (sheet.summand j l) in
          let place : p ≡ action_place x = ep ∙ ap (λ (n : ℕ). get_or places (5 * n) 0) es ∙ placed.action j l in
          let act : action ≡ x.action = ea ∙ ap (λ (n : ℕ). get_or s (256 * slot + n) 0) place ∙ action_read x there in
          o.told A h ∙ ap (one_of A) act),
      (λ l. absurd (omega (arith, seven, eb, ap (λ (n : ℕ). get_or s (256 * n) 0) es, sheet.empty j l (omega (arith, es, few))))),
    );
  }

  -- none stands there
  pub match_none : (byte ≡ 7 → ⊥) → IsMatch s places at slot (eqb byte 7)
  match_none other = rw (ne_eqb byte 7 other) (record {
    told = λ process f A j sheet placed h es few. (
      (λ l.
          let there : Stands s (256 * slot) (summand_frame (nth_summand process j)) = rw es (sheet.summand j l) in
          absurd (other (eb ∙ first_byte (nth_summand process j) there))),
      (λ l. refl),
    );
  })

-- ---- the first place that matches
-- no place from `from` on and below `slot` has a summand that matches
pub record Unmatched (s places : List ℕ) (at from slot : ℕ) : Type 0 where
  pub onward : from ≤ slot
  pub so_far : (process : Process) (f : Modal) (A : Actions) → Sheet process f s → Placed process places
      → Stands s (4352 + at) (spelled_actions A) → (j : ℕ) → from ≤ j + 1 → j + 1 < slot → j < length process.summands
      → one_of A (nth_summand process j).action ≡ false

pub unmatched_start : (s places : List ℕ) (at from : ℕ) → Unmatched s places at from from
unmatched_start s places at from = record {
  onward = omega arith;
  so_far = λ process f A sheet placed h j low high l. absurd (omega (arith, low, high));
}

module _ {s places : List ℕ} {at from slot : ℕ} (k : Unmatched s places at from slot) where
  pub unmatched_more : slot < 17 → {wide : ℕ} {r : Bool} → wide ≡ slot → IsMatch s places at wide r → r ≡ false
      → Unmatched s places at from (slot + 1)
  unmatched_more near ew m e = record {
    onward = omega (arith, k.onward);
    so_far = λ process f A sheet placed h j low high l. elim (ℕ_discrete (j + 1) slot) [
      | yes q ↦ sym ((m.told process f A j sheet placed h (ew ∙ sym q) (omega (arith, ew, near))).0 l) ∙ e
      | no d ↦ k.so_far process f A sheet placed h j low (omega (arith, high, d)) l
    ];
  }

  pub first_matched : slot < 17 → {wide : ℕ} {r : Bool} → wide ≡ slot → IsMatch s places at wide r → r ≡ true
      → Matches s places at from slot
  first_matched near ew m e = record {
    near = omega arith;
    onward = λ _. k.onward;
    first = λ process f A sheet placed h low high. record {
      late = k.onward;
      unmatched = k.so_far process f A sheet placed h;
      matched = λ j q _.
          let told = m.told process f A j sheet placed h (ew ∙ q) (omega (arith, ew, near)) in
          elim (dec_lt j (length process.summands)) [
            | yes l ↦ (l, sym (told.0 l) ∙ e)
            | no l ↦ absurd (true≢false (sym e ∙ told.1 (omega (arith, l))))
          ];
    };
  }

  pub none_matched : 17 ≤ slot → Matches s places at from 17
  none_matched past = record {
    near = omega arith;
    onward = λ high. high;
    first = λ process f A sheet placed h low high. record {
      late = high;
      unmatched = λ j l m. k.so_far process f A sheet placed h j l (omega (arith, m, past));
      matched = λ j q l. absurd (omega (arith, l));
    };
  }
