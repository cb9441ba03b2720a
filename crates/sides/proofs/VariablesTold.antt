-- What a variable of a step's summand is there: a quantified variable, or a parameter after the steps before it.
-- A parameter is itself before any step, and after one the next-state term of that step's summand.
use Prim.Native.Nat.{ℕ, ◌+◌, ◌*◌, ◌-◌, ◌%◌, ◌≤◌, ◌<◌}
use native.Mathlib.Omega.{arith}
use mathlib.Core.Path.{◌≡◌, sym, ap, ◌∙◌, subst}
use mathlib.Core.Bool.{true, false}
use mathlib.Core.List.{List, [], ◌∷◌}
use lib.ListN.{length, get_or, length-append}
use Rattle.meaning.specs.Logic.{is}
use Rattle.meaning.specs.Formulas.{Term, number, variable}
use Rattle.spelling.specs.Spelled.{spelled_term}
use Rattle.spelling.specs.Stands.{moved}
use Rattle.translation.specs.Processes.{Process}
use Rattle.translation.specs.Modal.{Modal}
use Rattle.scans.specs.Items.{term, spelled_item}
use Rattle.scans.specs.Summands.{nth_summand, next_place}
use Rattle.scans.proofs.SummandFrames.{term_stands}
use Rattle.sides.specs.declared.Listed.{Listed}
use Rattle.sides.specs.Emitted.{Emits, Puts}
use Rattle.sides.specs.Steps.{Step, Stacked, state_after, item_after, nth_step}
use Rattle.sides.specs.Told.{Laid, PartTold, VariableTold}
use Rattle.sides.proofs.EmittedLaws.{emits_as}
use Rattle.sides.proofs.StateLaws.{last_step, none_before, none_around, parameters_there, own_in, state_first, state_next}
use Rattle.sides.proofs.StateLaws.{few_parameters, few_own, term_for_each, term_sound}

spelled_variable : {t : Term} (x : ℕ) → t ≡ variable x → spelled_term t ≡ 0x21 ∷ x ∷ []
unfolding spelled_term
spelled_variable x e = ap spelled_term e

module _ {sheet : List ℕ} {x : ℕ} {out : List ℕ} {count : ℕ} {left : List ℕ} {r : ℕ} (places : List ℕ) (step : ℕ)
    (steps : List Listed) where
  -- one of its own
  pub own_told : (q b : ℕ) → get_or sheet 1 0 ≤ x → q ≡ (nth_step steps step).quantifiers → b ≡ (q + x) % 256
      → Puts true (0x21 ∷ b ∷ []) out count left r → VariableTold sheet places x step steps out count left r
  own_told q b high around byte puts = record {
    grows = puts.0;
    parameter = λ process f ss laid stacked l. absurd (omega (arith, parameters_there laid));
    own = λ process f s ss laid stacked l m.
        let last = last_step stacked in
        let own = (nth_summand process s.index).own in
        let same : s.quantifiers + x ≡ b = omega (
          arith,
          last.around,
          around,
          byte,
          last.few,
          length-append process.ranges own,
          few_parameters process f laid.formed,
          few_own process f laid.formed s.index last.there,
        ) in
        let bytes = spelled_variable (s.quantifiers + x) (own_in process f laid.formed s ss last.before x l m)
        ∙ ap (λ (n : ℕ). 0x21 ∷ n ∷ []) same in
        emits_as (sym bytes) puts.1;
  }

  -- a parameter before any step
  pub first_told : x < get_or sheet 1 0 → step ≡ 1 → Puts true (0x21 ∷ x ∷ []) out count left r
      → VariableTold sheet places x step steps out count left r
  first_told low one puts = record {
    grows = puts.0;
    parameter = λ process f ss laid stacked l.
        let none = none_before (step - 1) (omega arith) stacked in
        let value = ap (λ (l : List Step). get_or (state_after process l) x (number 0)) none ∙ state_first process x l in
        emits_as (sym (spelled_variable x value)) puts.1;
    own = λ process f s ss laid stacked l m. absurd (omega (arith, parameters_there laid));
  }

  -- a parameter after a step
  module _ (n at slot : ℕ) (low : x < get_or sheet 1 0) (some : 1 ≤ n) (back : n ≡ step - 1)
      (summand : slot ≡ (nth_step steps n).slot)
      (place : at ≡ get_or places (5 * slot + 1 + x) 0)
      (p : PartTold sheet places (record { at = at; step = n; flip = false }) steps out count left r) where
    after_step : (process : Process) (f : Modal) (ss : List Step) → Laid process f sheet places → Stacked process steps n ss
        → x < length process.ranges → Emits true (spelled_term (get_or (state_after process ss) x (number 0))) out count left r
    unfolding item_after spelled_item
    after_step process f [] laid stacked l = absurd (omega (arith, none_around stacked))
    after_step process f (s ∷ ss) laid stacked l =
        let last = last_step stacked in
        let j = s.index in
        let next = (nth_summand process j).next in
        let t = get_or next x (number 0) in
        let inside : x < length next = omega (arith, term_for_each process f laid.formed j last.there) in
        let there = laid.placed.next j x last.there inside in
        let same : 5 * (j + 1) + 1 + x ≡ 5 * slot + 1 + x = omega (arith, summand, last.slot) in
        let byte : next_place (nth_summand process j) x ≡ at =
        sym there ∙ ap (λ (m : ℕ). get_or places m 0) same ∙ sym place in
        let stands = term_stands (nth_summand process j) (laid.sheet_is.summand j last.there) x (number 0) inside in
        let here = moved sheet _ _ _ (ap (λ (m : ℕ). 256 * (j + 1) + m) byte) stands in
        emits_as (ap spelled_term (sym (state_next process s ss x)))
        (p.told process f s ss (term t) laid stacked is (term_sound process f laid.formed j x last.there l) here)

    pub later_told : VariableTold sheet places x step steps out count left r
    later_told = record {
      grows = p.grows;
      parameter = λ process f ss laid stacked l.
          after_step process f ss laid (subst (λ (m : ℕ). Stacked process steps m ss) (sym back) stacked) l;
      own = λ process f s ss laid stacked l m. absurd (omega (arith, parameters_there laid));
    }
