-- The instance of an equation at what the parameters are after some steps, put argument by argument.
-- Before turn i the arguments from number i on are still to be put; the code, the number and the count stand before.
use Prim.Native.Nat.{ℕ, ◌+◌, ◌-◌, ◌≤◌, ◌<◌}
use native.Mathlib.Omega.{arith}
use native.Mathlib.Numerals.{add-one}
use mathlib.Core.Path.{◌≡◌, refl, sym, ap, ◌∙◌, subst}
use mathlib.Core.Bool.{true}
use mathlib.Core.List.{List, [], ◌∷◌}
use lib.ListN.{length, get_or, drop, drop_of_length-le}
use lib.Seq.{drop-cons}
use Rattle.meaning.specs.Formulas.{Term, number, instance}
use Rattle.spelling.specs.Spelled.{spelled, spelled_terms}
use Rattle.translation.specs.Processes.{Process}
use Rattle.translation.specs.Modal.{Modal}
use Rattle.sides.specs.declared.Listed.{Listed}
use Rattle.sides.specs.Emitted.{Emits, Puts}
use Rattle.sides.specs.Steps.{Step, Stacked, state_after}
use Rattle.sides.specs.Told.{Laid, VariableTold, InstanceTold}
use Rattle.sides.proofs.EmittedLaws.{emits_none, emits_full, emits_as, emits_next, grows_then, grows_on}
use Rattle.sides.proofs.StateLaws.{state_length, parameters_there}

-- as many arguments as there are parameters
arguments : {process : Process} {f : Modal} {sheet places : List ℕ} {steps : List Listed} {depth k : ℕ} {ss : List Step}
    → k ≡ get_or sheet 1 0 → Laid process f sheet places → Stacked process steps depth ss → length (state_after process ss) ≡ k
arguments {process} {f} {ss = ss} counted laid stacked =
    state_length process f laid.formed ss stacked ∙ sym (parameters_there laid) ∙ sym counted

instance_bytes : (equation : ℕ) (ts : List Term) {k : ℕ} → length ts ≡ k
    → 0x1a ∷ equation ∷ k ∷ spelled_terms ts ≡ spelled (instance equation ts)
unfolding spelled
instance_bytes equation ts many = ap (λ (n : ℕ). 0x1a ∷ equation ∷ n ∷ spelled_terms ts) (sym many)

-- ---- the loop, over the frame and the count at its start
pub record Instancing (sheet places : List ℕ) (depth : ℕ) (steps : List Listed) (out₀ : List ℕ) (c₀ k : ℕ) (out : List ℕ)
    (c i : ℕ) : Type 0 where
  pub near : i ≤ k
  pub counted : k ≡ get_or sheet 1 0
  pub size : length out ≡ length out₀
  pub on : c₀ ≤ c
  pub most : c ≤ 257
  pub told : (process : Process) (f : Modal) (ss : List Step) → Laid process f sheet places → Stacked process steps depth ss
      → {left : List ℕ} {r : ℕ} → Emits true (spelled_terms (drop i (state_after process ss))) out c left r
      → Emits true (spelled_terms (state_after process ss)) out₀ c₀ left r

pub instancing_start : (sheet places : List ℕ) (depth : ℕ) (steps : List Listed) (out : List ℕ) (c k : ℕ) → k ≡ get_or sheet 1 0
    → c ≤ 257
    → Instancing sheet places depth steps out c k out c 0
instancing_start sheet places depth steps out c k counted most = record {
  near = omega arith;
  counted = counted;
  size = refl;
  on = omega arith;
  most = most;
  told = λ process f ss laid stacked {left} {r} rest. rest;
}

module _ {sheet places : List ℕ} {depth : ℕ} {steps : List Listed} {out₀ : List ℕ} {c₀ k : ℕ} {out : List ℕ} {c i : ℕ}
    (q : Instancing sheet places depth steps out₀ c₀ k out c i) where
  pub instancing_more : {out' : List ℕ} {c' : ℕ} → i < k → VariableTold sheet places i (depth + 1) steps out c out' c'
      → Instancing sheet places depth steps out₀ c₀ k out' c' (i + 1)
  unfolding spelled_terms
  instancing_more {out'} {c'} l v = record {
    near = omega arith;
    counted = q.counted;
    size = v.grows.size ∙ q.size;
    on = omega (arith, q.on, (grows_on v.grows q.most).0);
    most = v.grows.most;
    told = λ process f ss laid stacked {left} {r} rest.
        let ts = state_after process ss in
        let many = arguments q.counted laid stacked in
        let back : depth ≡ depth + 1 - 1 = omega arith in
        let low : i < length process.ranges = omega (arith, q.counted, parameters_there laid) in
        let this = v.parameter process f ss laid (subst (λ (n : ℕ). Stacked process steps n ss) back stacked) low in
        let later = subst (λ (n : ℕ). Emits true (spelled_terms (drop n ts)) out' c' left r) (add-one i) rest in
        q.told process f ss laid stacked
        (rw (drop-cons ts i (number 0) (omega (arith, many))) (emits_next this later));
  }

  -- the whole: the code and the number of the equation, the count of arguments, and the arguments
  module _ {first between : List ℕ} {equation count d : ℕ} (p : Puts true (0x1a ∷ equation ∷ []) first count between d)
      (e : Puts true (k ∷ []) between d out₀ c₀) where
    instanced_as : ((ts : List Term) → length ts ≡ k → Emits true (spelled_terms (drop i ts)) out c out c)
        → InstanceTold sheet places equation depth steps first count out c
    instanced_as rest =
        let start = grows_then p.0 e.0 in
        record {
          grows = record {
            size = q.size ∙ start.size;
            more = λ h. omega (arith, q.on, start.more h);
            full = λ h. omega (arith, q.on, q.most, start.full h);
            most = q.most;
          };
          told = λ process f ss laid stacked.
              let ts = state_after process ss in
              let many = arguments q.counted laid stacked in
              let arguments_put = q.told process f ss laid stacked (rest ts many) in
              emits_as (instance_bytes equation ts many) (emits_next p.1 (emits_next e.1 arguments_put));
        }

    pub instanced : k ≤ i → InstanceTold sheet places equation depth steps first count out c
    unfolding spelled_terms
    instanced l =
        instanced_as (λ ts many.
        let all_put : drop i ts ≡ [] = drop_of_length-le ts {i = i} (omega (arith, many)) in
        rw all_put (emits_none q.most))

    -- or there was no more room
    pub instanced_full : 256 < c → InstanceTold sheet places equation depth steps first count out c
    instanced_full g = instanced_as (λ ts many. emits_full g (omega (arith, q.most)))
