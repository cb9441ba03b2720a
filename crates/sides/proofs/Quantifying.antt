-- The quantifiers of a summand's own variables, put one after the other.
-- Before turn i those from number i on are still to be put; then all are put.
use Prim.Native.Nat.{ℕ, zero, suc, ◌+◌, ◌*◌, ◌≤◌, ◌<◌}
use native.Mathlib.Omega.{arith}
use native.Mathlib.Numerals.{add-one}
use mathlib.Core.Path.{◌≡◌, refl, ap, ◌∙◌, subst}
use mathlib.Core.Bool.{Bool, true}
use mathlib.Core.List.{List, [], ◌∷◌, ◌++◌}
use lib.ListN.{length, get_or, drop, drop_of_length-le}
use lib.Seq.{drop-cons}
use Rattle.spelling.specs.Spelled.{either_code, spelled, spelled_terms}
use Rattle.spelling.specs.Stands.{Stands, first, after_one, left_part, moved}
use Rattle.translation.specs.Processes.{Process, Summand}
use Rattle.translation.specs.Modal.{Modal}
use Rattle.inputs.specs.InputFrames.{summand_frame}
use Rattle.inputs.specs.Sheet.{Sheet}
use Rattle.scans.specs.Summands.{nth_summand}
use Rattle.scans.proofs.SummandFrames.{own_count}
use Rattle.sides.specs.Emitted.{Emits, Puts}
use Rattle.sides.specs.Told.{quantifier_bytes, QuantifiersTold}
use Rattle.sides.proofs.EmittedLaws.{emits_none, emits_full, emits_next, grows_on}

-- what stands somewhere, byte by byte
pub stands_at : (s : List ℕ) (at : ℕ) (w : List ℕ) (i : ℕ) → Stands s at w → i < length w
    → get_or s (at + i) 0 ≡ get_or w i 0
stands_at s at [] i h l = absurd (omega arith)
stands_at s at (b ∷ w) zero h l = first s (at + 0) b w (moved s at (at + 0) (b ∷ w) (omega arith) h)
stands_at s at (b ∷ w) (suc i) h l =
    let next : at + suc i ≡ at + 1 + i = omega arith in
    ap (λ (n : ℕ). get_or s n 0) next ∙ stands_at s (at + 1) w i (after_one s at b w h) (omega arith)

-- the own variables of a summand on a sheet
pub record OwnThere (sheet : List ℕ) (at : ℕ) (own : List ℕ) : Type 0 where
  pub count : get_or sheet (at + 1) 0 ≡ length own
  pub ranges : Stands sheet (at + 2) own

frame_own : (sheet : List ℕ) (at : ℕ) (s : Summand) → Stands sheet at (summand_frame s) → OwnThere sheet at s.own
unfolding summand_frame
frame_own sheet at s h =
    let behind = spelled s.condition ++ (s.action ∷ spelled_terms s.next) in
    let counted = after_one sheet at 0x07 (length s.own ∷ (s.own ++ behind)) h in
    let ranges = after_one sheet (at + 1) (length s.own) (s.own ++ behind) counted in
    record {
      count = own_count s h;
      ranges = moved sheet (at + 1 + 1) (at + 2) s.own (omega arith) (left_part sheet (at + 1 + 1) s.own behind ranges);
    }

pub own_there : (process : Process) (f : Modal) (sheet : List ℕ) (j : ℕ) → Sheet process f sheet
    → j < length process.summands → OwnThere sheet (256 * (j + 1)) (nth_summand process j).own
own_there process f sheet j h l = frame_own sheet (256 * (j + 1)) (nth_summand process j) (h.summand j l)

-- ---- the loop
pub record Quantifying (sheet : List ℕ) (at : ℕ) (all : Bool) (out₀ : List ℕ) (count own : ℕ) (out : List ℕ) (c i : ℕ)
    : Type 0 where
  pub near : i ≤ own
  pub size : length out ≡ length out₀
  pub more : count ≤ 257 → (count ≤ c) × (c ≤ 257)
  pub told : (rs : List ℕ) → own ≡ length rs → Stands sheet (at + 2) rs → {left : List ℕ} {r : ℕ}
      → Emits true (quantifier_bytes all (drop i rs)) out c left r
      → Emits true (quantifier_bytes all rs) out₀ count left r

pub quantifying_start : (sheet : List ℕ) (at : ℕ) (all : Bool) (out : List ℕ) (count own : ℕ)
    → Quantifying sheet at all out count own out count 0
quantifying_start sheet at all out count own =
    record { near = omega arith; size = refl; more = λ h. (omega arith, h); told = λ rs l h e. e }

module _ {sheet : List ℕ} {at : ℕ} {all : Bool} {out₀ : List ℕ} {count own : ℕ} {out : List ℕ} {c i : ℕ}
    (q : Quantifying sheet at all out₀ count own out c i) where
  pub quantifying_more : {out' : List ℕ} {c' code x : ℕ} → i < own → code ≡ either_code all 0x14 0x15
      → x ≡ get_or sheet (at + 2 + i) 0 → Puts true (code ∷ x ∷ []) out c out' c'
      → Quantifying sheet at all out₀ count own out' c' (i + 1)
  unfolding quantifier_bytes
  quantifying_more {out'} {c'} {code} {x} l is it p = record {
    near = omega arith;
    size = p.0.size ∙ q.size;
    more = λ h. let before = q.more h in let now = grows_on p.0 before.1 in (omega arith, now.1);
    told = λ rs n h {left} {r} e.
        let there : x ≡ get_or rs i 0 = it ∙ stands_at sheet (at + 2) rs i h (omega (arith, n)) in
        let rest = quantifier_bytes all (drop (suc i) rs) in
        let later : Emits true rest out' c' left r =
        subst (λ (m : ℕ). Emits true (quantifier_bytes all (drop m rs)) out' c' left r) (add-one i) e in
        let both : Emits true (code ∷ x ∷ rest) out c left r = emits_next p.1 later in
        q.told rs n h (rw (drop-cons rs i 0 (omega (arith, n)), ← there, ← is) both);
  }

  module _ (slot : ℕ) (place : at ≡ 256 * slot) (is : own ≡ get_or sheet (at + 1) 0) where
    quantified_as : ((rs : List ℕ) → own ≡ length rs → c ≤ 257 → Emits true (quantifier_bytes all (drop i rs)) out c out c)
        → QuantifiersTold sheet slot all out₀ count out c
    quantified_as rest = record {
      size = q.size;
      more = q.more;
      told = λ process f j s e less h.
          let placed : 256 * (j + 1) ≡ at = omega (arith, place, e) in
          let rs = (nth_summand process j).own in
          let there = subst (λ (n : ℕ). OwnThere sheet n rs) placed (own_there process f sheet j s less) in
          let many = is ∙ there.count in
          q.told rs many there.ranges (rest rs many (q.more h).1);
    }

    -- all are put
    pub quantified : own ≤ i → QuantifiersTold sheet slot all out₀ count out c
    unfolding quantifier_bytes
    quantified l =
        quantified_as (λ rs n most.
        let all_put : drop i rs ≡ [] = drop_of_length-le rs {i = i} (omega (arith, n)) in rw all_put (emits_none most))

    -- or there was no more room
    pub quantified_full : 256 < c → QuantifiersTold sheet slot all out₀ count out c
    quantified_full g = quantified_as (λ rs n most. emits_full g (omega arith))
