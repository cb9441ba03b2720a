-- What the lines of an answer are, and how long; and a whole answer of its parts.
-- A run of stores is cut where one part of it ends: the rest is stored from there on.
use mathlib.Core.Path.{◌≡◌, refl, sym, ◌∙◌, ap}
use Prim.Native.Nat.{ℕ, zero, suc, ◌+◌, ◌*◌, ◌/◌, ◌%◌, ◌≤◌, ◌<◌, min}
use native.Mathlib.Omega.{arith}
use native.Mathlib.Numerals.{add-one}
use mathlib.Core.Bool.{Bool}
use mathlib.Core.List.{List, [], ◌∷◌, ◌++◌}
use lib.ListN.{length, get_or, set, take, drop, length-append, length-take}
use lib.Seq.{sets, drop-cons}
use Rattle.meaning.specs.WordLaws.{arguments_of}
use Rattle.formulas.specs.declared.Equation.{Equation}
use Rattle.formulas.specs.declared.Tuple.{Tuple}
use Rattle.truth.specs.Bits.{bit, bit_of}
use Rattle.frames.specs.Frames.{line_of}
use Rattle.frames.specs.PutLine.{Puts}
use Rattle.frames.proofs.Written.{line_length}
use Rattle.frames.proofs.Stores.{sets_append}
use Rattle.words.specs.Unpacked.{argument_tuple, argument_count}
use Rattle.printing.specs.Lines.{parameters_of, word_frame, word_lines}

-- ---- the frame of an instance, by how many arguments there are
value_after : (k e p₀ p₁ p₂ p₃ v : ℕ) → k ≤ 4
    → take (k + 3) (set (0x04 ∷ e ∷ p₀ ∷ p₁ ∷ p₂ ∷ p₃ ∷ 0 ∷ 0 ∷ []) (k + 2) v)
    ≡ 0x04 ∷ e ∷ (take k (p₀ ∷ p₁ ∷ p₂ ∷ p₃ ∷ []) ++ (v ∷ []))
value_after zero e p₀ p₁ p₂ p₃ v h = refl
value_after (suc zero) e p₀ p₁ p₂ p₃ v h = refl
value_after (suc (suc zero)) e p₀ p₁ p₂ p₃ v h = refl
value_after (suc (suc (suc zero))) e p₀ p₁ p₂ p₃ v h = refl
value_after (suc (suc (suc (suc zero)))) e p₀ p₁ p₂ p₃ v h = refl
value_after (suc (suc (suc (suc (suc k))))) e p₀ p₁ p₂ p₃ v h = absurd (omega arith)

-- there are at most four
pub few_arguments : (w k : ℕ) {x : Tuple} → x ≡ argument_tuple w k → x.count ≤ 4
few_arguments w k e =
    let count = ap (λ (x : Tuple). x.count) e ∙ argument_count w k in
    omega arith

pub frame_stored : (equations : List Equation) (w : ℕ) (value : Bool) {e v : ℕ} {x : Tuple} → e ≡ w / 65536 → v ≡ bit value
    → x ≡ argument_tuple w (parameters_of equations w) → parameters_of equations w ≤ 4
    → (take (x.count + 3)
    (set (0x04 ∷ e ∷ get_or x.values 0 0 ∷ get_or x.values 1 0 ∷ get_or x.values 2 0 ∷ get_or x.values 3 0 ∷ 0 ∷ 0 ∷ [])
    (x.count + 2) v) ≡ word_frame equations w value) × (x.count + 3 ≡ parameters_of equations w + 3)
unfolding word_frame arguments_of argument_tuple
frame_stored equations w value is shown unpacked few =
    let four : min (parameters_of equations w) 4 ≡ parameters_of equations w = omega arith in
    rw (is, shown, unpacked, four) (value_after (parameters_of equations w) _ _ _ _ _ _ few, refl)

module _ (equations : List Equation) (truth : List ℕ) where
  pub lines_more : (j : ℕ) (ws : List ℕ) → j < length ws → word_lines equations truth j (drop j ws)
      ≡ line_of (word_frame equations (get_or ws j 0) (bit_of truth j)) ++ word_lines equations truth (j + 1) (drop (j + 1) ws)
  unfolding word_lines
  lines_more j ws h = rw (drop-cons ws j 0 h, add-one) refl

  -- ---- how long lines are: 7 bytes at most in an instance's frame, so 15 characters
  frame_short : (w : ℕ) (value : Bool) → length (word_frame equations w value) ≤ 7
  unfolding word_frame arguments_of
  frame_short w value =
      let k = parameters_of equations w in
      let digits = w / 4096 % 16 ∷ w / 256 % 16 ∷ w / 16 % 16 ∷ w % 16 ∷ [] in
      omega (arith, length-append (take k digits) (bit value ∷ []), length-take k digits)

  pub lines_short : (j : ℕ) (ws : List ℕ) → length (word_lines equations truth j ws) ≤ 15 * length ws
  unfolding word_lines
  lines_short j [] = omega arith
  lines_short j (w ∷ ws) =
      let f = word_frame equations w (bit_of truth j) in
      let rest = word_lines equations truth (suc j) ws in
      omega (arith, length-append (line_of f) rest, line_length f, frame_short w (bit_of truth j), lines_short (suc j) ws)

-- ---- a whole answer on a verdict: the instances' lines and then the verdict's
pub told : (lines rest out : List ℕ) (at : ℕ) {middle out' : List ℕ} {r : ℕ} → Puts out 0 lines at middle
    → Puts middle at rest r out'
    → Puts out 0 (lines ++ rest) r out'
told lines rest out at v w = (
  omega (arith, length-append lines rest),
  w.1
      ∙ ap (λ (m : List ℕ). sets m at rest) v.1
      ∙ ap (λ (n : ℕ). sets (sets out 0 lines) n rest) v.0
      ∙ sym (sets_append out 0 lines rest),
)
