-- `emitter::put_start` meets its contract.
-- At most four values follow the ranges; as many of them as there are parameters are the initial ones.
use Prim.Native.Nat.{ℕ, zero, suc, ◌+◌, ◌≤◌}
use native.Mathlib.Omega.{arith}
use mathlib.Core.Path.{◌≡◌, refl, ap, ◌∙◌}
use mathlib.Core.List.{List, [], ◌∷◌}
use lib.ListN.{length, get_or, take}
use Rattle.formulas.specs.Contract.{part}
use Rattle.spelling.specs.Spelled.{start_frame}
use Rattle.translation.specs.Processes.{Process}
use Rattle.translation.specs.Modal.{Modal}
use Rattle.translation.specs.Translation.{translated_start}
use Rattle.emitter.specs.Built.{Given}
use Rattle.emitter.proofs.SheetHeads.{parameters, few_parameters, initial_read}
use Rattle.emitter.proofs.put_start.Goals as goal

-- four values in a row, and the first k of them
first_values : (sheet : List ℕ) (p k : ℕ) → k ≤ 4
    → take k (get_or sheet p 0 ∷ get_or sheet (p + 1) 0 ∷ get_or sheet (p + 1 + 1) 0 ∷ get_or sheet (p + 1 + 1 + 1) 0 ∷ [])
    ≡ part sheet p k
unfolding part
first_values sheet p zero h = refl
first_values sheet p (suc zero) h = refl
first_values sheet p (suc (suc zero)) h = refl
first_values sheet p (suc (suc (suc zero))) h = refl
first_values sheet p (suc (suc (suc (suc zero)))) h = refl
first_values sheet p (suc (suc (suc (suc (suc k))))) h = absurd (omega arith)

after_two : (k : ℕ) (l : List ℕ) → take (2 + k) (2 ∷ 0 ∷ l) ≡ 2 ∷ 0 ∷ take k l
after_two k l =
    let n : 2 + k ≡ suc (suc k) = omega arith in
    ap (λ (m : ℕ). take m (2 ∷ 0 ∷ l)) n

-- so many values from place 2 + k on, behind the code and the number of the equation, are the frame of the start
start_bytes : {process : Process} {f : Modal} {sheet : List ℕ} (g : Given process f sheet)
    → (k : ℕ) → k ≡ length process.ranges
    → take (2 + k) (2 ∷ 0 ∷ get_or sheet (2 + k) 0 ∷ get_or sheet (3 + k) 0 ∷ get_or sheet (4 + k) 0 ∷ get_or sheet (5 + k) 0 ∷
    [])
    ≡ start_frame (translated_start process)
unfolding start_frame
start_bytes {process} {f} {sheet} g k e =
    let a : 3 + k ≡ 2 + k + 1 = omega arith in
    let b : 4 + k ≡ 2 + k + 1 + 1 = omega arith in
    let d : 5 + k ≡ 2 + k + 1 + 1 + 1 = omega arith in
    let values = first_values sheet (2 + k) k (omega (arith, e, few_parameters g)) ∙
    ap (λ (m : ℕ). part sheet (2 + m) m) e ∙ initial_read g in
    rw (a, b, d) (after_two k _ ∙ ap (λ (l : List ℕ). 2 ∷ 0 ∷ l) values)

pub returns : goal.returns
returns c =
    record {
      told = λ process f g.
          rw (
            ← start_bytes g c.from-k.result
                (omega (arith, c.from-k.ensures, c.parameters.ensures, parameters g, few_parameters g)),
            ← c.element-a.ensures,
            ← c.element-b.ensures,
            ← c.element-c.ensures,
            ← c.element-d.ensures,
          )
          c.put_line.ensures;
    }
