-- REQUEST 2026-05: for C, what solving prints of what finding leaves is what the check prints: "What the
-- program prints stays".
-- A reply under 2^63 is no refusal, so it is the reached count, and the words before it are the list.
use Rattle.std.specs.Prelude.{ℕ, ◌<◌, ◌≡◌, refl, Bool, true, false, List, eqb, length, take}
use Rattle.std.proofs.Common.{arith, ap₂, subst, ◌∙◌, eqb-true}
use Rattle.answers.specs.Answers.{answer}
use Rattle.answers.proofs.Apart.{apart_prints}
use Rattle.answers.specs.Printed.{printed_solved}
use Rattle.printing.specs.Promise.{WritesLines, Written, SolvedWritten}
use Rattle.checker.specs.Promises.{FindsForC, reply_word}

pub find_and_solve_for_c : (t table : List ℕ) {w r : ℕ} {left out out_left : List ℕ}
    → FindsForC t table w left → w < 0x8000000000000000
    → SolvedWritten t (take w left) out r out_left → Written t out r out_left
unfolding reply_word
find_and_solve_for_c t table {w} {r} {left} {out} {out_left} f small s =
    of (eqb (answer t (length table)).number 0) refl
  where
    of : (b : Bool) → eqb (answer t (length table)).number 0 ≡ b → Written t out r out_left
    of true e =
        let counted : w ≡ (answer t (length table)).reached = rw e at f.answered in
        let lines = apart_prints t table (eqb-true _ 0 e) in
        subst (λ (l : List ℕ). WritesLines l out r out_left)
        (ap₂ (λ (n : ℕ) (ws : List ℕ). printed_solved t (take n ws)) counted f.listed ∙ lines) s
    of false e = absurd (omega (arith, rw e at f.answered))
