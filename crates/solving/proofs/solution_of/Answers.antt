-- `solving::solution_of` meets its contract.
-- The rounds and the nested solver give the same solution, and that is the meaning.
use Prim.Native.Nat.{ℕ, ◌<◌, min}
use native.Mathlib.Omega.{arith}
use mathlib.Core.Path.{◌≡◌, refl}
use mathlib.Core.List.{List}
use lib.ListN.{length, get_or}
use lib.Seq.{take_all}
use mir.Val.{Fits}
use mir.Syntax.{w64}
use borrow.Author.Rules.{rules}
use Rattle.meaning.specs.Reach.{Instance}
use Rattle.formulas.specs.declared.Equation.{Equation}
use Rattle.truth.specs.Bits.{bit_of, nowhere}
use Rattle.truth.specs.Words.{truth_words}
use Rattle.truth.proofs.Bits.{Eight}
use Rattle.instances.specs.Sides.{numbered_system}
use Rattle.instances.specs.Models.{model_in}
use Rattle.instances.proofs.Models.{few_equations}
use Rattle.systems.specs.Solved.{solved}
use Rattle.solving.specs.Promise.{Solvable, reached_values}
use Rattle.solving.proofs.SolvedMeaning.{solved_words}
use Rattle.solving.proofs.solution_of.Goals as goal

-- all equations are taken, at most eight
meant : {bodies : List ℕ} {equations : List Equation} {count : ℕ} {table graph : List ℕ} {start : Instance}
    → Solvable bodies equations count table graph start → {few : ℕ} → few ≡ min count 8 → {r : List ℕ} → Eight r
    → bit_of r ≡ solved (numbered_system bodies equations table) few 0 nowhere
    → r ≡ truth_words (reached_values (model_in bodies equations count) start)
meant {count = count} h {few} f {r} e q =
    let n : few ≡ count = omega (arith, few_equations h.model) in
    solved_words h.model r e (rw (h.words, n) at q)

pub returns-in-Some : goal.returns-in-Some
returns-in-Some c start h =
    let r = c.in-Some.truth in
    let eight : length r ≡ 8 = search rules in
    let fits : (i : ℕ) → i < 8 → Fits w64 (get_or r i 0) = λ i l. search rules in
    meant h c.min.ensures (record { eight = eight; fits = λ i l. (fits i l).fits }) (c.in-Some.ensures h.drawn)

-- a table of at most 512 words is taken whole
pub returns : goal.returns
returns c start h =
    let r = c.nested_solution.result in
    let table = c.args.table.now in
    let eight : length r ≡ 8 = search rules in
    let fits : (i : ℕ) → i < 8 → Fits w64 (get_or r i 0) = λ i l. search rules in
    meant h refl (record { eight = eight; fits = λ i l. (fits i l).fits })
    (rw (take_all 512 table h.drawn.few) at c.nested_solution.ensures)
