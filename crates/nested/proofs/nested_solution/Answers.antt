-- `nested::nested_solution` meets its contract.
-- What is solved from the first candidates is what is solved from nothing.
use mathlib.Core.Path.{◌≡◌, sym, subst}
use Prim.Native.Nat.{ℕ, min}
use native.Mathlib.Decide.{dec_lt}
use native.Mathlib.Omega.{arith}
use mathlib.Core.List.{List}
use lib.ListN.{length, take}
use lib.Seq.{take_all, take-length}
use Rattle.instances.specs.Sides.{numbered_system}
use Rattle.systems.specs.Solved.{Unsolved}
use Rattle.nested.proofs.Turns.{first_unsolved, solved_all}
use Rattle.nested.proofs.nested_solution.Goals as goal

-- as many words as there are, and at most so many
take_smaller : (n : ℕ) (t : List ℕ) → take (min (length t) n) t ≡ take n t
take_smaller n t = elim (dec_lt n (length t)) [
  | yes l ↦ let q : min (length t) n ≡ n = omega arith in rw q
  | no g ↦
      let q : min (length t) n ≡ length t = omega arith in
      rw (q, take-length t, take_all n t (omega arith))
]

pub solve-requires : goal.solve-requires
solve-requires c =
    let a = c.args in
    let few = c.min.result in
    let first_words = take c.min-size.result a.table.now in
    let S = numbered_system a.bodies.now a.equations first_words in
    let begun = first_unsolved a.bodies.now a.equations first_words few in
    (omega arith, subst (Unsolved S few 0) (sym c.first_candidates.ensures) begun)

pub returns : goal.returns
returns c =
    let a = c.args in
    let first_words = take c.min-size.result a.table.now in
    let size : c.min-size.result ≡ min (length a.table.now) 512 = c.min-size.ensures in
    let few : c.min.result ≡ min a.count 8 = c.min.ensures in
    rw (← take_smaller 512 a.table.now, ← size, ← few)
    (solved_all a.bodies.now a.equations first_words c.min.result c.first_candidates.ensures c.solve.ensures)
