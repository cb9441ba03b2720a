-- A part of a list as the code cuts it, and the right side that the evaluator gives for a word's body.
-- A part that would end past the list ends with it; a word that names no equation has no body.
use mathlib.Core.Path.{◌≡◌, refl, sym, ◌∙◌, ap}
use mathlib.Core.List.{List}
use Prim.Native.Nat.{ℕ, ◌+◌, ◌-◌, ◌≤◌, ◌<◌, min}
use native.Mathlib.Omega.{arith}
use lib.ListN.{length, take, drop, length-drop, drop_of_length-le}
use lib.Seq.{drop-length}
use borrow.Author.Tests.{lt-ltb, le-ltb}
use Rattle.formulas.specs.declared.Equation.{Equation}
use Rattle.formulas.specs.declared.Tuple.{Tuple}
use Rattle.formulas.specs.Tuples.{items}
use Rattle.truth.specs.Bits.{bit_of}
use Rattle.words.specs.Unpacked.{equation_number, argument_tuple, argument_count, argument_items, at_smaller, take_within}
use Rattle.std.proofs.Common.{Option, Some}
use mathlib.Core.Bool.{Bool, false}
use Rattle.evaluator.specs.Values.{valued, value_in}
use Rattle.prepared.specs.Decoded.{equation_at}
use Rattle.prepared.specs.Prepared.{prepared_part, formula_there}
use Rattle.instances.specs.Sides.{formula_in, side_of}

-- the part from `first` on, of as many bytes as are asked for or as are left
pub part_cut : (l : List ℕ) (place n : ℕ) {first end : ℕ} → first ≡ min place (length l) → end ≡ min (first + n) (length l)
    → take (end - first) (drop first l) ≡ take n (drop place l)
part_cut l place n {first} {end} f m =
    let size : end - first ≡ min n (length (drop first l)) = omega (arith, length-drop first l) in
    let dropped = at_smaller (λ k. drop k l) place (length l) (λ h. drop-length l ∙ sym (drop_of_length-le l h)) in
    rw size (take_within n (drop first l) ∙ rw f (ap (take n) dropped))

module _ (bodies : List ℕ) (equations : List Equation) (table truth : List ℕ) (w : ℕ) {e : ℕ} (is : e ≡ equation_number w) where
  -- there are eight equations: past them the formula is false
  pub side_past : 8 ≤ e → Some false ≡ side_of bodies equations table (bit_of truth) w
  unfolding side_of formula_in valued
  side_past h = rw (le-ltb (equation_number w) 8 (omega arith)) refl

  -- what the evaluator gives for a word's body and arguments is its right side
  pub side_given : {body : List ℕ} {scope : Tuple} {r : Option Bool} → e < 8 → body ≡ prepared_part bodies (equation_number w)
      → scope ≡ argument_tuple w (equation_at equations e).k
      → r ≡ valued (formula_there body scope.count 0) (value_in table (bit_of truth)) (items scope)
      → r ≡ side_of bodies equations table (bit_of truth) w
  unfolding side_of formula_in
  side_given l b s h =
      let k = (equation_at equations (equation_number w)).k in
      h ∙ rw (b, s, is, argument_items w k, argument_count w k, lt-ltb (equation_number w) 8 (omega arith)) refl
