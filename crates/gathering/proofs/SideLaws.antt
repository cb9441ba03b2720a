-- The right side of the instance that a word names: what is gathered of its body is gathered of it.
-- The body and the variables in reach are those that the word names; more words found than one past the room count as that.
use Prim.Native.Nat.{ℕ, ◌+◌, ◌≤◌, ◌<◌, min}
use native.Mathlib.Omega.{arith}
use native.Mathlib.Decide.{dec_lt}
use mathlib.Core.Path.{◌≡◌, refl, sym, ap, ap₂, subst, ◌∙◌}
use mathlib.Core.Bool.{Bool, false}
use mathlib.Core.List.{List}
use lib.Dec.{ltb}
use lib.ListN.{length}
use borrow.Author.Tests.{lt-ltb, le-ltb}
use Rattle.meaning.specs.Simplification.{simplified}
use Rattle.meaning.specs.Reach.{instances}
use Rattle.meaning.specs.WordLaws.{arguments_of}
use Rattle.formulas.specs.declared.Equation.{Equation}
use Rattle.formulas.specs.declared.Tuple.{Tuple}
use Rattle.formulas.specs.Tuples.{items}
use Rattle.truth.specs.Bits.{bit_of, nowhere}
use Rattle.words.specs.Unpacked.{equation_number, argument_tuple, argument_count, argument_items}
use Rattle.prepared.specs.Decoded.{equation_at}
use Rattle.prepared.specs.Prepared.{prepared_part, formula_there}
use Rattle.instances.specs.Sides.{formula_in, arguments_in}
use Rattle.gathering.specs.declared.Shape.TheVariants.{Decided}
use Rattle.gathering.specs.declared.Shape.{Shape}
use Rattle.looked.specs.declared.Looked.{Looked}
use Rattle.gathering.specs.FoundWords.{add, noted}
use Rattle.gathering.specs.Filling.{Filled, found_of, found_words}
use Rattle.gathering.specs.Shapes.{shape_of, gist}
use Rattle.gathering.specs.Gathered.{store, Takes, GathersLeft}
use Rattle.gathering.specs.Side.{SideGathers}

-- n words found, or one more than there is room
capped : (room n : ℕ) {m : ℕ} → m ≡ min n (room + 1) → found_of room m ≡ found_of room n
capped room n e = ap (found_of room) e ∙ ap₂ filled (omega arith) (over (dec_lt room n))
  where
    filled : ℕ → Bool → Filled
    filled count over = record { count = count; over = over }

    over : Dec (room < n) → ltb room (min n (room + 1)) ≡ ltb room n
    over (yes h) = lt-ltb room (min n (room + 1)) (omega arith) ∙ sym (lt-ltb room n h)
    over (no h) = le-ltb room (min n (room + 1)) (omega arith) ∙ sym (le-ltb room n (omega arith))

-- the instance with the word w, which names equation e; m words are found at first
module _ (bodies : List ℕ) (equations : List Equation) (w : ℕ) {e m n : ℕ} (is : e ≡ equation_number w) {t : List ℕ}
    (found : m ≡ min n (length t + 1)) where
  -- there are eight equations: nothing is left of another
  pub side_past : 8 ≤ e → {reads : List ℕ} → bit_of reads ≡ nowhere
      → SideGathers bodies equations w (length t) t t n (record { found = m; reads = reads; shape = Decided false })
  unfolding formula_in simplified instances shape_of add noted
  side_past h none =
      let past = le-ltb (equation_number w) 8 (omega (arith, is)) in
      record {
        few = omega arith;
        size = refl;
        told = rw past (record {
          added = ap (found_words t) (capped (length t) n found);
          noted = none;
          shaped = refl;
        });
      }

  -- it is gathered from its prepared body's first code on
  pub side_gathers : {r : ℕ} {body : List ℕ} {scope : Tuple} {t' set set' : List ℕ} {x : Looked Shape} → e < 8
      → bit_of set ≡ nowhere → body ≡ prepared_part bodies (equation_number w)
      → scope ≡ argument_tuple w (equation_at equations e).k
      → GathersLeft (formula_there body scope.count 0) (items scope) (store t m set) (store t' r set') x
      → SideGathers bodies equations w (length t) t t' n (record { found = r; reads = set'; shape = x.value })
  unfolding formula_in
  side_gathers {r} {body} {scope} {t'} {set} {set'} {x} inside none b s g =
      let k = (equation_at equations e).k in
      let values : items scope ≡ arguments_of k w = ap items s ∙ argument_items w k in
      let count = ap (λ (x : Tuple). x.count) s ∙ argument_count w k in
      let there = lt-ltb (equation_number w) 8 (omega (arith, is)) in
      let taken = rw (values, b, count, is, none) at g.takes in
      let f = formula_there (prepared_part bodies (equation_number w)) (min (equation_at equations (equation_number w)).k 4) 0 in
      let told = subst (λ (s : Filled). Takes (length t) (found_words t s) (found_words t' (found_of (length t) r)) nowhere
      (bit_of set') x.value (gist (simplified f (arguments_in equations w)))) (capped (length t) n found) taken in
      record { few = g.within.few; size = g.within.size; told = rw there told }
