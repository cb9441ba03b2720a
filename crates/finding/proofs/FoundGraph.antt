-- The search draws the graph of what it finds: of the first instances, as far as they are taken.
-- What is gathered of an instance that is taken says its rows; where all are taken the graph is whole.
use Prim.Native.Nat.{ℕ, ◌+◌, ◌≤◌, ◌<◌}
use native.Mathlib.Omega.{arith}
use mathlib.Core.Path.{◌≡◌, refl, sym, ap, ◌∙◌, fun_ext}
use mathlib.Core.Bool.{Bool, false}
use mathlib.Core.List.{List, ◌++◌}
use lib.ListN.{length, take, drop, get_or, length-append, length-take}
use lib.Seq.{get_or-take, length-take-le}
use Rattle.meaning.specs.Simplification.{Simplified}
use Rattle.meaning.specs.Reach.{Instance}
use Rattle.formulas.specs.declared.Equation.{Equation}
use Rattle.truth.specs.Bits.{bit_of, nowhere}
use Rattle.words.specs.Unpacked.{equation_number}
use Rattle.instances.specs.Graph.{left_in, words_left, numbers, graph_words}
use Rattle.instances.proofs.Numbers.{Inside}
use Rattle.gathering.specs.declared.Side.{Side}
use Rattle.gathering.specs.FoundWords.{FoundWords, add, noted}
use Rattle.gathering.specs.Shapes.{is_plain}
use Rattle.gathering.specs.Side.{SideGathers}
use Rattle.gathering.proofs.Noting.{noted_numbers, all_inside}
use Rattle.gathering.proofs.ShapeLaws.{shape_plain}
use Rattle.std.specs.Prelude.{Option, Some, None, unwrap_or}
use Rattle.finding.specs.Found.{Found, told, Searchable, Draws, Finds, FindsBefore}
use Rattle.finding.specs.Drawn.{Drawable, DrawsSide}
use Rattle.finding.proofs.DrawnGraph.{Drawn, drawn_none, drawn_all, drawn_more}
use Rattle.finding.proofs.Finding.{Searching, taken, copied_words, found_copied}

-- the numbers noted as words are added are those that they have in the table then, and each of them is in it
record Noted (table ws : List ℕ) (set : ℕ → Bool) : Type 0 where
  pub all : set ≡ numbers table ws
  pub inside : Inside table ws

words_noted : (room : ℕ) (table : List ℕ) {table' : List ℕ} (ws : List ℕ) → (table', false) ≡ add room (table, false) ws
    → length table' ≤ 512 → Noted table' ws (noted room (table, false) ws nowhere)
words_noted room table {table'} ws e few =
    let is : (add room (table, false) ws).0 ≡ table' = ap (λ (s : FoundWords). s.0) (sym e) in
    let fits : (add room (table, false) ws).1 ≡ false = ap (λ (s : FoundWords). s.1) (sym e) in
    record {
      all = fun_ext λ k. noted_numbers room (table, false) ws nowhere fits (omega (arith, ap length is)) k ∙ rw is refl;
      inside = rw is at (all_inside room (table, false) ws fits);
    }

-- rows in the midst of the search; g₀ are the rows as the search began
pub record Drawing (bodies : List ℕ) (equations : List Equation) (start room : ℕ) (g₀ g t : List ℕ) (n i : ℕ) : Type 0 where
  pub size : length g ≡ length g₀
  pub drawn : (count : ℕ) (first : Instance) → Searchable bodies equations start count first
      → length g₀ ≡ graph_words → bit_of g₀ ≡ nowhere → Drawn bodies equations (take n t) i g

pub drawing_starts : {bodies : List ℕ} {equations : List Equation} {start room : ℕ} {g t : List ℕ} {n : ℕ}
    → Drawing bodies equations start room g g t n 0
drawing_starts = record { size = refl; drawn = λ count first h lent empty. drawn_none empty }

module _ {bodies : List ℕ} {equations : List Equation} {start room : ℕ} {t g₀ g : List ℕ} {n i : ℕ}
    (s : Searching bodies equations start room t n i) (d : Drawing bodies equations start room g₀ g t n i) where
  -- as many words are found as are counted
  counted : length (take n t) ≡ n
  counted = length-take-le n t (omega (arith, s.within, s.lent))

  -- nothing is left to take
  pub all_drawn : n ≤ i → (count : ℕ) (first : Instance) → Searchable bodies equations start count first
      → Draws bodies equations t g₀ g (record { count = n; over = false })
  all_drawn h count first k over lent empty =
      let at = s.stage count first k in
      let all : i ≡ length (take n t) = omega (arith, counted, at.taken, at.counted, length-append at.done at.todo) in
      drawn_all (omega (arith, counted, s.within, s.few)) (rw all at (d.drawn count first k lent empty))

  -- one more instance is drawn
  module _ {t' g' : List ℕ} {e : ℕ} {r : Side} (more : i < n)
      (side : SideGathers bodies equations (get_or t i 0) (length t) t t' n r) (h : r.found ≤ room)
      (is : e ≡ equation_number (get_or t i 0)) (drew : DrawsSide g g' i e r.reads r.shape) where
    abbrev left_here : Simplified
    left_here = left_in bodies equations (get_or t i 0)

    pub drawing_on : Drawing bodies equations start room g₀ g' t' r.found (i + 1)
    drawing_on = record {
      size = drew.size ∙ d.size;
      drawn = λ count first k lent empty.
          let told = taken k s more side h in
          let into : Drawable g i = record { lent = d.size ∙ lent; small = omega (arith, s.within, s.few) } in
          let short : length (take n t ++ told.more) ≤ 512 =
          omega (arith, ap length told.grown, length-take r.found t', s.few) in
          let read = words_noted room (take n t) (words_left left_here) told.takes.added short in
          rw told.grown (drawn_more told.more (d.drawn count first k lent empty) (omega (arith, counted))
          (get_or-take n t i 0 more) is (drew.drawn into (omega (arith, told.few))) short
          (told.takes.noted ∙ read.all) read.inside
          (λ all. ap (is_plain all) told.takes.shaped ∙ shape_plain all left_here));
    }

-- what is found in a table of its own is found in the one into which it is copied, and so is its graph
pub finds_copied : {bodies : List ℕ} {equations : List Equation} {start room : ℕ} {words table table' g g' : List ℕ} {r : Found}
    (rest : List ℕ) → length words ≡ room → FindsBefore bodies equations start room words g g' r
    → table' ≡ take r.count (words ++ rest) ++ drop r.count table → Finds bodies equations start room table table' g g' r
finds_copied {words = words} {table = table} {r = r} rest long f copied =
    let few : r.count ≤ length words = omega (arith, f.few) in
    rw copied (record {
      finds = λ count first k. found_copied rest few (f.found.finds count first k);
      draws = λ count first k over lent empty.
          rw (copied_words r.count words rest table few) (f.found.draws count first k over lent empty);
    })

-- how many words are copied
pub told_count : (room : ℕ) (r : Option ℕ) → unwrap_or r room ≡ (told room r).count
told_count room None = refl
told_count room (Some n) = refl
