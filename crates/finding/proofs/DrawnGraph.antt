-- The graph in the midst of the search: it is drawn for the first instances, as far as they are taken.
-- A word keeps its number when others are found after it, so what is drawn stays right as the table grows.
use Prim.Native.Nat.{ℕ, ◌+◌, ◌≤◌, ◌<◌}
use native.Mathlib.Omega.{arith}
use native.Mathlib.Decide.{ℕ_discrete, dec_lt}
use mathlib.Core.Path.{◌≡◌, refl, sym, ap, ◌∙◌, fun_ext}
use mathlib.Core.Bool.{Bool, ◌&&◌, ◌||◌, and-false, or-false, and_self_left}
use mathlib.Core.List.{List, ◌++◌}
use lib.Dec.{eqb, ltb}
use lib.ListN.{length, get_or, length-append, get_or-append}
use borrow.Author.Tests.{eq-eqb, ne_eqb, lt-ltb, le-ltb}
use Rattle.formulas.specs.declared.Equation.{Equation}
use Rattle.truth.specs.Bits.{bit_of, nowhere}
use Rattle.truth.specs.Rows.{row_of}
use Rattle.words.specs.Unpacked.{equation_number}
use Rattle.systems.specs.Numbered.{Truths}
use Rattle.instances.specs.Sides.{among_first, names}
use Rattle.instances.specs.Graph.{left_in, words_left, numbers, reads_in, plain_as, GraphOf}
use Rattle.instances.specs.Graph.{readers_row, members_row, plain_row}
use Rattle.instances.proofs.Numbers.{Inside, inside_each, inside_longer}
use Rattle.instances.proofs.GraphLaws.{reads_longer}
use Rattle.finding.specs.Drawn.{SideDrawn}

-- the graph of a table, of which the first i instances are drawn
pub record Drawn (bodies : List ℕ) (equations : List Equation) (table : List ℕ) (i : ℕ) (graph : List ℕ) : Type 0 where
  pub closed : (j : ℕ) → j < i → Inside table (words_left (left_in bodies equations (get_or table j 0)))
  pub reads : (j : ℕ) → j < i → row_of graph j ≡ reads_in bodies equations table j
  pub readers : (k m : ℕ) → k < 512 → row_of graph (readers_row k) m ≡ (ltb m i && reads_in bodies equations table m k)
  pub members : (e m : ℕ) → e < 8 → row_of graph (members_row e) m ≡ (ltb m i && names table e m)
  pub shapes : (all : Bool) (m : ℕ)
      → row_of graph (plain_row all) m ≡ (ltb m i && plain_as all (left_in bodies equations (get_or table m 0)))

-- ---- empty rows
row_empty : (graph : List ℕ) → bit_of graph ≡ nowhere → (n m : ℕ) (b : Bool) → row_of graph n m ≡ (ltb m 0 && b)
unfolding row_of
row_empty graph e n m b = rw (e, le-ltb m 0 (omega arith)) (and-false (ltb m 512))

pub drawn_none : {bodies : List ℕ} {equations : List Equation} {table graph : List ℕ} → bit_of graph ≡ nowhere
    → Drawn bodies equations table 0 graph
drawn_none {graph = graph} e = record {
  closed = λ j h. absurd (omega arith);
  reads = λ j h. absurd (omega arith);
  readers = λ k m h. row_empty graph e (readers_row k) m _;
  members = λ k m h. row_empty graph e (members_row k) m _;
  shapes = λ all m. row_empty graph e (plain_row all) m _;
}

-- ---- all rows
-- none reads that is not in the table
reads_few : (bodies : List ℕ) (equations : List Equation) (table : List ℕ) (m k : ℕ)
    → (ltb m (length table) && reads_in bodies equations table m k) ≡ reads_in bodies equations table m k
unfolding reads_in
reads_few bodies equations table m k = and_self_left (ltb m (length table)) _

pub drawn_all : {bodies : List ℕ} {equations : List Equation} {table graph : List ℕ} → length table ≤ 512
    → Drawn bodies equations table (length table) graph → GraphOf bodies equations table graph
unfolding among_first
drawn_all {bodies} {equations} {table} few d = record {
  few = few;
  closed = λ j h. inside_each table _ (d.closed j h);
  reads = d.reads;
  readers = λ k m h. d.readers k m (omega arith) ∙ reads_few bodies equations table m k;
  members = λ e h. fun_ext λ m. d.members e m h;
  plain = λ all j h. d.shapes all j ∙ rw (lt-ltb j (length table) h) refl;
}

-- ---- one more instance
-- a is right of those before i, b of i itself
one_more : (m i : ℕ) (a b c : Bool) → (m < i → a ≡ c) → (m ≡ i → b ≡ c)
    → ((ltb m i && a) || (eqb m i && b)) ≡ (ltb m (i + 1) && c)
one_more m i a b c old new = elim (dec_lt m i) [
  | yes l ↦ rw (lt-ltb m i l, lt-ltb m (i + 1) (omega arith), ne_eqb m i (λ e. omega arith), or-false a) (old l)
  | no g ↦ rw (le-ltb m i (omega arith)) (elim (ℕ_discrete m i) [
    | yes e ↦ rw (eq-eqb m i e, lt-ltb m (i + 1) (omega arith)) (new e)
    | no o ↦ rw (ne_eqb m i o, le-ltb m (i + 1) (omega arith)) refl
  ])
]

-- it has the word w, of equation e, and more words are found with it
module _ {bodies : List ℕ} {equations : List Equation} {table : List ℕ} {i w e : ℕ} {graph graph' : List ℕ} {reads : Truths}
    {plain : Bool → Bool} (more : List ℕ) (d : Drawn bodies equations table i graph) (inside : i < length table)
    (named : get_or table i 0 ≡ w) (is : e ≡ equation_number w) (s : SideDrawn graph graph' i e reads plain) where
  abbrev table' : List ℕ
  table' = table ++ more

  same_word : (j : ℕ) → j < length table → get_or table' j 0 ≡ get_or table j 0
  same_word j h = get_or-append table more 0 j h

  word_here : (m : ℕ) → m ≡ i → get_or table' m 0 ≡ w
  word_here m q = rw q (same_word i inside ∙ named)

  module _ (few : length table' ≤ 512) (read : reads ≡ numbers table' (words_left (left_in bodies equations w)))
      (there : Inside table' (words_left (left_in bodies equations w)))
      (shaped : (all : Bool) → plain all ≡ plain_as all (left_in bodies equations w)) where
    -- what it reads, and what those before it read
    reads_here : reads ≡ reads_in bodies equations table' i
    unfolding reads_in
    reads_here = fun_ext λ k.
        rw (lt-ltb i (length table') (omega (arith, length-append table more)), word_here i refl, read) refl

    reads_before : (j : ℕ) → j < i → reads_in bodies equations table j ≡ reads_in bodies equations table' j
    reads_before j h = sym (reads_longer bodies equations table more j (omega arith) (d.closed j h))

    pub drawn_more : Drawn bodies equations table' (i + 1) graph'
    unfolding names
    drawn_more = record {
      closed = λ j h. elim (ℕ_discrete j i) [
        | yes q ↦ rw (word_here j q) there
        | no o ↦ rw (same_word j (omega arith))
            (inside_longer table more (words_left (left_in bodies equations (get_or table j 0))) (d.closed j (omega arith)))
      ];
      reads = λ j h. s.own j (omega (arith, length-append table more)) ∙ elim (ℕ_discrete j i) [
        | yes q ↦ rw (q, eq-eqb i i refl) reads_here
        | no o ↦ rw (ne_eqb j i o) (d.reads j (omega arith) ∙ reads_before j (omega arith))
      ];
      readers = λ k m h. s.readers k m h ∙ ap (λ (b : Bool). b || (eqb m i && reads k)) (d.readers k m h)
          ∙ one_more m i _ _ _ (λ l. ap (λ (f : Truths). f k) (reads_before m l))
          (λ q. rw q (ap (λ (f : Truths). f k) reads_here));
      members = λ a m h. s.members a m h ∙ ap (λ (b : Bool). b || (eqb m i && eqb a e)) (d.members a m h)
          ∙ one_more m i _ _ _ (λ l. rw (same_word m (omega arith)) refl) (λ q. rw (word_here m q, is) refl);
      shapes = λ all m. s.shapes all m ∙ ap (λ (b : Bool). b || (eqb m i && plain all)) (d.shapes all m)
          ∙ one_more m i _ _ _ (λ l. rw (same_word m (omega arith)) refl) (λ q. rw (word_here m q) (shaped all));
    }
