-- What a right side reads: it hangs on these numbers alone, and where it is plain it is `all` where each of them is.
-- A plain tree is `all` where every leaf is; and the numbers read are those of the leaves' words in the table.
use Prim.Native.Nat.{ℕ, ◌<◌}
use native.Mathlib.Decide.{ℕ_discrete}
use native.Mathlib.Omega.{arith}
use mathlib.Core.Path.{◌≡◌, refl, sym, ap₂, ◌∙◌, fun_ext}
use mathlib.Core.Bool.{Bool, true, false, not, cond, ◌&&◌, beq, and-eq-true_iff}
use mathlib.Core.List.{List, [], ◌∷◌, ◌++◌}
use mathlib.Core.Logic.{⊎_elim}
use lib.Dec.{eqb, ltb}
use lib.ListN.{length, length-append, get_or, get_or-append}
use borrow.Author.Tests.{lt-ltb, ltb-true, eq-eqb, ne_eqb, not-false}
use Rattle.meaning.specs.Logic.{Is, ◌and◌, ◌or◌, join, join_makes, join_same}
use Rattle.meaning.specs.Solution.{mem}
use Rattle.meaning.specs.Simplification.{Tree, leaf, node, Simplified, decided, left, tree_holds, simplified_holds}
use Rattle.meaning.specs.Reach.{Instance, leaves, instances}
use Rattle.meaning.proofs.Members.{mem_head, mem_nothing, mem_one, mem_left, mem_right, mem_split}
use Rattle.meaning.proofs.Simplified.{holds_simplified, holds_depends}
use Rattle.meaning.specs.Words.{word}
use Rattle.formulas.specs.declared.Equation.{Equation}
use Rattle.truth.proofs.RowLaws.{last_none, last_some, last_within}
use Rattle.truth.specs.Rows.{unlike_in, last_below}
use Rattle.truth.proofs.Bits.{beq_eq}
use Rattle.evaluator.proofs.AsTruth.{as_truth}
use Rattle.evaluator.specs.Values.{index_of, value_in}
use Rattle.systems.specs.Numbered.{Truths, Numbered}
use Rattle.instances.specs.Sides.{numbered_system}
use Rattle.instances.specs.Graph.{left_in, words_left, reads_in, plain_tree, plain_as, GraphOf}
use Rattle.instances.proofs.SystemLaws.{word_true, word_same, side_holds, of_named}
use Rattle.instances.proofs.Numbers.{NumberOf, numbers_has, numbers_of, Inside, numbers_longer}

-- ---- what a right side reads
module _ (bodies : List ℕ) (equations : List Equation) (table : List ℕ) where
  abbrev S : Numbered
  S = numbered_system bodies equations table

  abbrev left_at : ℕ → Simplified
  left_at j = left_in bodies equations (get_or table j 0)

  -- the number of each instance that is left is read
  pub reads_has : (j : ℕ) → j < length table → (i : Instance) → Is (mem i (instances (left_at j)))
      → reads_in bodies equations table j (index_of table (word i)) ≡ true
  unfolding reads_in
  reads_has j h i m = rw (lt-ltb j (length table) h) (numbers_has table (instances (left_at j)) i m)

  -- and what is read is the number of one
  pub reads_of : (j k : ℕ) → reads_in bodies equations table j k ≡ true → NumberOf table (instances (left_at j)) k
  unfolding reads_in
  reads_of j k h = numbers_of table (instances (left_at j)) k ((and-eq-true_iff (ltb j (length table)) _).0 h).1

  -- in a longer table the same is read
  pub reads_longer : (more : List ℕ) (j : ℕ) → j < length table → Inside table (words_left (left_at j))
      → reads_in bodies equations (table ++ more) j ≡ reads_in bodies equations table j
  unfolding reads_in
  reads_longer more j h i =
      let long : j < length (table ++ more) = omega (arith, length-append table more) in
      fun_ext λ k. rw (
        lt-ltb j (length (table ++ more)) long,
        lt-ltb j (length table) h,
        get_or-append table more 0 j h,
        numbers_longer table more (words_left (left_at j)) i,
      )

  -- a right side hangs on what it reads alone
  pub system_hangs : (v v' : Truths) (e k : ℕ) → S.of e k ≡ true
      → ((i : ℕ) → reads_in bodies equations table k i ≡ true → v i ≡ v' i) → S.right_sides v k ≡ S.right_sides v' k
  system_hangs v v' e k o h =
      let inside = ltb-true k (length table) (of_named bodies equations table e k o).0 in
      rw (side_holds bodies equations table v k, side_holds bodies equations table v' k) (holds_depends _ _ _ _
      (λ m x i. word_same table v v' (word (m ∷ x)) (h (index_of table (word (m ∷ x))) (reads_has k inside (m ∷ x) i))))

-- ---- what is plain
pub other_than : (a b : Bool) → not (beq a b) ≡ true → a ≡ not b
other_than true true h = sym h
other_than true false h = refl
other_than false true h = refl
other_than false false h = h

makes_join : (all b : Bool) → join all (not all) b ≡ not all
unfolding join ◌and◌ ◌or◌
makes_join true b = refl
makes_join false b = refl

module _ (all : Bool) (f : Instance → Bool) where
  -- a tree is `all` where every leaf is
  tree_all : (t : Tree) → ((i : Instance) → Is (mem i (leaves t)) → f i ≡ all) → tree_holds t (λ e x. f (e ∷ x)) ≡ all
  unfolding tree_holds leaves
  tree_all (leaf e x) h = h (e ∷ x) (mem_head (e ∷ x) [])
  tree_all (node b t u) h =
      ap₂ (join b) (tree_all t (λ i m. h i (mem_left (leaves t) (leaves u) i m)))
      (tree_all u (λ i m. h i (mem_right (leaves t) (leaves u) i m)))
      ∙ join_same b all

  -- and a plain one is not where one leaf is not
  tree_other : (t : Tree) → plain_tree all t ≡ true → (i : Instance) → Is (mem i (leaves t)) → f i ≡ not all
      → tree_holds t (λ e x. f (e ∷ x)) ≡ not all
  unfolding tree_holds leaves plain_tree
  tree_other (leaf e x) p i m h = rw (mem_one i (e ∷ x) m) at h
  tree_other (node b t u) p i m h =
      let q = (and-eq-true_iff (beq b all) (plain_tree all t && plain_tree all u)).0 p in
      let r = (and-eq-true_iff (plain_tree all t) (plain_tree all u)).0 q.1 in
      rw (beq_eq b all q.0) (⊎_elim
      (λ l. rw (tree_other t r.0 i l h) (makes_join all _))
      (λ l. rw (tree_other u r.1 i l h) (join_makes all _))
      (mem_split (leaves t) (leaves u) i m))

  left_all : (s : Simplified) → plain_as all s ≡ true → ((i : Instance) → Is (mem i (instances s)) → f i ≡ all)
      → simplified_holds s (λ e x. f (e ∷ x)) ≡ all
  unfolding simplified_holds instances plain_as
  left_all (decided c) p h = beq_eq c all p
  left_all (left t) p h = tree_all t h

  left_other : (s : Simplified) → plain_as all s ≡ true → (i : Instance) → Is (mem i (instances s)) → f i ≡ not all
      → simplified_holds s (λ e x. f (e ∷ x)) ≡ not all
  unfolding simplified_holds instances plain_as
  left_other (decided c) p i m h = absurd (mem_nothing i m)
  left_other (left t) p i m h = tree_other t p i m h

-- ---- where each instance that is left has a number
-- what is read is in the table
pub reads_small : {bodies : List ℕ} {equations : List Equation} {table graph : List ℕ}
    → GraphOf bodies equations table graph → (j k : ℕ) → reads_in bodies equations table j k ≡ true → k < length table
unfolding reads_in
reads_small {bodies} {equations} {table} g j k h =
    let n = reads_of bodies equations table j k h in
    let inside = ltb-true j (length table) ((and-eq-true_iff (ltb j (length table)) _).0 h).0 in
    rw n.number (g.closed j inside n.one n.among)

module _ {bodies : List ℕ} {equations : List Equation} {table graph : List ℕ} (g : GraphOf bodies equations table graph)
    (all : Bool) (j : ℕ) (inside : j < length table) (plain : plain_as all (left_in bodies equations (get_or table j 0)) ≡ true)
    (v : Truths) where
  abbrev reads : Truths
  reads = reads_in bodies equations table j

  abbrev side : Bool
  side = (numbered_system bodies equations table).right_sides v j

  abbrev told : Instance → Bool
  told i = as_truth false (value_in table v (word i))

  side_left : side ≡ simplified_holds (left_in bodies equations (get_or table j 0)) (λ e x. told (e ∷ x))
  side_left = side_holds bodies equations table v j ∙ holds_simplified _ _ _

  -- an instance that is left has a number
  told_number : (i : Instance) → Is (mem i (instances (left_in bodies equations (get_or table j 0))))
      → told i ≡ v (index_of table (word i))
  told_number i m = word_true table v (word i) ∙ rw (lt-ltb _ _ (g.closed j inside i m)) refl

  pub plain_all : ((k : ℕ) → reads k ≡ true → v k ≡ all) → side ≡ all
  plain_all h = side_left ∙ left_all all told _ plain
      (λ i m. told_number i m ∙ h (index_of table (word i)) (reads_has bodies equations table j inside i m))

  pub plain_other : (k : ℕ) → reads k ≡ true → v k ≡ not all → side ≡ not all
  plain_other k r h =
      let n = reads_of bodies equations table j k r in
      side_left ∙ left_other all told _ plain n.one n.among (told_number n.one n.among ∙ rw n.number at h)

  -- the last number that it reads and that is not `all`
  abbrev last : ℕ
  last = last_below 512 (unlike_in reads v all)

  none_other : last ≡ 512 → (k : ℕ) → reads k ≡ true → v k ≡ all
  unfolding unlike_in
  none_other e k r =
      let none = last_none (unlike_in reads v all) 512 e (omega arith) k (omega (arith, reads_small g j k r, g.few)) in
      beq_eq (v k) all (not-false _ (rw r at none))

  one_other : (last ≡ 512 → ⊥) → (reads last ≡ true) × (v last ≡ not all)
  unfolding unlike_in
  one_other n =
      let less : last < 512 = omega (arith, last_within (unlike_in reads v all) 512 (omega arith)) in
      let here = (last_some (unlike_in reads v all) 512 last refl less).1 in
      let b = (and-eq-true_iff (reads last) (not (beq (v last) all))).0 here in
      (b.0, other_than (v last) all b.1)

  -- it is `all` where there is none
  pub plain_side : side ≡ cond (eqb (last_below 512 (unlike_in reads v all)) 512) all (not all)
  plain_side = elim (ℕ_discrete last 512) [
    | yes e ↦ rw (eq-eqb last 512 e) (plain_all (none_other e))
    | no n ↦ rw (ne_eqb last 512 n) (plain_other last (one_other n).0 (one_other n).1)
  ]
