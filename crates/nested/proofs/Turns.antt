-- What the loop of `solve` computes is the definition's turns, whether it stops early or not.
-- Once a turn changes nothing, no later one does; and a turn leaves the later equations at their first candidates.
use mathlib.Core.Path.{◌≡◌, refl, sym, ap, ◌∙◌, fun_ext}
use mathlib.Core.Bool.{Bool, true, false, true≢false, cond, ◌&&◌}
use mathlib.Core.List.{List}
use Prim.Native.Nat.{ℕ, zero, suc, ◌+◌, ◌-◌, ◌<◌, ◌≤◌}
use native.Mathlib.Nat.{zero-add, suc-add, sub-zero}
use native.Mathlib.Numerals.{add-one}
use native.Mathlib.Omega.{arith}
use lib.Dec.{ltb}
use lib.ListN.{length, get_or}
use borrow.Author.Tests.{eq-eqb, ltb-true, lt-ltb}
use Rattle.truth.specs.Bits.{nowhere}
use Rattle.formulas.specs.declared.Equation.{Equation}
use Rattle.words.specs.Unpacked.{equation_number}
use Rattle.systems.specs.Numbered.{Truths, Numbered, Proper, Past}
use Rattle.instances.specs.Sides.{among_first, names, is_greatest, numbered_system}
use Rattle.instances.proofs.SystemLaws.{of_named}
use Rattle.systems.specs.Solved.{filled, always, repeated, first_candidate, next_candidate, turn, solved, Unsolved}
use Rattle.systems.proofs.Nested.{solved_same}
use Rattle.nested.specs.Candidates.{names_below, constants, first_candidates}

-- ---- repeating
idle : (d k : ℕ) (f : Truths → Truths) (v : Truths) → f (repeated k f v) ≡ repeated k f v
    → repeated (d + k) f v ≡ repeated k f v
unfolding repeated
idle zero k f v e = rw (zero-add k)
idle (suc d) k f v e = rw (suc-add d k) (ap f (idle d k f v e) ∙ e)

stays : (n k : ℕ) (f : Truths → Truths) (v : Truths) → k ≤ n → f (repeated k f v) ≡ repeated k f v
    → repeated n f v ≡ repeated k f v
stays n k f v h e =
    let q : n - k + k ≡ n = omega arith in
    ap (λ (m : ℕ). repeated m f v) (sym q) ∙ idle (n - k) k f v e

-- ---- the loop of equation e, of `count` in all
-- the equations after e, solved
abbrev pub later : Numbered → (count e : ℕ) → Truths → Truths
later S count e = solved S (count - (e + 1)) (e + 1)

-- k turns were made from the set v, and the equations after e are still at their first candidates
pub record Turned (S : Numbered) (count e : ℕ) (v current : Truths) (k : ℕ) : Type 0 where
  pub within : k ≤ S.size
  pub made : current ≡ repeated k (turn S e (later S count e)) v
  pub unsolved : Unsolved S count (e + 1) current

-- no equation is left
pub solved_none : (S : Numbered) {count e : ℕ} {v : Truths} → e ≡ count → v ≡ solved S (count - e) e v
unfolding solved
solved_none S {count} {e} h =
    let q : count - e ≡ 0 = omega arith in
    rw q

solved_one : (S : Numbered) (count e : ℕ) (v : Truths) → e < count
    → solved S (count - e) e v ≡ later S count e (repeated S.size (turn S e (later S count e)) (first_candidate S e v))
unfolding solved
solved_one S count e v h =
    let q : count - e ≡ suc (count - (e + 1)) = omega arith in
    rw (q, add-one e)

pub no_turn : (S : Numbered) {count e : ℕ} {v : Truths} → Unsolved S count e v → Turned S count e v v 0
unfolding repeated
no_turn S u = record { within = omega arith; made = refl; unsolved = λ i l m. u i (omega arith) m }

module _ {S : Numbered} {count e k : ℕ} {v current : Truths} (s : Turned S count e v current k) where
  -- one more turn: `inner` has the later equations solved
  module _ {inner next : Truths} (i : inner ≡ later S count e current) (n : next ≡ next_candidate S e inner current) where
    turn_is : next ≡ turn S e (later S count e) current
    unfolding turn
    turn_is = n ∙ ap (λ (x : Truths). next_candidate S e x current) i

    turn_leaves : Proper S → Unsolved S count (e + 1) next
    unfolding first_candidate next_candidate filled
    turn_leaves d x l m = fun_ext λ j. rw n (go j (S.of x j) refl (S.of e j) refl)
      where
        constant : Truths
        constant = always (S.greatest x)

        go : (j : ℕ) (a : Bool) → S.of x j ≡ a → (b : Bool) → S.of e j ≡ b
            → cond a (constant j) (cond b (S.right_sides inner j) (current j)) ≡ cond b (S.right_sides inner j) (current j)
        go j true p true q = absurd (omega (arith, d.apart x e j p q))
        go j true p false q =
            sym (ap (λ (c : Bool). cond c (constant j) (current j)) p) ∙ ap (λ (y : Truths). y j) (s.unsolved x l m)
        go j false p b q = refl

    pub one_turn : Proper S → k < S.size → Turned S count e v next (k + 1)
    unfolding repeated
    one_turn d h = record {
      within = omega arith;
      made = turn_is ∙ rw (add-one k) (ap (turn S e (later S count e)) s.made);
      unsolved = turn_leaves d;
    }

  -- where no turn more changes anything, the later equations solved in the set are the solution
  module _ (h : e < count) (u : Unsolved S count e v) {r : Truths} (i : r ≡ later S count e current) where
    settled : repeated S.size (turn S e (later S count e)) v ≡ current → r ≡ solved S (count - e) e v
    settled q = i ∙ ap (later S count e) (sym (ap (repeated S.size (turn S e (later S count e))) (u e (omega arith) h) ∙ q))
        ∙ sym (solved_one S count e v h)

    -- as many turns as there are instances
    pub all_turns : k ≡ S.size → r ≡ solved S (count - e) e v
    all_turns z = settled (ap (λ (n : ℕ). repeated n (turn S e (later S count e)) v) (sym z) ∙ sym s.made)

    -- a turn that changes nothing
    pub idle_turn : {next : Truths} → next ≡ next_candidate S e r current → next ≡ current → r ≡ solved S (count - e) e v
    idle_turn n same =
        let f = turn S e (later S count e) in
        settled (stays S.size k f v s.within (ap f (sym s.made) ∙ sym (turn_is i n) ∙ same ∙ s.made) ∙ sym s.made)

-- ---- the system of a table of words
module _ (bodies : List ℕ) (equations : List Equation) (table : List ℕ) where
  abbrev S : Numbered
  S = numbered_system bodies equations table

  module _ (count : ℕ) where
    abbrev first : Truths
    first = first_candidates equations count table

    pub first_unsolved : Unsolved S count 0 first
    unfolding first_candidate filled always numbered_system among_first names_below constants
    first_unsolved i l m = fun_ext λ j. go j (S.of i j) refl
      where
        go : (j : ℕ) (b : Bool) → S.of i j ≡ b → cond b (is_greatest equations i) (first j) ≡ first j
        go j true p =
            let n = of_named bodies equations table i j p in
            rw (n.0, ← n.1, lt-ltb i count m) refl
        go j false p = refl

    -- what is no instance of the equations is in neither set
    first_outside : (j : ℕ) → Past S (0 + count) 0 j → first j ≡ nowhere j
    unfolding filled numbered_system among_first names names_below constants
    first_outside j out = go (ltb j (length table)) refl (ltb e count) refl
      where
        e : ℕ
        e = equation_number (get_or table j 0)

        go : (a : Bool) → ltb j (length table) ≡ a → (b : Bool) → ltb e count ≡ b
            → cond (a && b) (is_greatest equations e) false ≡ false
        go false p b q = refl
        go true p false q = refl
        go true p true q =
            absurd (true≢false (sym (rw (p, eq-eqb e e refl) refl) ∙ out e (omega arith) (omega (arith, ltb-true e count q))))

    -- solving from the first candidates is solving from the empty set
    pub solved_all : {v r : Truths} → v ≡ first → r ≡ solved S (count - 0) 0 v → r ≡ solved S count 0 nowhere
    solved_all e q = q ∙ rw (e, sub-zero count) (solved_same S count 0 first nowhere first_outside)
