-- The numbers of some words in a table: each word's is among them, and each of them is a word's; a longer table keeps them.
-- By induction over the words; where a word stands first does not change when others come after it.
use Prim.Native.Nat.{ℕ, suc, ◌<◌}
use native.Mathlib.Omega.{arith}
use mathlib.Core.Path.{◌≡◌, refl, sym, ap, ◌∙◌, fun_ext}
use mathlib.Core.Bool.{Bool, true, false, cond, ◌||◌, true≢false, or-true, or-false, or_assoc}
use mathlib.Core.List.{List, [], ◌∷◌, ◌++◌, map}
use mathlib.Core.Logic.{⊎_elim}
use lib.Dec.{eqb}
use lib.ListN.{length, length-append}
use borrow.Author.Tests.{eqb-true, eq-eqb}
use Rattle.meaning.specs.Logic.{Is, cases}
use Rattle.meaning.specs.Solution.{mem}
use Rattle.meaning.specs.Reach.{Instance}
use Rattle.meaning.proofs.Members.{mem_head, mem_tail, mem_cases, mem_nothing}
use Rattle.meaning.specs.Words.{word}
use Rattle.evaluator.specs.Values.{index_of}
use Rattle.instances.specs.Graph.{numbers}

-- ---- in one table
pub numbers_append : (table ws us : List ℕ) (k : ℕ) → numbers table (ws ++ us) k ≡ (numbers table ws k || numbers table us k)
unfolding numbers
numbers_append table [] us k = refl
numbers_append table (w ∷ ws) us k =
    ap (λ (b : Bool). eqb k (index_of table w) || b) (numbers_append table ws us k)
    ∙ sym (or_assoc (eqb k (index_of table w)) _ _)

-- one word more
pub numbers_more : (table ws : List ℕ) (w k : ℕ)
    → numbers table (ws ++ (w ∷ [])) k ≡ (numbers table ws k || eqb k (index_of table w))
unfolding numbers
numbers_more table ws w k = numbers_append table ws (w ∷ []) k ∙ ap (λ (b : Bool). numbers table ws k || b) (or-false _)

-- k is the number of an instance of a list
pub record NumberOf (table : List ℕ) (l : List Instance) (k : ℕ) : Type 0 where
  pub one : Instance
  pub among : Is (mem one l)
  pub number : k ≡ index_of table (word one)

pub numbers_has : (table : List ℕ) (l : List Instance) (i : Instance) → Is (mem i l)
    → numbers table (map word l) (index_of table (word i)) ≡ true
unfolding numbers
numbers_has table [] i h = absurd (mem_nothing i h)
numbers_has table (j ∷ l) i h = ⊎_elim
    (λ e. rw (eq-eqb (index_of table (word i)) (index_of table (word j)) (ap (λ (x : Instance). index_of table (word x)) e)))
    (λ m. rw (numbers_has table l i m, or-true)) (mem_cases i j l h)

in_tail : {table : List ℕ} {l : List Instance} {k : ℕ} (j : Instance) → NumberOf table l k → NumberOf table (j ∷ l) k
in_tail {l} j n = record { one = n.one; among = mem_tail n.one j l n.among; number = n.number }

pub numbers_of : (table : List ℕ) (l : List Instance) (k : ℕ) → numbers table (map word l) k ≡ true → NumberOf table l k
unfolding numbers
numbers_of table [] k h = absurd (true≢false (sym h))
numbers_of table (j ∷ l) k h = cases (eqb k (index_of table (word j)))
    (λ e. record { one = j; among = mem_head j l; number = eqb-true _ _ e })
    (λ e. in_tail j (numbers_of table l k (rw e at h)))

-- ---- in a longer table
-- all of some words are in a table
abbrev pub Inside : List ℕ → List ℕ → Type 0
Inside table [] = Unit {0}
Inside table (w ∷ ws) = (index_of table w < length table) × Inside table ws

pub inside_of : (table : List ℕ) (l : List Instance) → ((i : Instance) → Is (mem i l) → index_of table (word i) < length table)
    → Inside table (map word l)
inside_of table [] h = tt
inside_of table (j ∷ l) h = (h j (mem_head j l), inside_of table l (λ i m. h i (mem_tail i j l m)))

pub inside_each : (table : List ℕ) (l : List Instance) → Inside table (map word l)
    → (i : Instance) → Is (mem i l) → index_of table (word i) < length table
inside_each table [] h i m = absurd (mem_nothing i m)
inside_each table (j ∷ l) h i m = ⊎_elim (λ e. rw e h.0) (inside_each table l h.1 i) (mem_cases i j l m)

pub inside_append : (table ws us : List ℕ) → Inside table ws → Inside table us → Inside table (ws ++ us)
inside_append table [] us h i = i
inside_append table (w ∷ ws) us h i = (h.0, inside_append table ws us h.1 i)

pub index_longer : (table more : List ℕ) (w : ℕ) → index_of table w < length table
    → index_of (table ++ more) w ≡ index_of table w
unfolding index_of
index_longer [] more w h = absurd (omega arith)
index_longer (x ∷ xs) more w h = go (eqb x w) h (index_longer xs more w)
  where
    go : (b : Bool) → cond b 0 (suc (index_of xs w)) < suc (length xs)
        → (index_of xs w < length xs → index_of (xs ++ more) w ≡ index_of xs w)
        → cond b 0 (suc (index_of (xs ++ more) w)) ≡ cond b 0 (suc (index_of xs w))
    go true l f = refl
    go false l f = ap suc (f (omega arith))

pub inside_longer : (table more ws : List ℕ) → Inside table ws → Inside (table ++ more) ws
inside_longer table more [] h = tt
inside_longer table more (w ∷ ws) h =
    (omega (arith, length-append table more, index_longer table more w h.0, h.0), inside_longer table more ws h.1)

pub numbers_longer : (table more ws : List ℕ) → Inside table ws → numbers (table ++ more) ws ≡ numbers table ws
unfolding numbers
numbers_longer table more [] h = refl
numbers_longer table more (w ∷ ws) h = fun_ext λ k.
    rw (index_longer table more w h.0, numbers_longer table more ws h.1) refl
