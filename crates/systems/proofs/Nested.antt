-- LAWS of the nested solution: monotone, hanging on earlier equations alone, and the least (greatest) of the
-- sets that satisfy its equations. Its candidates are the steps towards the fixed points of `meaning`.
use Prim.Native.Nat.{ℕ, zero, suc, ◌+◌, ◌<◌}
use Rattle.std.proofs.Common.{arith, ◌∙◌}
use Rattle.std.proofs.Math.Decide.{ℕ_discrete}
use Rattle.std.specs.Prelude.{◌≡◌, Bool, true, false, List, [], ◌∷◌, length, get_or}
use Rattle.std.proofs.Math.Path.{refl, sym, ap, fun_ext}
use Rattle.meaning.specs.Logic.{Is, is, never, cases, and-true}
use Rattle.meaning.specs.Order.{Below, up, down, upward, downward, below_refl, below_trans, below_of_eq}
use Rattle.meaning.specs.Solution.{Args, Set, mem}
use Rattle.meaning.proofs.Members.{mem_head, mem_tail}
use Rattle.meaning.specs.FixedPoints.{Mono}
use Rattle.meaning.proofs.FixedPoints.{part_in}
use Rattle.meaning.specs.Iteration.{iterated}
use Rattle.meaning.proofs.Iteration.{iterated_reaches}
use Rattle.systems.specs.Numbered.{Truths, Numbered, Ordered, Proper, Past}
use Rattle.systems.specs.Solved.{filled, always, repeated}
use Rattle.systems.specs.Solved.{first_candidate, next_candidate, turn, solved}

-- the constant of a sign is below all
pub below_bottom : (s : Bool) {b : Bool} → Below s s b
below_bottom false = up never
below_bottom true = down (λ _. is)

-- ---- sets that are filled at the numbers of p
module _ (p new old : Truths) (j : ℕ) where
  filled_in : p j ≡ true → filled p new old j ≡ new j
  unfolding filled
  filled_in t = rw t

  filled_out : p j ≡ false → filled p new old j ≡ old j
  unfolding filled
  filled_out f = rw f

  filled_below : {s b : Bool} → (p j ≡ true → Below s (new j) b) → (p j ≡ false → Below s (old j) b)
      → Below s (filled p new old j) b
  filled_below g h = cases (p j) (λ t. rw (filled_in t) (g t)) (λ f. rw (filled_out f) (h f))

filled_related : (R : Bool → Bool → Type 0) (p new new' old old' : Truths) (j : ℕ)
    → (p j ≡ true → R (new j) (new' j)) → (p j ≡ false → R (old j) (old' j))
    → R (filled p new old j) (filled p new' old' j)
filled_related R p new new' old old' j g h = cases (p j)
    (λ t. rw (filled_in p new old j t, filled_in p new' old' j t) (g t))
    (λ f. rw (filled_out p new old j f, filled_out p new' old' j f) (h f))

-- what is past equation e + 1 and no instance of e is past e
pub past_more : (S : Numbered) (count e j : ℕ) → Past S count (suc e) j → S.of e j ≡ false → Past S count e j
past_more S count e j o f m a b = elim (ℕ_discrete m e) [
  | yes q ↦ rw q f
  | no d ↦ o m (omega arith) b
]

-- ---- what is related away from the equations that are solved is related when they are
-- by any relation that each truth value has to itself and that right sides keep: an order, equality
module _ (S : Numbered) (R : Bool → Bool → Type 0) (itself : (b : Bool) → R b b) where
  abbrev Related_past : (left e : ℕ) → Truths → Truths → Type 0
  Related_past left e v v' = (j : ℕ) → Past S (e + left) e j → R (v j) (v' j)

  abbrev Keeps : (left e : ℕ) → (Truths → Truths) → Type 0
  Keeps left e f = (v v' : Truths) → Related_past left e v v' → (j : ℕ) → R (f v j) (f v' j)

  module _ (keeps : (v v' : Truths) → ((j : ℕ) → R (v j) (v' j))
      → (j : ℕ) → R (S.right_sides v j) (S.right_sides v' j)) where
    turns_related : (left e : ℕ) (later : Truths → Truths) → Keeps left (suc e) later
        → (v v' : Truths) → Related_past (suc left) e v v' → (k : ℕ) → Related_past left (suc e)
        (repeated k (turn S e later) (first_candidate S e v))
        (repeated k (turn S e later) (first_candidate S e v'))
    unfolding repeated turn next_candidate first_candidate always
    turns_related left e later f v v' h zero j o =
        filled_related R _ _ _ v v' j (λ _. itself (S.greatest e))
        (λ f. h j (past_more S (e + suc left) e j (λ m a b. o m a (omega arith)) f))
    turns_related left e later f v v' h (suc k) j o =
        let before = turns_related left e later f v v' h k in
        filled_related R _ _ _ _ _ j (λ _. keeps _ _ (f _ _ before) j) (λ _. before j o)

    solved_related : (left e : ℕ) → Keeps left e (solved S left e)
    unfolding solved
    solved_related zero e v v' h = λ j. h j (λ m a b. absurd (omega arith))
    solved_related (suc left) e v v' h =
        let later = solved_related left (suc e) in
        later _ _ (turns_related left e (solved S left (suc e)) later v v' h S.size)

-- ---- laws of every system
module _ (S : Numbered) where
  -- what is solved does not hang on the first values of what is solved
  pub solved_same : (left e : ℕ) (v v' : Truths) → ((j : ℕ) → Past S (e + left) e j → v j ≡ v' j)
      → solved S left e v ≡ solved S left e v'
  solved_same left e v v' h = fun_ext (solved_related S (λ a b. a ≡ b) (λ b. refl)
      (λ u u' f j. ap (λ (x : Truths). S.right_sides x j) (fun_ext f)) left e v v' h)

  -- away from the equations that are solved nothing changes
  turns_past : (e n : ℕ) (later : Truths → Truths) (v : Truths) (j : ℕ) → S.of e j ≡ false
      → repeated n (turn S e later) (first_candidate S e v) j ≡ v j
  unfolding repeated turn next_candidate first_candidate
  turns_past e zero later v j f = filled_out _ _ v j f
  turns_past e (suc n) later v j f = filled_out _ _ _ j f ∙ turns_past e n later v j f

  pub solved_past : (left e : ℕ) (v : Truths) (j : ℕ) → Past S (e + left) e j → solved S left e v j ≡ v j
  unfolding solved
  solved_past zero e v j o = refl
  solved_past (suc left) e v j o =
      solved_past left (suc e) _ j (λ m a b. o m (omega arith) (omega arith))
      ∙ turns_past e S.size _ v j (o e (omega arith) (omega arith))

-- ---- numbers as lists of arguments: those below n
numbers : ℕ → List Args
numbers zero = []
numbers (suc n) = (n ∷ []) ∷ numbers n

numbers_length : (n : ℕ) → length (numbers n) ≡ n
unfolding numbers
numbers_length zero = refl
numbers_length (suc n) = ap suc (numbers_length n)

numbers_have : (n j : ℕ) → j < n → Is (mem (j ∷ []) (numbers n))
unfolding numbers
numbers_have zero j l = absurd (omega arith)
numbers_have (suc n) j l = elim (ℕ_discrete j n) [
  | yes q ↦ rw q (mem_head (n ∷ []) (numbers n))
  | no d ↦ mem_tail (j ∷ []) (n ∷ []) (numbers n) (numbers_have n j (omega arith))
]

-- ---- laws of proper systems
module _ {S : Numbered} (proper : Proper S) where
  pub rising_to : (s : Bool) (X X' : Truths) → Ordered s X X'
      → Ordered s (S.right_sides X) (S.right_sides X')
  rising_to false X X' h = proper.rising X X' h
  rising_to true X X' h = λ j. downward (proper.rising X' X (λ k. upward (h k)) j)

  -- an instance of one equation is none of another
  pub none_other : (m e j : ℕ) → (m ≡ e → ⊥) → S.of e j ≡ true → S.of m j ≡ false
  none_other m e j d t = cases (S.of m j) (λ q. absurd (d (proper.apart m e j q t))) (λ f. f)

  -- the solution is monotone in what the set says away from the equations solved
  pub solved_ordered : (s : Bool) (left e : ℕ) (v v' : Truths)
      → ((j : ℕ) → Past S (e + left) e j → Below s (v j) (v' j))
      → Ordered s (solved S left e v) (solved S left e v')
  solved_ordered s = solved_related S (Below s) (λ b. below_refl s) (rising_to s)

  -- ---- equation e, and `left` equations after it
  module _ (left e : ℕ) (v : Truths) where
    abbrev later : Truths → Truths
    later = solved S left (suc e)

    abbrev candidate : ℕ → Truths
    candidate k = repeated k (turn S e later) (first_candidate S e v)

    -- the candidates are the steps towards the fixed point of `image`, in meaning's words
    abbrev candidate_of : Set → Truths
    candidate_of X = filled (S.of e) (λ j. X (j ∷ [])) v

    abbrev image : Set → Set
    image X x = S.right_sides (later (candidate_of X)) (get_or x 0 0)

    image_rising : Mono image
    image_rising X X' h x = proper.rising _ _ (solved_ordered false left (suc e) _ _ (λ j _.
        filled_related (Below false) _ _ _ v v j (λ _. h (j ∷ [])) (λ _. below_refl false)))
        (get_or x 0 0)

    step : ℕ → Set
    step = iterated (S.greatest e) (numbers S.size) image

    candidate_is : (k : ℕ) → candidate k ≡ candidate_of (step k)
    unfolding repeated turn next_candidate first_candidate always step iterated
    candidate_is zero = fun_ext λ j. filled_related (λ a b. a ≡ b) _ _ _ v v j
        (λ t. sym (and-true _ _ (numbers_have S.size j (proper.small e j t)))) (λ _. refl)
    candidate_is (suc k) = fun_ext λ j. filled_related (λ a b. a ≡ b) _ _ _ _ v j
        (λ t. ap (λ (u : Truths). S.right_sides (later u) j) (candidate_is k)
        ∙ sym (part_in _ _ (j ∷ []) (numbers_have S.size j (proper.small e j t))))
        (turns_past S e k later v j)

    steps_end : step (suc S.size) ≡ step S.size
    unfolding step
    steps_end =
        let n = numbers_length S.size in
        let reaches = iterated_reaches (S.greatest e) (numbers S.size) image image_rising in
        fun_ext λ x. reaches (suc S.size) (omega arith) x ∙ sym (reaches S.size (omega arith) x)

    last : Truths
    last = candidate S.size

    last_rests : turn S e later last ≡ last
    unfolding last repeated
    last_rests = candidate_is (suc S.size) ∙ ap candidate_of steps_end ∙ sym (candidate_is S.size)

    result_is : solved S (suc left) e v ≡ later last
    unfolding last solved
    result_is = refl

    -- the equation is satisfied
    pub solved_satisfies : (j : ℕ) → S.of e j ≡ true
        → S.right_sides (solved S (suc left) e v) j ≡ solved S (suc left) e v j
    unfolding turn next_candidate
    solved_satisfies j t =
        ap (λ (u : Truths). S.right_sides u j) result_is
        ∙ sym (filled_in _ _ last j t)
        ∙ ap (λ (u : Truths). u j) last_rests
        ∙ sym (solved_past S left (suc e) last j (λ m a b. none_other m e j (omega arith) t))
        ∙ sym (ap (λ (u : Truths). u j) result_is)

    -- the later equations are solved in the result
    pub solved_later : solved S left (suc e) (solved S (suc left) e v) ≡ solved S (suc left) e v
    solved_later = solved_same S left (suc e) _ last
        (λ j o. ap (λ (u : Truths). u j) result_is ∙ solved_past S left (suc e) last j o) ∙ sym result_is

    -- a set that has the later equations solved and is closed at this one is above the solution
    module _ (solves : solved S left (suc e) v ≡ v)
        (closed : (j : ℕ) → S.of e j ≡ true → Below (S.greatest e) (S.right_sides v j) (v j)) where
      later_below : (u : Truths) → Ordered (S.greatest e) u v → Ordered (S.greatest e) (later u) v
      later_below u h j = below_trans (solved_ordered (S.greatest e) left (suc e) u v (λ i _. h i) j)
          (below_of_eq _ (ap (λ (x : Truths). x j) solves))

      candidate_below : (k : ℕ) → Ordered (S.greatest e) (candidate k) v
      unfolding repeated turn next_candidate first_candidate always
      candidate_below zero j = filled_below _ _ v j (λ _. below_bottom _) (λ _. below_refl _)
      candidate_below (suc k) j =
          let before = candidate_below k in
          filled_below _ _ _ j
          (λ t. below_trans (rising_to (S.greatest e) _ _ (later_below _ before) j) (closed j t))
          (λ _. before j)

      pub solved_least : Ordered (S.greatest e) (solved S (suc left) e v) v
      unfolding last
      solved_least j = below_trans (below_of_eq _ (ap (λ (u : Truths). u j) result_is))
          (later_below last (candidate_below S.size) j)
