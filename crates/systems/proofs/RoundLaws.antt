-- LAWS of the solver by rounds: `Kept` holds at the start and after each round, and with nothing to be looked
-- at the set is the solution. In a round all changes go one way, and so do right sides and solutions.
use Prim.Native.Nat.{ℕ, zero, suc, ◌+◌, ◌-◌, ◌≤◌, ◌<◌}
use Rattle.std.proofs.Math.Nat.{sub-zero}
use native.Mathlib.Omega.{arith}
use Rattle.std.proofs.Math.Decide.{ℕ_discrete, dec_lt}
use Rattle.std.specs.Prelude.{◌≡◌, refl, Bool, true, false, not, ◌⊎◌}
use Rattle.std.proofs.Common.{sym, ◌∙◌, ap, true≢false, inl, inr, ⊎_elim}
use Rattle.meaning.specs.Logic.{cases}
use Rattle.meaning.specs.Order.{Below, below_trans, below_antisym, below_of_eq, below_top}
use Rattle.systems.specs.Numbered.{Truths, Numbered, Ordered, Proper, Past}
use Rattle.systems.specs.Solved.{solved}
use Rattle.systems.proofs.Nested.{below_bottom, past_more, none_other, rising_to}
use Rattle.systems.proofs.Nested.{solved_ordered, solved_same, solved_past}
use Rattle.systems.proofs.Nested.{solved_satisfies, solved_later, solved_least}
use Rattle.systems.specs.Rounds.{from, Quiet, Hangs, Kept, Midway, Restored}
use Rattle.systems.specs.Rounds.{Untouched, Marked, Spread, Begun}

same_or_not : (a b : Bool) → (a ≡ b) ⊎ (a ≡ not b)
same_or_not true true = inl refl
same_or_not true false = inr refl
same_or_not false true = inr refl
same_or_not false false = inl refl

not-not : (b : Bool) → not (not b) ≡ b
not-not true = refl
not-not false = refl

clash : {A : Type 0} {b : Bool} → b ≡ true → b ≡ false → A
clash t f = absurd (true≢false (sym t ∙ f))

at : {X X' : Truths} (k : ℕ) → X ≡ X' → X k ≡ X' k
at k q = ap (λ (u : Truths). u k) q

-- ---- the start
pub begun : {S : Numbered} {count : ℕ} {v X D : Truths} → Begun S count v X D → Kept S count v X D
begun {S} b = record {
  near = λ e j l o. rw (b.constants e j l o) (below_bottom (S.greatest e));
  clean = λ e j l o d. clash (b.all e j l o) d;
  rest = b.rest;
}

-- ---- every number is an instance of one of the equations or of none
module _ (S : Numbered) where
  abbrev Instance_of : (count k : ℕ) → Type 0
  Instance_of count k = (m : ℕ) × (m < count) × (S.of m k ≡ true)

  equation_or_none : (count k : ℕ) → Instance_of count k ⊎ Past S count 0 k
  equation_or_none zero k = inr (λ m a l. absurd (omega arith))
  equation_or_none (suc n) k =
      cases (S.of n k) (λ t. inl (n, omega arith, t)) (λ f. go f (equation_or_none n k))
    where
      none : S.of n k ≡ false → Past S n 0 k → Past S (suc n) 0 k
      none f o m a l = elim (ℕ_discrete m n) [
        | yes q ↦ rw q f
        | no d ↦ o m a (omega arith)
      ]

      go : S.of n k ≡ false → Instance_of n k ⊎ Past S n 0 k → Instance_of (suc n) k ⊎ Past S (suc n) 0 k
      go f (inl p) = inl (p.0, omega (arith, p.1), p.2)
      go f (inr o) = inr (none f o)

-- ---- the laws of the nested solution, for the equations from e on, of `count`
module _ (S : Numbered) (count e : ℕ) where
  from_same : (X X' : Truths) → ((j : ℕ) → Past S count e j → X j ≡ X' j)
      → from S count e X ≡ from S count e X'
  from_same X X' h = solved_same S (count - e) e X X' (λ j o. h j (λ m a b. o m a (omega arith)))

  from_past : (X : Truths) (j : ℕ) → Past S count e j → from S count e X j ≡ X j
  from_past X j o = solved_past S (count - e) e X j (λ m a b. o m a (omega arith))

-- sets that agree away from the equations from e on have the same solutions from each m up to e on
agree_from : (S : Numbered) (count e : ℕ) (X X' : Truths)
    → ((m k : ℕ) → m < e → S.of m k ≡ true → X' k ≡ X k) → ((k : ℕ) → Past S count 0 k → X' k ≡ X k)
    → (m : ℕ) → m ≤ e → from S count m X ≡ from S count m X'
agree_from S count e X X' f g m a = from_same S count m X X' (λ k o. go k o (equation_or_none S count k))
  where
    go : (k : ℕ) → Past S count m k → Instance_of S count k ⊎ Past S count 0 k → X k ≡ X' k
    go k o (inl p) = elim (dec_lt p.0 m) [
      | yes b ↦ sym (f p.0 k (omega arith) p.2)
      | no n ↦ clash p.2 (o p.0 (omega arith) p.1)
    ]
    go k o (inr r) = sym (g k r)

module _ {S : Numbered} (proper : Proper S) (count e : ℕ) where
  from_ordered : (s : Bool) (X X' : Truths) → ((j : ℕ) → Past S count e j → Below s (X j) (X' j))
      → Ordered s (from S count e X) (from S count e X')
  from_ordered s X X' h =
      solved_ordered proper s (count - e) e X X' (λ j o. h j (λ m a b. o m a (omega arith)))

  module _ (X : Truths) (l : e < count) where
    one_more : suc (count - suc e) ≡ count - e
    one_more = omega arith

    from_satisfies : (j : ℕ) → S.of e j ≡ true → S.right_sides (from S count e X) j ≡ from S count e X j
    from_satisfies j o = rw (← one_more) (solved_satisfies proper (count - suc e) e X j o)

    from_later : from S count (suc e) (from S count e X) ≡ from S count e X
    from_later = rw (← one_more) (solved_later proper (count - suc e) e X)

    from_least : from S count (suc e) X ≡ X → ((j : ℕ) → S.of e j ≡ true → S.right_sides X j ≡ X j)
        → Ordered (S.greatest e) (from S count e X) X
    from_least r c =
        rw (← one_more) (solved_least proper (count - suc e) e X r (λ j o. below_of_eq _ (c j o)))

-- ---- between rounds
module _ {S : Numbered} (proper : Proper S) {count : ℕ} {v X D : Truths} (kept : Kept S count v X D) where
  exact_one : (e : ℕ) → e < count → from S count (suc e) X ≡ X
      → ((j : ℕ) → S.of e j ≡ true → D j ≡ false) → from S count e X ≡ X
  exact_one e l solves q =
      let least = from_least proper count e X l solves (λ k t. kept.clean e k l t (q k t)) in
      sym (from_later proper count e X l)
      ∙ from_same S count (suc e) (from S count e X) X (λ j o. cases (S.of e j)
      (λ t. below_antisym (least j) (kept.near e j l t))
      (λ f. from_past S count e X j (past_more S count e j o f)))
      ∙ solves

  exact_from : (left e : ℕ) → e + left ≡ count → Quiet S count e D → from S count e X ≡ X
  unfolding solved
  exact_from zero e h q = let none : count - e ≡ 0 = omega arith in rw none
  exact_from (suc left) e h q =
      exact_one e (omega arith) (exact_from left (suc e) (omega arith) (λ m k a b. q m k (omega arith) b))
      (λ j o. q e j (omega arith) (omega arith) o)

  -- where no instance from equation e on is to be looked at, the equations from e on are solved
  pub exact : (e : ℕ) → e ≤ count → Quiet S count e D → from S count e X ≡ X
  exact e l q = exact_from (count - e) e (omega arith) q

  -- with nothing to be looked at, X is the solution
  pub finished : Quiet S count 0 D → X ≡ solved S count 0 v
  finished q = rw (sub-zero count) at (sym (exact 0 (omega arith) q) ∙ from_same S count 0 X v kept.rest)

  -- a round of equation e begins where nothing later is to be looked at
  pub midway : (e : ℕ) → e < count → Quiet S count (suc e) D → Midway S count e v X D
  midway e l quiet = record {
    within = l;
    early = λ m j a o. kept.near m j (omega arith) o;
    reach = λ k.
        below_trans (below_of_eq _ (sym (at k (exact (suc e) (omega arith) quiet))))
        (below_trans (from_ordered proper count (suc e) (S.greatest e) X (from S count e X) outside k)
        (below_of_eq _ (at k (from_later proper count e X l))));
    alike = λ m j a b o q. kept.near m j b o;
    clean = kept.clean;
    rest = kept.rest;
  }
    where
      outside : (i : ℕ) → Past S count (suc e) i → Below (S.greatest e) (X i) (from S count e X i)
      outside i o = cases (S.of e i) (λ t. kept.near e i l t)
          (λ f. below_of_eq _ (sym (from_past S count e X i (past_more S count e i o f))))

  -- a round in which nothing changed ends as it is
  pub midway_unchanged : {e : ℕ} {D' : Truths} → Midway S count e v X D' → Kept S count v X D'
  midway_unchanged mid = record { near = kept.near; clean = mid.clean; rest = kept.rest }

-- ---- in a round of equation e
module _ {S : Numbered} {count e : ℕ} {v X D : Truths} (mid : Midway S count e v X D) where
  -- an instance that has its right side need not be looked at again
  pub midway_stays : {D' : Truths} (j : ℕ) → S.right_sides X j ≡ X j
      → ((k : ℕ) → D' k ≡ false → (k ≡ j) ⊎ (D k ≡ false)) → Midway S count e v X D'
  midway_stays j same f = record {
    within = mid.within;
    early = mid.early;
    reach = mid.reach;
    alike = mid.alike;
    clean = λ m k a o d. ⊎_elim (λ q. rw q same) (mid.clean m k a o) (f k d);
    rest = mid.rest;
  }

module _ {S : Numbered} (proper : Proper S) {count e : ℕ} {v X D : Truths} (mid : Midway S count e v X D)
    {reads : ℕ → ℕ → Bool} (hangs : Hangs S reads) {X' : Truths} where
  -- an instance that had its value for right side has it still, where all changes went away from e's constant
  still_clean : Ordered (S.greatest e) X X' → (m k : ℕ) → S.of m k ≡ true → S.right_sides X k ≡ X' k
      → Untouched reads (not (S.greatest e)) X X' k → S.right_sides X' k ≡ X' k
  still_clean rise m k o was (inl q) = below_antisym
      (below_trans (below_top (S.greatest e)) (below_of_eq _ (sym q)))
      (below_trans (below_of_eq _ (sym was)) (rising_to proper (S.greatest e) X X' rise k))
  still_clean rise m k o was (inr f) = hangs X' X m k o f ∙ was

  -- instance j goes to its right side, away from the constant of its sign
  module _ (j : ℕ) (own : S.of e j ≡ true) (away : S.right_sides X j ≡ not (S.greatest e))
      (here : X' j ≡ not (S.greatest e)) (there : (k : ℕ) → (k ≡ j → ⊥) → X' k ≡ X k) where
    rise_one : Ordered (S.greatest e) X X'
    rise_one k = elim (ℕ_discrete k j) [
      | yes q ↦ rw (q, here) (below_top (S.greatest e))
      | no d ↦ below_of_eq _ (sym (there k d))
    ]

    other : (m k : ℕ) → (m ≡ e → ⊥) → S.of m k ≡ true → X' k ≡ X k
    other m k n o = there k (λ q. n (proper.apart m e k o (rw q own)))

    beyond : (k : ℕ) → Past S count 0 k → X' k ≡ X k
    beyond k o = there k (λ q. clash own (rw q at (o e (omega arith) mid.within)))

    same_one : (m : ℕ) → m ≤ e → from S count m X ≡ from S count m X'
    same_one = agree_from S count e X X' (λ m k a o. other m k (omega arith) o) beyond

    was_right : (m k : ℕ) → m < count → S.of m k ≡ true → (k ≡ j) ⊎ (D k ≡ false) → S.right_sides X k ≡ X' k
    was_right m k a o c = elim (ℕ_discrete k j) [
      | yes q ↦ rw q (away ∙ sym here)
      | no d ↦ ⊎_elim (λ q. absurd (d q)) (λ f. mid.clean m k a o f ∙ sym (there k d)) c
    ]

    pub midway_moves : {D' : Truths} → Marked reads (not (S.greatest e)) j X X' D D'
        → Midway S count e v X' D'
    midway_moves marked = record {
      within = mid.within;
      early = λ m k a o. rw (other m k (omega arith) o, ← same_one m (omega arith)) (mid.early m k a o);
      reach = λ k. rw (← same_one e (omega arith)) (elim (ℕ_discrete k j) [
        | yes q ↦ rw (q, here, ← away) (below_trans
            (rising_to proper (S.greatest e) X (from S count e X) mid.reach j)
            (below_of_eq _ (from_satisfies proper count e X mid.within j own)))
        | no d ↦ rw (there k d) (mid.reach k)
      ]);
      alike = λ m k a b o q. below_trans (below_of_eq _ (other m k (omega arith) o))
          (below_trans (mid.alike m k a b o q)
          (from_ordered proper count m (S.greatest m) X X' (λ i _. rw q (rise_one i)) k));
      clean = λ m k a o d. still_clean rise_one m k o (was_right m k a o (marked k d).0) (marked k d).1;
      rest = λ k o. beyond k o ∙ mid.rest k o;
    }

  -- the round ends
  module _ (restored : Restored S count e (not (S.greatest e)) X X') where
    -- what holds of a later equation, by its sign
    by_sign : {A : Type 0} (m : ℕ) → (S.greatest m ≡ not (S.greatest e) → A)
        → (S.greatest m ≡ not (not (S.greatest e)) → A) → A
    by_sign m f g = ⊎_elim f g (same_or_not (S.greatest m) (not (S.greatest e)))

    rise_all : Ordered (S.greatest e) X X'
    rise_all k = go (equation_or_none S count k)
      where
        go : Instance_of S count k ⊎ Past S count 0 k → Below (S.greatest e) (X k) (X' k)
        go (inl p) = elim (dec_lt e p.0) [
          | yes a ↦ by_sign p.0
              (λ q. rw (restored.reset p.0 k a p.1 p.2 q) (below_top (S.greatest e)))
              (λ q. below_of_eq _ (sym (restored.stays p.0 k a p.1 p.2 q)))
          | no n ↦ below_of_eq _ (sym (restored.early p.0 k (omega arith) p.1 p.2))
        ]
        go (inr o) = below_of_eq _ (sym (restored.rest k o))

    same_all : (m : ℕ) → m ≤ e → from S count m X ≡ from S count m X'
    same_all = agree_from S count e X X'
        (λ m k a o. restored.early m k (omega arith) (omega (arith, mid.within)) o) restored.rest

    near_all : (m k : ℕ) → m < count → S.of m k ≡ true → Below (S.greatest m) (X' k) (from S count m X' k)
    near_all m k a o = elim (dec_lt e m) [
      | yes b ↦ by_sign m
          (λ q. rw (restored.reset m k b a o q, q) (below_bottom (not (S.greatest e))))
          (λ q. let s : S.greatest m ≡ S.greatest e = q ∙ not-not (S.greatest e) in
          below_trans (below_of_eq _ (restored.stays m k b a o q))
          (below_trans (mid.alike m k b a o s)
          (from_ordered proper count m (S.greatest m) X X' (λ i _. rw s (rise_all i)) k)))
      | no n ↦ rw (restored.early m k (omega arith) a o, ← same_all m (omega arith)) (elim (ℕ_discrete m e) [
        | yes q ↦ rw q (mid.reach k)
        | no d ↦ mid.early m k (omega arith) o
      ])
    ]

    pub midway_ends : {D' : Truths} → Spread reads (not (S.greatest e)) X X' D D' → Kept S count v X' D'
    midway_ends spread = record {
      near = near_all;
      clean = λ m k a o d.
          let p = spread k d in
          still_clean rise_all m k o (mid.clean m k a o p.0 ∙ sym p.1) p.2;
      rest = λ k o. restored.rest k o ∙ mid.rest k o;
    }

-- ---- the later equations go back to their constant one after the other
-- those below n have been gone through; at first no later one has
pub restored_none : (S : Numbered) (e : ℕ) (w : Bool) (X : Truths) → Restored S (suc e) e w X X
restored_none S e w X = record {
  early = λ m k a b o. refl;
  reset = λ m k a b o q. absurd (omega arith);
  stays = λ m k a b o q. refl;
  rest = λ k o. refl;
}

-- equation n goes back where its constant is w, and stays where it is the other one
pub restored_more : {S : Numbered} → Proper S → {n e : ℕ} {w : Bool} {X X' X'' : Truths}
    → Restored S n e w X X' → e < n → (S.greatest n ≡ w → (k : ℕ) → S.of n k ≡ true → X'' k ≡ w)
    → (S.greatest n ≡ not w → (k : ℕ) → S.of n k ≡ true → X'' k ≡ X' k)
    → ((k : ℕ) → S.of n k ≡ false → X'' k ≡ X' k) → Restored S (suc n) e w X X''
restored_more {S} proper {n} {e} {w} {X} {X'} {X''} before l back stay others = record {
  early = λ m k a b o. other m k (omega arith) o ∙ before.early m k a (omega arith) o;
  reset = λ m k a b o q. elim (ℕ_discrete m n) [
    | yes s ↦ back (rw s at q) k (rw s at o)
    | no d ↦ other m k d o ∙ before.reset m k a (omega arith) o q
  ];
  stays = λ m k a b o q. elim (ℕ_discrete m n) [
    | yes s ↦ stay (rw s at q) k (rw s at o)
        ∙ before.rest k (λ i c h. none_other proper i n k (omega arith) (rw s at o))
    | no d ↦ other m k d o ∙ before.stays m k a (omega arith) o q
  ];
  rest = λ k o. others k (o n (omega arith) (omega arith)) ∙ before.rest k (λ m a b. o m a (omega arith));
}
  where
    other : (m k : ℕ) → (m ≡ n → ⊥) → S.of m k ≡ true → X'' k ≡ X' k
    other m k d o = others k (none_other proper n m k (λ q. d (sym q)) o)

-- ---- changes one after the other
-- nothing changed
pub spread_none : (reads : ℕ → ℕ → Bool) (w : Bool) (X D : Truths) → Spread reads w X X D D
spread_none reads w X D k d = (d, refl, inr (λ i r. refl))

pub spread_then : {reads : ℕ → ℕ → Bool} {w : Bool} {X X' X'' D D' D'' : Truths} → Spread reads w X X' D D'
    → Spread reads w X' X'' D' D'' → Spread reads w X X'' D D''
spread_then {reads} {w} {X} {X'} {X''} f g k d =
    let q = g k d in
    let p = f k q.0 in
    (p.0, q.1 ∙ p.1, both q.1 p.2 q.2)
  where
    both : X'' k ≡ X' k → Untouched reads w X X' k → Untouched reads w X' X'' k → Untouched reads w X X'' k
    both h a (inl c) = inl c
    both h (inl b) (inr c) = inl (h ∙ b)
    both h (inr b) (inr c) = inr (λ i r. c i r ∙ b i r)
