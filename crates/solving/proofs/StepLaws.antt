-- LAWS of the steps of a round: a plain right side, one instance that changes, what stays clean then, and a look at an instance.
-- Only the readers of a changed instance can lose their right side, and one that is at the changed value already has it still.
use Prim.Native.Nat.{ℕ, ◌<◌}
use native.Mathlib.Omega.{arith}
use mathlib.Core.Path.{◌≡◌, refl, sym, ap, ◌∙◌}
use mathlib.Core.Bool.{Bool, true, false, not, ◌||◌, true≢false, and-eq-true_iff}
use mathlib.Core.List.{List}
use mathlib.Core.Logic.{◌⊎◌, inl, inr, ⊎_elim}
use native.Mathlib.Decide.{ℕ_discrete}
use lib.Dec.{ltb}
use lib.ListN.{length}
use borrow.Author.Tests.{lt-ltb, ltb-true, eq-eqb, ne_eqb, not-false}
use Rattle.meaning.specs.Logic.{cases}
use Rattle.formulas.specs.declared.Equation.{Equation}
use Rattle.std.specs.Prelude.{Some, None}
use Rattle.truth.specs.Bits.{bit_of, updated, put_in}
use Rattle.truth.specs.Rows.{row_of, unlike_in, joined, LastOf}
use Rattle.truth.proofs.Bits.{beq_eq, updated_is}
use Rattle.truth.proofs.RowLaws.{last_member, last_falls, none_unlike, unlike_left}
use Rattle.systems.specs.Numbered.{Truths, Numbered}
use Rattle.systems.specs.Rounds.{Untouched, Marked, Spread}
use Rattle.systems.proofs.RoundLaws.{spread_none, spread_then, midway_stays, midway_moves, midway_unchanged}
use Rattle.instances.specs.Sides.{among_first, names, numbered_system}
use Rattle.instances.specs.Graph.{reads_in, readers_row, members_row, plain_row, GraphOf}
use Rattle.instances.proofs.SystemLaws.{of_named, system_proper}
use Rattle.instances.proofs.GraphLaws.{system_hangs, plain_side}
use Rattle.solving.specs.Rounds.{equation_of, Midst, PutsBack, SetsBack, plain_of}
use Rattle.solving.specs.declared.steps.Progress.{Progress}

-- ---- one number changes
-- g is f with b at j
pub record Put (f g : Truths) (j : ℕ) (b : Bool) : Type 0 where
  pub here : g j ≡ b
  pub there : (k : ℕ) → (k ≡ j → ⊥) → g k ≡ f k

pub put_is : (f g : Truths) (j : ℕ) (b : Bool) → j < 512 → g ≡ put_in f j b → Put f g j b
unfolding updated
put_is f g j b l e = record {
  here = ap (λ (x : Truths). x j) e ∙ rw (lt-ltb j 512 l, eq-eqb j j refl) refl;
  there = λ k d. ap (λ (x : Truths). x k) e ∙ rw (lt-ltb j 512 l, ne_eqb k j d) refl;
}

-- what is not in it then is j or was not
pub put_out : {f g : Truths} {j : ℕ} {b : Bool} → Put f g j b → (k : ℕ) → g k ≡ false → (k ≡ j) ⊎ (f k ≡ false)
put_out {j = j} put k o = elim (ℕ_discrete k j) [
  | yes q ↦ inl q
  | no d ↦ inr (sym (put.there k d) ∙ o)
]

neither : (a b : Bool) → a || b ≡ false → (a ≡ false) × (b ≡ false)
neither true b h = absurd (true≢false h)
neither false b h = (refl, h)

-- what is in neither of two sets, where the second has what is not at w
pub joined_out : (D rest set X : Truths) (w : Bool) → D ≡ joined rest (unlike_in set X w)
    → (k : ℕ) → D k ≡ false → (rest k ≡ false) × (set k ≡ true → X k ≡ w)
unfolding joined unlike_in
joined_out D rest set X w e k o =
    let p = neither (rest k) _ (sym (ap (λ (x : Truths). x k) e) ∙ o) in
    (p.0, λ t. beq_eq (X k) w (not-false _ (rw t at p.1)))

-- a row has numbers below 512 alone
pub none_in_row : (graph : List ℕ) (i : ℕ) (f : Truths) (b : Bool) → LastOf (unlike_in (row_of graph i) f b) None
    → (k : ℕ) → row_of graph i k ≡ true → f k ≡ b
unfolding row_of
none_in_row graph i f b none k t =
    none_unlike (row_of graph i) f b none k (ltb-true k 512 ((and-eq-true_iff (ltb k 512) _).0 t).0) t

-- ---- in a table whose graph is lent
module _ {bodies : List ℕ} {equations : List Equation} {table graph : List ℕ} (g : GraphOf bodies equations table graph) where
  abbrev S : Numbered
  S = numbered_system bodies equations table

  -- the row of equation m has its instances
  pub members_are : (m k : ℕ) → m < 8 → row_of graph (members_row m) k ≡ S.of m k
  unfolding numbered_system
  members_are m k l = ap (λ (x : Truths). x k) (g.members m l)

  -- a plain right side is judged by its row of reads
  pub plain_judged : (all : Bool) (j : ℕ) → j < length table → row_of graph (plain_row all) j ≡ true → (v : Truths)
      → plain_of graph j v all ≡ S.right_sides v j
  plain_judged all j inside has v =
      rw (g.reads j inside) (sym (plain_side g all j inside (sym (g.plain all j inside) ∙ has) v))

  -- instance j changes to w: who does not read it, or is at w, is untouched
  pub untouched : {X X' : Truths} {j : ℕ} {w : Bool} → Put X X' j w → j < length table
      → (k : ℕ) → (row_of graph (readers_row j) k ≡ true → X' k ≡ w) → Untouched (reads_in bodies equations table) w X X' k
  untouched {j = j} put inside k f = cases (row_of graph (readers_row j) k) (λ t. inl (f t))
      (λ o. inr (λ i r. put.there i (λ q. absurd (true≢false (sym (g.readers j k inside ∙ rw q at r) ∙ o)))))

  -- ---- a look at instance j
  module _ {count j : ℕ} (inside : j < length table) {p : Progress}
      (mid : Midst bodies equations count table (equation_of table j) p) where
    own : S.of (equation_of table j) j ≡ true
    unfolding numbered_system among_first names
    own = rw (lt-ltb j (length table) inside) (eq-eqb (equation_of table j) (equation_of table j) refl)

    small : j < 512
    small = omega (arith, g.few)

    -- it has its right side
    pub look_stays : (d : List ℕ) (n : ℕ) → bit_of d ≡ put_in (bit_of p.dirty) j false
        → S.right_sides (bit_of p.truth) j ≡ bit_of p.truth j
        → Midst bodies equations count table (equation_of table j)
        (record { truth = p.truth; dirty = d; left = n; changed = p.changed })
    look_stays d n rest same =
        let stays = midway_stays mid.midway j same (put_out (put_is (bit_of p.dirty) (bit_of d) j false small rest)) in
        record {
          midway = stays;
          unchanged = λ u. midway_unchanged (system_proper bodies equations table) (mid.unchanged u) stays;
        }

    -- it goes to its right side, away from its constant
    pub look_moves : (t rest d : List ℕ) (n : ℕ) (w : Bool) → w ≡ S.right_sides (bit_of p.truth) j
        → w ≡ not (S.greatest (equation_of table j)) → bit_of t ≡ put_in (bit_of p.truth) j w
        → bit_of rest ≡ put_in (bit_of p.dirty) j false
        → bit_of d ≡ joined (bit_of rest) (unlike_in (row_of graph (readers_row j)) (bit_of t) w)
        → Midst bodies equations count table (equation_of table j) (record { truth = t; dirty = d; left = n; changed = true })
    look_moves t rest d n w side away put out more = record {
      midway = midway_moves (system_proper bodies equations table) mid.midway (system_hangs bodies equations table) j own
          (sym side ∙ away) (moved.here ∙ away) moved.there marked;
      unchanged = λ u. absurd (true≢false u);
    }
      where
        moved : Put (bit_of p.truth) (bit_of t) j w
        moved = put_is _ _ j w small put

        marked : Marked (reads_in bodies equations table) (not (S.greatest (equation_of table j))) j
            (bit_of p.truth) (bit_of t) (bit_of p.dirty) (bit_of d)
        marked k o =
            let q = joined_out (bit_of d) (bit_of rest) _ (bit_of t) w more k o in
            rw (← away) (put_out (put_is _ _ j false small out) k q.0, untouched moved inside k q.1)

-- ---- instances go back
-- instance j goes to w, and is dirty with its readers that are not there
pub puts_back : (graph : List ℕ) {j : ℕ} (w : Bool) (p : Progress) {t d : List ℕ} (rest : List ℕ) → j < 512
    → bit_of t ≡ put_in (bit_of p.truth) j w → bit_of rest ≡ put_in (bit_of p.dirty) j true
    → bit_of d ≡ joined (bit_of rest) (unlike_in (row_of graph (readers_row j)) (bit_of t) w)
    → PutsBack graph j w p (record { truth = t; dirty = d; left = p.left; changed = p.changed })
unfolding joined
puts_back graph {j} w p {t} {d} rest few put out more = record {
  here = moved.here;
  there = moved.there;
  dirty = ap (λ (x : Truths). x j) more ∙ rw dirty.here refl;
  more = λ k o.
      let q = joined_out (bit_of d) (bit_of rest) _ (bit_of t) w more k o in (
        ⊎_elim (λ e. absurd (true≢false (sym dirty.here ∙ rw e at q.0))) (λ f. f) (put_out dirty k q.0),
        q.1,
      );
  left = refl;
  changed = refl;
}
  where
    moved : Put (bit_of p.truth) (bit_of t) j w
    moved = put_is _ _ j w few put

    dirty : Put (bit_of p.dirty) (bit_of rest) j true
    dirty = put_is _ _ j true few out

-- the changes from p to s are marked in every table with this graph
abbrev Spreads : List ℕ → Bool → (p s : Progress) → Type 0
Spreads graph w p s =
    (bodies : List ℕ) (equations : List Equation) (table : List ℕ) → GraphOf bodies equations table graph
    → Spread (reads_in bodies equations table) w (bit_of p.truth) (bit_of s.truth) (bit_of p.dirty) (bit_of s.dirty)

-- the instances of equation m go back to w, one by one: s has come from p
pub record Going (graph : List ℕ) (m : ℕ) (w : Bool) (p s : Progress) : Type 0 where
  pub stays : (k : ℕ) → row_of graph (members_row m) k ≡ false → bit_of s.truth k ≡ bit_of p.truth k
  pub spread : Spreads graph w p s
  pub left : s.left ≡ p.left
  pub changed : s.changed ≡ p.changed

pub going_none : {graph : List ℕ} {m : ℕ} {w : Bool} {p : Progress} → Going graph m w p p
going_none {w = w} {p = p} = record {
  stays = λ k o. refl;
  spread = λ bodies equations table g. spread_none (reads_in bodies equations table) w (bit_of p.truth) (bit_of p.dirty);
  left = refl;
  changed = refl;
}

module _ {graph : List ℕ} {m : ℕ} {w : Bool} {p s : Progress} (going : Going graph m w p s) where
  abbrev members : Truths
  members = row_of graph (members_row m)

  -- no instance is left
  pub going_done : LastOf (unlike_in members (bit_of s.truth) w) None → SetsBack graph m w p s
  going_done none = record {
    back = none_in_row graph (members_row m) (bit_of s.truth) w none;
    stays = going.stays;
    spread = going.spread;
    left = going.left;
    changed = going.changed;
  }

  -- instance j, the last that is not at w, goes back
  module _ {u : Progress} {j : ℕ} (last : LastOf (unlike_in members (bit_of s.truth) w) (Some j))
      (back : PutsBack graph j w s u) where
    member : members j ≡ true
    member = last_member members (bit_of s.truth) w last

    one : m < 8 → Spreads graph w s u
    one l bodies equations table g k o =
        let q = back.more k o in
        let named = of_named bodies equations table m j (sym (members_are g m j l) ∙ member) in (
          q.0,
          back.there k (λ e. absurd (true≢false (sym back.dirty ∙ rw e at o))),
          untouched g (record { here = back.here; there = back.there }) (ltb-true j (length table) named.0) k q.1,
        )

    pub going_more : m < 8 → Going graph m w p u
    going_more l = record {
      stays = λ k o. back.there k (λ e. absurd (true≢false (sym member ∙ rw e at o))) ∙ going.stays k o;
      spread = λ bodies equations table g. spread_then (going.spread bodies equations table g) (one l bodies equations table g);
      left = back.left ∙ going.left;
      changed = back.changed ∙ going.changed;
    }

    pub going_less : unlike_left members (bit_of u.truth) w < unlike_left members (bit_of s.truth) w
    going_less =
        let put = updated_is (bit_of u.truth) (bit_of s.truth) j w back.here back.there in
        rw put (last_falls members (bit_of s.truth) w last)
