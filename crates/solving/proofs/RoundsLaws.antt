-- LAWS of the rounds: what each loop keeps, and that with nothing dirty the set is the solution.
-- The rows of a graph say which instances an equation of its system has; so all is shown by the laws of the system.
use Prim.Native.Nat.{ℕ, suc, ◌+◌, ◌-◌, ◌≤◌, ◌<◌}
use native.Mathlib.Omega.{arith}
use native.Mathlib.Decide.{ℕ_discrete}
use mathlib.Core.Path.{◌≡◌, refl, sym, subst, ap, ◌∙◌}
use mathlib.Core.Bool.{Bool, true, false, not, ◌&&◌, ◌||◌, true≢false, and-true, and-false, or-true, or-false}
use mathlib.Core.List.{List}
use lib.ListN.{length}
use borrow.Author.Tests.{ltb-true}
use Rattle.meaning.specs.Logic.{cases}
use Rattle.formulas.specs.declared.Equation.{Equation}
use Rattle.std.specs.Prelude.{Some, None}
use Rattle.truth.specs.Bits.{bit_of, nowhere}
use Rattle.truth.specs.Rows.{row_of, unlike_in, joined, LastOf}
use Rattle.truth.proofs.RowLaws.{last_member}
use Rattle.systems.specs.Numbered.{Truths, Numbered, Proper}
use Rattle.systems.specs.Solved.{solved}
use Rattle.systems.specs.Rounds.{Quiet, Midway, Restored, Spread, Begun}
use Rattle.systems.proofs.RoundLaws.{begun, finished, midway, midway_ends}
use Rattle.systems.proofs.RoundLaws.{restored_none, restored_more, spread_none, spread_then}
use Rattle.instances.specs.Sides.{is_greatest, numbered_system}
use Rattle.instances.specs.Graph.{reads_in, members_row, GraphOf}
use Rattle.instances.proofs.SystemLaws.{of_named, system_proper}
use Rattle.instances.proofs.GraphLaws.{system_hangs}
use Rattle.solving.specs.declared.steps.Progress.{Progress}
use Rattle.solving.specs.Rounds.{equation_of, KeptBy, Midst, Calm, Looks, SetsBack, Begins, LastDirty, Rounds, Settles}
use Rattle.solving.proofs.StepLaws.{none_in_row, members_are}

not_own : (b : Bool) → b ≡ not b → ⊥
not_own true q = true≢false q
not_own false q = true≢false (sym q)

next : (n : ℕ) → n + 1 ≡ suc n
next n = omega arith

calm_quiet : {bodies : List ℕ} {equations : List Equation} {table graph : List ℕ} → GraphOf bodies equations table graph
    → {count e : ℕ} {D : Truths} → count ≤ 8 → Calm graph count e D → Quiet (numbered_system bodies equations table) count e D
calm_quiet g l calm m k a b o = calm m k a b (members_are g m k (omega arith) ∙ o)

-- ---- the first values
-- the first e equations are begun
pub record Beginning (equations : List Equation) (count : ℕ) (graph : List ℕ) (e : ℕ) (X D : Truths) : Type 0 where
  pub most : e ≤ count
  pub begun : (bodies table : List ℕ) → GraphOf bodies equations table graph
      → Begun (numbered_system bodies equations table) e nowhere X D

pub beginning_none : (equations : List Equation) (count : ℕ) (graph : List ℕ) {X D : Truths} → X ≡ nowhere
    → Beginning equations count graph 0 X D
beginning_none equations count graph q = record {
  most = omega arith;
  begun = λ bodies table g. record {
    constants = λ m k l o. absurd (omega arith);
    all = λ m k l o. absurd (omega arith);
    rest = λ k o. ap (λ (f : Truths). f k) q;
  };
}

-- a row that is joined where g holds, and one that is not where g does not
pub row_added : (X row none : Truths) {X' : Truths} {g : Bool} → g ≡ true → none ≡ nowhere
    → X' ≡ joined X (unlike_in row none true) → (k : ℕ) → X' k ≡ (X k || (g && row k))
unfolding joined unlike_in
row_added X row none h q x k = rw (x, q, h) (ap (λ (b : Bool). X k || b) (and-true (row k)))

pub row_left : (X row : Truths) {g : Bool} → g ≡ false → (k : ℕ) → X k ≡ (X k || (g && row k))
row_left X row h k = rw h (sym (or-false (X k)))

begun_more : {S : Numbered} → Proper S → {e : ℕ} {X D X' D' : Truths} → Begun S e nowhere X D
    → ((k : ℕ) → X' k ≡ (X k || (S.greatest e && S.of e k))) → ((k : ℕ) → D' k ≡ (D k || S.of e k))
    → Begun S (e + 1) nowhere X' D'
begun_more {S} proper {e} {X} {D} before x d = record {
  constants = λ m k l o. elim (ℕ_discrete m e) [
    | yes q ↦ let own : S.of e k ≡ true = rw q at o in x k ∙ rw (own, first k own, q) (and-true (S.greatest e))
    | no n ↦ x k ∙ same k (outside m k n o) ∙ before.constants m k (omega arith) o
  ];
  all = λ m k l o. elim (ℕ_discrete m e) [
    | yes q ↦ let own : S.of e k ≡ true = rw q at o in d k ∙ rw own (or-true (D k))
    | no n ↦ d k ∙ rw (before.all m k (omega arith) o) refl
  ];
  rest = λ k o. x k ∙ same k (o e (omega arith) (omega arith)) ∙ before.rest k (λ m a b. o m a (omega arith));
}
  where
    outside : (m k : ℕ) → (m ≡ e → ⊥) → S.of m k ≡ true → S.of e k ≡ false
    outside m k n o = cases (S.of e k) (λ t. absurd (n (proper.apart m e k o t))) (λ f. f)

    first : (k : ℕ) → S.of e k ≡ true → X k ≡ false
    first k o = before.rest k (λ m a b. cases (S.of m k) (λ t. absurd (omega (arith, proper.apart m e k t o))) (λ f. f))

    same : (k : ℕ) → S.of e k ≡ false → (X k || (S.greatest e && S.of e k)) ≡ X k
    same k f = rw (f, and-false (S.greatest e)) (or-false (X k))

pub beginning_more : {equations : List Equation} {count : ℕ} {graph : List ℕ} {e : ℕ} {X D X' D' : Truths}
    → Beginning equations count graph e X D → e < count → count ≤ 8
    → ((k : ℕ) → X' k ≡ (X k || (is_greatest equations e && row_of graph (members_row e) k)))
    → ((k : ℕ) → D' k ≡ (D k || row_of graph (members_row e) k)) → Beginning equations count graph (e + 1) X' D'
unfolding numbered_system
beginning_more {equations} {graph = graph} {e} {X} {D} b l few x d = record {
  most = omega arith;
  begun = λ bodies table g. begun_more (system_proper bodies equations table) (b.begun bodies table g)
      (λ k. x k ∙ ap (λ (c : Bool). X k || (is_greatest equations e && c)) (members_are g e k (omega arith)))
      (λ k. d k ∙ ap (λ (c : Bool). D k || c) (members_are g e k (omega arith)));
}

-- ---- the last dirty instance
-- no instance of the equations from e on is dirty
pub record CalmFrom (graph : List ℕ) (count e : ℕ) (D : Truths) : Type 0 where
  pub most : e ≤ count
  pub calm : Calm graph count e D

pub calm_none : {graph : List ℕ} {count : ℕ} {D : Truths} → CalmFrom graph count count D
calm_none = record { most = omega arith; calm = λ m k a b. absurd (omega arith) }

module _ {graph : List ℕ} {count e : ℕ} {D : Truths} (before : CalmFrom graph count e D) where
  pub calm_all : e ≤ 0 → LastDirty graph count D None
  calm_all h m k a b = before.calm m k (omega arith) b

  -- one equation before it
  module _ (some_left : 0 < e) where
    pub calm_but : {j : ℕ} → LastOf (unlike_in (row_of graph (members_row (e - 1))) D false) (Some j)
        → LastDirty graph count D (Some j)
    calm_but last = (
      e - 1,
      omega (arith, before.most),
      last_member (row_of graph (members_row (e - 1))) D false last,
      (λ m k a b. before.calm m k (omega arith) b),
    )

    pub calm_more : LastOf (unlike_in (row_of graph (members_row (e - 1))) D false) None → CalmFrom graph count (e - 1) D
    calm_more none = record {
      most = omega (arith, before.most);
      calm = λ m k a b o. elim (ℕ_discrete m (e - 1)) [
        | yes q ↦ none_in_row graph (members_row (e - 1)) D false none k (rw q at o)
        | no n ↦ before.calm m k (omega arith) b o
      ];
    }

-- ---- a round
-- looks at instances of equation e lead from p to s
pub record Looking (bodies : List ℕ) (equations : List Equation) (table graph : List ℕ) (e : ℕ) (p s : Progress)
    : Type 0 where
  pub spent : s.left ≤ p.left
  pub keeps : GraphOf bodies equations table graph → (count : ℕ) → count ≤ 8
      → Midst bodies equations count table e p → Midst bodies equations count table e s

pub looking_none : {bodies : List ℕ} {equations : List Equation} {table graph : List ℕ} {e : ℕ} {p : Progress}
    → Looking bodies equations table graph e p p
looking_none = record { spent = omega arith; keeps = λ g count l mid. mid }

module _ {bodies : List ℕ} {equations : List Equation} {table graph : List ℕ} where
  pub looking_more : {e j : ℕ} {p s u : Progress} → Looking bodies equations table graph e p s
      → LastOf (unlike_in (row_of graph (members_row e)) (bit_of s.dirty) false) (Some j)
      → Looks bodies equations table graph j s u → Looking bodies equations table graph e p u
  looking_more {e} {j} {p} {s} {u} before last look = record {
    spent = omega (arith, before.spent, look.spent);
    keeps = λ g count few mid.
        let now = before.keeps g count few mid in
        let row = last_member (row_of graph (members_row e)) (bit_of s.dirty) false last in
        let own = sym (members_are g e j (omega (arith, now.midway.within))) ∙ row in
        let same = (of_named bodies equations table e j own).1 in
        rw (sym same) at (look.keeps g count (rw same at now));
  }

  pub looking_all : {e first : ℕ} {p s r : Progress} → e ≡ equation_of table first
      → Looks bodies equations table graph first p s → Looking bodies equations table graph e s r
      → Rounds bodies equations table graph first p r
  looking_all {s = s} {r = r} q look more = record {
    spent = omega (arith, look.spent, more.spent);
    keeps = λ g count few mid.
        subst (λ (m : ℕ). Midst bodies equations count table m r) q
        (more.keeps g count few (subst (λ (m : ℕ). Midst bodies equations count table m s) (sym q) (look.keeps g count mid)));
  }

-- ---- the end of a round
-- of the equations after e those below m that have the other sign are set back: this leads from p to s
pub record Settling (equations : List Equation) (count : ℕ) (graph : List ℕ) (e m : ℕ) (p s : Progress) : Type 0 where
  pub later : e < m
  pub most : e < count → m ≤ count
  pub left : s.left ≡ p.left
  pub unchanged : s.changed ≡ false
  pub restored : (bodies table : List ℕ) → GraphOf bodies equations table graph
      → Restored (numbered_system bodies equations table) m e (not (is_greatest equations e))
      (bit_of p.truth) (bit_of s.truth)
  pub spread : (bodies table : List ℕ) → GraphOf bodies equations table graph
      → Spread (reads_in bodies equations table) (not (is_greatest equations e)) (bit_of p.truth) (bit_of s.truth)
      (bit_of p.dirty) (bit_of s.dirty)

pub settling_none : {equations : List Equation} {count : ℕ} {graph : List ℕ} {e : ℕ} {p : Progress} → p.changed ≡ false
    → Settling equations count graph e (e + 1) p p
settling_none {e = e} h = record {
  later = omega arith;
  most = λ l. omega arith;
  left = refl;
  unchanged = h;
  restored = λ bodies table g. rw (next e) (restored_none _ e _ _);
  spread = λ bodies table g. spread_none _ _ _ _;
}

module _ {equations : List Equation} {count : ℕ} {graph : List ℕ} {e m : ℕ} {p s : Progress}
    (before : Settling equations count graph e m p s) where
  -- an equation of e's sign stays
  pub settling_same : m < count → is_greatest equations m ≡ is_greatest equations e → Settling equations count graph e (m + 1) p s
  unfolding numbered_system
  settling_same l sign = record {
    later = omega (arith, before.later);
    most = λ a. omega arith;
    left = before.left;
    unchanged = before.unchanged;
    restored = λ bodies table g. rw (next m) (restored_more (system_proper bodies equations table)
        (before.restored bodies table g) before.later (λ other k o. absurd (not_own _ (sym sign ∙ other)))
        (λ _ k o. refl) (λ k o. refl));
    spread = before.spread;
  }

  -- one of the other sign is set back
  pub settling_back : m < count → count ≤ 8 → is_greatest equations m ≡ not (is_greatest equations e) → {u : Progress}
      → SetsBack graph m (not (is_greatest equations e)) s u → Settling equations count graph e (m + 1) p u
  unfolding numbered_system
  settling_back l few sign back = record {
    later = omega (arith, before.later);
    most = λ a. omega arith;
    left = back.left ∙ before.left;
    unchanged = back.changed ∙ before.unchanged;
    restored = λ bodies table g. rw (next m) (restored_more (system_proper bodies equations table)
        (before.restored bodies table g) before.later (λ _ k o. back.back k (members_are g m k (omega arith) ∙ o))
        (λ own k o. absurd (not_own _ (sym sign ∙ own))) (λ k o. back.stays k (members_are g m k (omega arith) ∙ o)));
    spread = λ bodies table g. spread_then (before.spread bodies table g) (back.spread bodies equations table g);
  }

  settling_ends : count ≤ m → (bodies table : List ℕ) → GraphOf bodies equations table graph
      → Midway (numbered_system bodies equations table) count e nowhere (bit_of p.truth) (bit_of p.dirty)
      → KeptBy bodies equations count table s
  unfolding numbered_system
  settling_ends l bodies table g mid =
      let all : m ≡ count = omega (arith, before.most mid.within) in
      midway_ends (system_proper bodies equations table) mid (system_hangs bodies equations table)
      (rw all at (before.restored bodies table g)) (before.spread bodies table g)

-- r is p where nothing has changed
pub record Paused (p r : Progress) : Type 0 where
  pub truth : r.truth ≡ p.truth
  pub dirty : r.dirty ≡ p.dirty
  pub left : r.left ≡ p.left
  pub unchanged : r.changed ≡ false

module _ {p r : Progress} (paused : Paused p r) {equations : List Equation} {count : ℕ} {graph : List ℕ} {e : ℕ} where
  pub settles_same : p.changed ≡ false → Settles equations count graph e p r
  settles_same h = record {
    left = paused.left;
    unchanged = paused.unchanged;
    keeps = λ bodies table g mid. rw (paused.truth, paused.dirty) (mid.unchanged h);
  }

  pub settles_changed : {m : ℕ} {s : Progress} → Settling equations count graph e m r s → count ≤ m
      → Settles equations count graph e p s
  settles_changed before l = record {
    left = before.left ∙ paused.left;
    unchanged = before.unchanged;
    keeps = λ bodies table g mid. settling_ends before l bodies table g (rw (paused.truth, paused.dirty) mid.midway);
  }

-- ---- all rounds
-- nothing has changed in the next round, and what is kept between rounds is
pub record Carried (bodies : List ℕ) (equations : List Equation) (count : ℕ) (table graph : List ℕ) (s : Progress) : Type 0 where
  pub unchanged : s.changed ≡ false
  pub kept : GraphOf bodies equations table graph → KeptBy bodies equations count table s

pub carried_none : {bodies : List ℕ} {equations : List Equation} {count : ℕ} {table graph : List ℕ} {s : Progress}
    → Begins equations count graph s → Carried bodies equations count table graph s
carried_none {bodies} {table = table} b = record { unchanged = b.unchanged; kept = λ g. begun (b.begun bodies table g) }

module _ {bodies : List ℕ} {equations : List Equation} {count : ℕ} {table graph : List ℕ} {s : Progress}
    (few : count ≤ 8) (before : Carried bodies equations count table graph s) where
  module _ {j : ℕ} (last : LastDirty graph count (bit_of s.dirty) (Some j)) where
    -- the equation of the last dirty instance
    own_equation : GraphOf bodies equations table graph → (j < length table) × (equation_of table j < count)
        × Quiet (numbered_system bodies equations table) count (suc (equation_of table j)) (bit_of s.dirty)
    own_equation g =
        let own = sym (members_are g last.0 j (omega (arith, last.1))) ∙ last.2 in
        let named = of_named bodies equations table last.0 j own in
        (ltb-true j (length table) named.0, rw named.1 at last.1, rw named.1 at (calm_quiet g few last.3))

    pub carried_more : {u v : Progress} → Rounds bodies equations table graph j s u
        → Settles equations count graph (equation_of table j) u v → Carried bodies equations count table graph v
    carried_more round settle = record {
      unchanged = settle.unchanged;
      kept = λ g.
          let own = own_equation g in
          let kept = before.kept g in
          settle.keeps bodies table g (round.keeps g count few (record {
            midway = midway (system_proper bodies equations table) kept (equation_of table j) own.1 own.2;
            unchanged = λ _. kept;
          }));
    }

  pub carried_ends : LastDirty graph count (bit_of s.dirty) None → GraphOf bodies equations table graph
      → bit_of s.truth ≡ solved (numbered_system bodies equations table) count 0 nowhere
  carried_ends none g = finished (system_proper bodies equations table) (before.kept g) (calm_quiet g few none)
