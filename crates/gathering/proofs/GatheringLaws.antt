-- Gathering the instances left in a formula: a law for each way through the functions that gather.
-- A connective that no part decides leaves what its parts leave; of a decided one nothing, and what was added is taken back.
use Prim.Native.Nat.{ℕ, ◌+◌, ◌≤◌, ◌<◌}
use native.Mathlib.Omega.{arith}
use native.Mathlib.Nat.{sub-zero}
use mathlib.Core.Path.{◌≡◌, refl, sym, ap, ap₂, ◌∙◌, fun_ext}
use mathlib.Core.Bool.{Bool, true, false, true≢false, cond, not}
use mathlib.Core.List.{List, [], ◌∷◌, ◌++◌}
use lib.ListN.{length}
use borrow.Author.Tests.{lt-ltb, le-ltb}
use Rattle.meaning.specs.Logic.{over, over_related}
use Rattle.meaning.specs.Over.{between, between_one, between_parts}
use Rattle.meaning.specs.Formulas.{Formula, constant, quantified, test_holds}
use Rattle.meaning.specs.Ranges.{is_range}
use Rattle.meaning.specs.Simplification.{leaf, Simplified, decided, left, join_simplified, simplified}
use Rattle.meaning.specs.Reach.{leaves, instances}
use Rattle.formulas.specs.declared.Kind.{Kind}
use Rattle.formulas.specs.declared.Kind.TheVariants.{Constant, Join, Quantifier, Compare, Instance}
use Rattle.formulas.specs.declared.Test.{Test}
use Rattle.formulas.specs.Decode.{test_of}
use Rattle.truth.specs.Bits.{bit_of, put_in}
use Rattle.looked.specs.Looked.{looks_at, at_value, Settled}
use Rattle.looked.proofs.Laws.{settled_constant, settled_map, settled_both, settled_decided, settled_term, settled_values}
use Rattle.looked.proofs.OverLaws.{settled_over, over_decided, over_one, over_first, over_more, one_for_all}
use Rattle.looked.proofs.OverLaws.{over_all}
use Rattle.prepared.specs.Prepared.{byte_at, end_at, formula_by, formula_there, term_there}
use Rattle.prepared.proofs.Steps.{formula_step}
use Rattle.evaluator.specs.Replies.{first_term, second_term, arguments_there, test_there}
use Rattle.evaluator.proofs.FormulaLaws.{Head}
use Rattle.instances.specs.Graph.{words_left}
use Rattle.gathering.specs.declared.Shape.{Shape}
use Rattle.gathering.specs.declared.Shape.TheVariants.{Decided}
use Rattle.looked.specs.declared.Looked.{Looked}
use Rattle.looked.specs.Alone.{alone}
use Rattle.std.proofs.Common.{Option, Some, None}
use Rattle.gathering.specs.FoundWords.{FoundWords, add, noted}
use Rattle.gathering.proofs.FoundWordsLaws.{add_append, noted_append, found_before}
use Rattle.gathering.specs.Shapes.{is_decided, decides, joined_shape, shape_of, tree_shape}
use Rattle.gathering.specs.Shapes.{Gist, gist, joined_gist, no_gist}
use Rattle.gathering.proofs.ShapeLaws.{pair, shape_join, gist_associative, gist_unit, gist_last, none_decides, none_left}
use Rattle.gathering.proofs.ShapeLaws.{decider_joined, decider_whole, open_decides_none, words_joined, decider_is}
use Rattle.gathering.proofs.ShapeLaws.{joins_decided}
use Rattle.gathering.proofs.Repeats.{copies, takes_copies}
use Rattle.gathering.specs.Gathered.{left_of, joined_parts, Store, store, Takes, TakesLeft}
use Rattle.gathering.specs.Gathered.{TakesParts, Within, GathersInstance, GathersLeft, GathersOver}

-- ---- what is taken
module _ {room : ℕ} where
  takes_none : {s : FoundWords} {set : ℕ → Bool} {shape : Shape} {x : Gist} → x ≡ pair [] shape → Takes room s s set set shape x
  unfolding add noted
  takes_none e = rw e (record { added = refl; noted = refl; shaped = refl })

  -- two parts, one after the other
  takes_both : (all : Bool) {s m e : FoundWords} {set set₁ set₂ : ℕ → Bool} {a b : Shape} {x y : Gist}
      → Takes room s m set set₁ a x → Takes room m e set₁ set₂ b y
      → Takes room s e set set₂ (joined_shape all a b) (joined_gist all x y)
  takes_both all {s} {set} {x} {y} p q = record {
    added = q.added ∙ ap (λ (k : FoundWords). add room k y.0) p.added ∙ sym (add_append room s x.0 y.0);
    noted = q.noted ∙ ap₂ (λ (k : FoundWords) (l : ℕ → Bool). noted room k y.0 l) p.added p.noted
        ∙ sym (noted_append room s x.0 y.0 set);
    shaped = ap₂ (joined_shape all) p.shaped q.shaped;
  }

-- ---- the parts of a connective
module _ (all : Bool) {room : ℕ} where
  part_alone : {t e : Store} {a : Shape} {x : Gist} → TakesLeft room t e a x → TakesParts all room t e a x
  part_alone {x = x} p = record { taken = x.0; takes = p; whole = λ _. p }

  parts_both : {t m e : Store} {a b : Shape} {x y : Gist} → TakesParts all room t m a x → TakesParts all room m e b y
      → TakesParts all room t e (joined_shape all a b) (joined_gist all x y)
  parts_both {x = x} {y = y} p q = record {
    taken = p.taken ++ q.taken;
    takes = takes_both all p.takes q.takes;
    whole = λ h. let free = none_decides all x.1 y.1 h in takes_both all (p.whole free.0) (q.whole free.1);
  }

  -- the second is left out where the first decides
  parts_first : {t e : Store} {a : Shape} {x : Gist} (y : Gist) → decides all a ≡ true → TakesParts all room t e a x
      → TakesParts all room t e a (joined_gist all x y)
  parts_first {a = a} {x = x} y z p =
      let first : joined_shape all x.1 y.1 ≡ a = decider_joined all x.1 y.1 (rw (← p.takes.shaped) z)
      ∙ sym p.takes.shaped in
      record {
        taken = p.taken;
        takes = record { added = p.takes.added; noted = p.takes.noted; shaped = sym first };
        whole = λ h. absurd (true≢false (sym z ∙ ap (decides all) (sym first) ∙ h));
      }

  -- where none decides, more of the same are taken with them
  parts_copies : {t e : Store} {a : Shape} (y : Gist) (v n m : ℕ) → 0 < n → n < m → decides all a ≡ false
      → TakesParts all room t e a (copies all y v n) → TakesParts all room t e (joined_shape all a a) (copies all y v m)
  parts_copies y v n m l h z p =
      part_alone (takes_copies all y v n m l h (p.whole (ap (decides all) (sym p.takes.shaped) ∙ z)))

-- x is what s leaves, part by part: its words are all left where no part decides
record Sums (all : Bool) (s : Simplified) (x : Gist) : Type 0 where
  pub shape : shape_of s ≡ x.1
  pub words : decides all x.1 ≡ false → words_left s ≡ x.0

module _ (all : Bool) where
  sums_itself : (s : Simplified) → Sums all s (gist s)
  sums_itself s = record { shape = refl; words = λ _. refl }

  sums_join : (s u : Simplified) (x y : Gist) → Sums all s x → Sums all u y
      → Sums all (join_simplified all s u) (joined_gist all x y)
  sums_join s u x y p q = record {
    shape = shape_join all s u ∙ ap₂ (joined_shape all) p.shape q.shape;
    words = λ h.
        let free = none_decides all x.1 y.1 h in
        words_joined all s u (ap (decides all) p.shape ∙ free.0) (ap (decides all) q.shape ∙ free.1)
        ∙ ap₂ ◌++◌ (p.words free.0) (q.words free.1);
  }

  sums_over : (p : ℕ → Simplified) (v n : ℕ)
      → Sums all (over (join_simplified all) (decided all) v n p) (over (joined_gist all) (no_gist all) v n (λ i. gist (p i)))
  unfolding shape_of instances
  sums_over p v n = over_related (Sums all) (join_simplified all) (joined_gist all) sums_join
      (record { shape = refl; words = λ _. refl }) v n p (λ i. gist (p i)) (λ i _ _. sums_itself (p i))

-- ---- one store and then another
within_both : {t m e : Store} → Within t m → Within m e → Within t e
within_both p q = record { few = omega (arith, p.size, q.few); size = q.size ∙ p.size }

-- ---- what was added is taken back where the whole is decided
abbrev back : Bool → Store → Store → Store
back d t e = store e.table (cond d t.found e.found) (cond d t.reads e.reads)

within_back : (d : Bool) {t e : Store} → t.found ≤ length t.table + 1 → Within t e → Within t (back d t e)
within_back true l w = record { few = l; size = w.size }
within_back false l w = w

module _ {all : Bool} {t e : Store} {shape : Shape} {x : Gist} where
  taken_back : (s : Simplified) → Sums all s x → TakesParts all (length t.table) t e shape x
      → TakesLeft (length t.table) t (back (is_decided shape) t e) shape (gist s)
  unfolding add noted
  taken_back s sums p = go (is_decided shape) refl
    where
      shaped : shape ≡ shape_of s
      shaped = p.takes.shaped ∙ sym sums.shape

      go : (d : Bool) → is_decided shape ≡ d → TakesLeft (length t.table) t (back d t e) shape (gist s)
      go true d =
          let none = none_left s (ap is_decided (sym shaped) ∙ d) in
          rw none (record {
            added = found_before (length t.table) t.table e.table t.found e.found p.taken (omega arith)
                p.takes.added;
            noted = refl;
            shaped = shaped;
          })
      go false d =
          let free = ap (decides all) (sym p.takes.shaped) ∙ open_decides_none all shape d in
          let whole = p.whole free in
          rw (sums.words free) (record { added = whole.added; noted = whole.noted; shaped = shaped })

-- ---- nothing is added
module _ {f : Formula} {v : List ℕ} {t : Store} {r : Looked Shape} (l : t.found ≤ length t.table + 1) where
  gather_nothing : gist (simplified f v) ≡ pair [] r.value → Settled r.looked v (simplified f)
      → GathersLeft f v t t r
  gather_nothing e s = record { within = record { few = l; size = refl }; takes = takes_none e; settled = s }

pub gather_constant : {f : Formula} (v : List ℕ) {t : Store} (b : Bool) → t.found ≤ length t.table + 1 → f ≡ constant b
    → GathersLeft f v t t (alone (Decided b))
unfolding simplified instances shape_of
gather_constant v b l e = rw e (gather_nothing l refl (settled_constant (decided b)))

-- ---- the formula at a place, by the kind of the code that stands there
-- the formula of a kind at a place
abbrev formula_of : Option Kind → List ℕ → ℕ → ℕ → Formula
formula_of kind p = formula_by (term_there p) (formula_there p) kind p

module _ {p : List ℕ} {at : ℕ} {kind : Kind} (head : Head p at (Some kind)) (k : ℕ) where
  by_kind : {is : Kind} → kind ≡ is → formula_there p k at ≡ formula_of (Some is) p k at
  by_kind e = formula_step p k at head.inside ∙ ap (λ (x : Option Kind). formula_of x p k at) (head.named ∙ ap Some e)

  -- a quantifier has a range, and there is place for one more variable, or there is no formula
  module _ {all : Bool} (h : kind ≡ Quantifier all) where
    unplaced : 8 ≤ k → formula_there p k at ≡ constant false
    unfolding formula_by
    unplaced l = by_kind h ∙ rw (le-ltb k 8 l) refl

    module _ (l : k < 8) {r : ℕ} (byte : r ≡ byte_at p (at + 1)) where
      unranged : is_range r ≡ false → formula_there p k at ≡ constant false
      unfolding formula_by
      unranged n = by_kind h ∙ rw (lt-ltb k 8 l, ← byte, n) refl

      ranged : is_range r ≡ true → formula_there p k at ≡ quantified all r (formula_there p (k + 1) (at + 2))
      unfolding formula_by
      ranged i = by_kind h ∙ rw (lt-ltb k 8 l, ← byte, i) refl

pub gather_none : {p : List ℕ} {at : ℕ} (head : Head p at None) (k : ℕ) (v : List ℕ) {t : Store} → t.found ≤ length t.table + 1
    → GathersLeft (formula_there p k at) v t t (alone (Decided false))
unfolding formula_by
gather_none {p} {at} head k v l = gather_constant v false l
    (formula_step p k at head.inside ∙ ap (λ (x : Option Kind). formula_of x p k at) head.named)

module _ {p : List ℕ} {at : ℕ} {kind : Kind} (head : Head p at (Some kind)) (k : ℕ) (v : List ℕ) {t : Store} where
  pub gather_known : {b : Bool} → kind ≡ Constant b → t.found ≤ length t.table + 1
      → GathersLeft (formula_there p k at) v t t (alone (Decided b))
  unfolding formula_by
  gather_known {b} h l = gather_constant v b l (by_kind head k h)

  -- a test is never left
  pub gather_compare : {test : Test} → kind ≡ Compare test → t.found ≤ length t.table + 1
      → let a = test_there p at v test in
      GathersLeft (formula_there p k at) v t t (left_of (Decided a.value) a.looked)
  unfolding simplified instances shape_of formula_by
  gather_compare {test} h l = rw (by_kind head k h) (gather_nothing l refl
      (settled_both (λ (x y : ℕ). decided (test_holds (test_of test) x y)) (settled_term (first_term p at) v)
      (settled_term (second_term p at) v)))

  -- an instance is left itself
  pub gather_instance : {e : Store} {r : Looked Shape} → kind ≡ Instance → GathersInstance p at v t e r
      → GathersLeft (formula_there p k at) v t e r
  unfolding simplified instances leaves shape_of tree_shape add noted formula_by
  gather_instance h g =
      rw (by_kind head k h, g.told, g.counted) (record {
        within = record { few = omega (arith, g.counted, g.added.within); size = g.added.size };
        takes = record {
          added = g.added.added;
          noted = g.noted ∙ ap (λ (j : ℕ). put_in (bit_of t.reads) j true) g.added.numbered;
          shaped = refl;
        };
        settled = settled_map (λ (x : List ℕ). left (leaf (byte_at p (at + 1)) x))
            (settled_values (arguments_there p at) 0 v);
      })

  -- ---- a join
  module _ {all : Bool} (h : kind ≡ Join all) {m : Store} {x : Looked Shape}
      (first : GathersLeft (formula_there p k (at + 1)) v t m x) where
    -- the first part decides: the second is passed over
    pub gather_first : decides all x.value ≡ true → GathersLeft (formula_there p k at) v t m x
    unfolding simplified formula_by
    gather_first z =
        let f = formula_there p k (at + 1) in
        let g = formula_there p k (end_at p (at + 1)) in
        let it_does = ap (decides all) (sym first.takes.shaped) ∙ z in
        rw (by_kind head k h) (record {
          within = first.within;
          takes = rw (decider_whole all (simplified f v) (simplified g v) it_does) first.takes;
          settled = settled_decided (join_simplified all) (decided (not all)) (joins_decided all).first
              (decider_is all (simplified f v) it_does) first.settled (simplified g);
        })

    pub gather_join : {e : Store} {y : Looked Shape} {next : ℕ} → next ≡ end_at p (at + 1) → t.found ≤ length t.table + 1
        → GathersLeft (formula_there p k next) v m e y
        → let whole = joined_parts all x y in
        GathersLeft (formula_there p k at) v t (back (is_decided whole.value) t e) whole
    unfolding simplified formula_by
    gather_join {y = y} {next = next} n l second =
        let f = formula_there p k (at + 1) in
        let g = formula_there p k next in
        rw (by_kind head k h, ← n) (record {
          within = within_back (is_decided (joined_shape all x.value y.value)) l
              (within_both first.within second.within);
          takes = taken_back (join_simplified all (simplified f v) (simplified g v))
              (sums_join all _ _ _ _ (sums_itself all (simplified f v)) (sums_itself all (simplified g v)))
              (parts_both all (part_alone all first.takes) (part_alone all (rw first.within.size at second.takes)));
          settled = settled_both (join_simplified all) first.settled second.settled;
        })

  -- ---- a quantifier
  module _ {all : Bool} (h : kind ≡ Quantifier all) (few : t.found ≤ length t.table + 1) where
    pub gather_unplaced : 8 ≤ k → GathersLeft (formula_there p k at) v t t (alone (Decided false))
    gather_unplaced l = gather_constant v false few (unplaced head k h l)

    module _ (l : k < 8) {r : ℕ} (byte : r ≡ byte_at p (at + 1)) where
      pub gather_unranged : is_range r ≡ false → GathersLeft (formula_there p k at) v t t (alone (Decided false))
      gather_unranged n = gather_constant v false few (unranged head k h l byte n)

      pub gather_quantifier : {e : Store} {x : Looked Shape} → is_range r ≡ true
          → GathersOver all r (formula_there p (k + 1) (at + 2)) v t e x
          → GathersLeft (formula_there p k at) v t (back (is_decided x.value) t e) x
      unfolding simplified
      gather_quantifier {x = x} i g =
          let f = formula_there p (k + 1) (at + 2) in
          rw (ranged head k h l byte i) (record {
            within = within_back (is_decided x.value) few g.within;
            takes = taken_back (simplified (quantified all r f) v)
                (sums_over all (λ i. at_value (simplified f) i v) 0 r) g.parts;
            settled = settled_over (joins_decided all) g.settled;
          })

-- ---- the values of a quantified variable
-- what is left where one more variable has the value i, and at the first n of its values
abbrev at_one_value : Formula → List ℕ → ℕ → Gist
at_one_value f v i = gist (at_value (simplified f) i v)

abbrev at_values : Bool → Formula → List ℕ → ℕ → Gist
at_values all f v n = over (joined_gist all) (no_gist all) 0 n (at_one_value f v)

-- those below a place, and those from it on
together : (all : Bool) (v : List ℕ) (f : Formula) {n m : ℕ} → n ≤ m
    → joined_gist all (at_values all f v n) (between (joined_gist all) (no_gist all) n m (at_one_value f v)) ≡ at_values all f v m
together all v f {n} {m} l = rw (sub-zero n, sub-zero m) at
    (between_parts (joined_gist all) (no_gist all) (gist_associative all) (gist_unit all) (at_one_value f v)
    {from = 0} {mid = n} {to = m} (omega arith) l)

one_more : (all : Bool) (v : List ℕ) (f : Formula) (n : ℕ)
    → joined_gist all (at_values all f v n) (at_one_value f v n) ≡ at_values all f v (n + 1)
one_more all v f n =
    ap (joined_gist all (at_values all f v n)) (sym (between_one (joined_gist all) (no_gist all) (at_one_value f v)
    {from = n} {to = n + 1} (omega arith) (omega arith) ∙ gist_last all (at_one_value f v n)))
    ∙ together all v f (omega arith)

module _ (all : Bool) (v : List ℕ) {f : Formula} where
  pub gather_one : {t e : Store} {x : Looked Shape} → GathersLeft f (v ++ (0 ∷ [])) t e x → GathersOver all 1 f v t e x
  unfolding over
  gather_one g = record {
    within = g.within;
    parts = rw (gist_last all (at_one_value f v 0)) (part_alone all g.takes);
    settled = over_one g.settled;
  }

  module _ {n : ℕ} {t m : Store} {x : Looked Shape} (l : 0 < n) (first : GathersOver all n f v t m x) where
    -- these decide
    pub gather_decided : {r : ℕ} → n ≤ r → decides all x.value ≡ true → GathersOver all r f v t m x
    gather_decided h z =
        let sums = sums_over all (λ i. at_value (simplified f) i v) 0 n in
        let is = decider_is all _ (ap (decides all) (sums.shape ∙ sym first.parts.takes.shaped) ∙ z) in
        record {
          within = first.within;
          parts = rw (← together all v f h) (parts_first all _ z first.parts);
          settled = over_decided (joins_decided all) h is first.settled;
        }

    -- the variable was not looked at: as much is left at every value
    pub gather_copies : {r : ℕ} → n < r → decides all x.value ≡ false → looks_at x.looked (length v) ≡ false
        → GathersOver all r f v t m (joined_parts all x x)
    gather_copies {r} h z none =
        let y = at_one_value f v 0 in
        let same : ◌≡◌ {A = ℕ → Gist} (at_one_value f v) (λ _. y) =
        fun_ext λ i. ap gist (one_for_all l none first.settled i) in
        record {
          within = first.within;
          parts = rw same (parts_copies all y 0 n r l h z (rw same at first.parts));
          settled = over_first x.looked (over_all l none first.settled);
        }

    -- the next one
    pub gather_next : {e : Store} {y : Looked Shape} → GathersLeft f (v ++ (n ∷ [])) m e y
        → GathersOver all (n + 1) f v t e (joined_parts all x y)
    gather_next second =
        let one = part_alone all (rw first.within.size at second.takes) in
        record {
          within = within_both first.within second.within;
          parts = rw (← one_more all v f n) (parts_both all first.parts one);
          settled = over_more first.settled second.settled;
        }
