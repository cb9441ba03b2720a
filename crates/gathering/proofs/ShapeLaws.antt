-- LAWS of shapes: the shape of a join is the join of its parts' shapes, in any order of joining, and says what is plain.
-- There are six shapes: a test that all of them pass is passed by each.
use Prim.Native.Nat.{ℕ}
use mathlib.Core.Path.{◌≡◌, refl, sym, ap, ap₂, ◌∙◌}
use mathlib.Core.Bool.{Bool, true, false, true≢false, false≢true, cond, not, ◌&&◌, ◌||◌, beq}
use mathlib.Core.List.{List, [], ◌∷◌, ◌++◌, map, map-append, append_assoc, append-nil}
use mathlib.Core.Logic.{inl, inr}
use lib.Dec.{eqb, eqb→eq}
use lib.ListN.{get_or}
use borrow.Author.Tests.{not-true}
use Rattle.meaning.specs.Simplification.{Tree, leaf, node, Simplified, decided, left, join_simplified}
use Rattle.meaning.specs.Reach.{leaves, instances}
use Rattle.meaning.specs.Logic.{cases}
use Rattle.meaning.specs.Words.{word}
use Rattle.truth.proofs.Bits.{beq_eq}
use Rattle.looked.proofs.OverLaws.{Decider}
use Rattle.instances.specs.Graph.{words_left, plain_tree, plain_as}
use Rattle.gathering.specs.declared.Shape.{Shape}
use Rattle.gathering.specs.declared.Shape.TheVariants.{Decided, One, Plain, Mixed}
use Rattle.gathering.specs.Shapes.{is_decided, decides, is_plain, joined_constant, joined_shape}
use Rattle.gathering.specs.Shapes.{tree_shape, shape_of, Gist, joined_gist, no_gist}

-- ---- all shapes
every : (Shape → Bool) → Bool
every p = p (Decided true) && (p (Decided false) && (p One && (p (Plain true) && (p (Plain false) && p Mixed))))

both : (a : Bool) {b : Bool} → (a && b) ≡ true → (a ≡ true) × (b ≡ true)
both true h = (refl, h)
both false h = absurd (false≢true h)

each : (p : Shape → Bool) → every p ≡ true → (x : Shape) → p x ≡ true
unfolding every
each p h (Decided true) = (both (p (Decided true)) h).0
each p h (Decided false) = (both (p (Decided false)) (both (p (Decided true)) h).1).0
each p h One = (both (p One) (both (p (Decided false)) (both (p (Decided true)) h).1).1).0
each p h (Plain b) = go b (both (p One) (both (p (Decided false)) (both (p (Decided true)) h).1).1).1
  where
    go : (b : Bool) → (p (Plain true) && (p (Plain false) && p Mixed)) ≡ true → p (Plain b) ≡ true
    go true k = (both (p (Plain true)) k).0
    go false k = (both (p (Plain false)) (both (p (Plain true)) k).1).0
each p h Mixed =
    let k = (both (p One) (both (p (Decided false)) (both (p (Decided true)) h).1).1).1 in
    (both (p (Plain false)) (both (p (Plain true)) k).1).1

-- ---- shapes by number
number_shape : Shape → ℕ
number_shape (Decided c) = cond c 0 1
number_shape One = 2
number_shape (Plain b) = cond b 3 4
number_shape Mixed = 5

shape_numbered : ℕ → Shape
shape_numbered n = get_or (Decided true ∷ Decided false ∷ One ∷ Plain true ∷ Plain false ∷ []) n Mixed

numbered : (x : Shape) → shape_numbered (number_shape x) ≡ x
unfolding number_shape shape_numbered
numbered (Decided true) = refl
numbered (Decided false) = refl
numbered One = refl
numbered (Plain true) = refl
numbered (Plain false) = refl
numbered Mixed = refl

alike : Shape → Shape → Bool
alike x y = eqb (number_shape x) (number_shape y)

same_shape : (x y : Shape) → alike x y ≡ true → x ≡ y
unfolding alike
same_shape x y h = sym (numbered x) ∙ ap shape_numbered (eqb→eq _ _ (rw h tt)) ∙ numbered y

abbrev pub pair : List ℕ → Shape → Gist
pair ws shape = (ws, shape)

-- ---- joining shapes
module _ (all : Bool) where
  associates : Shape → Shape → Shape → Bool
  associates x y z = alike (joined_shape all x (joined_shape all y z)) (joined_shape all (joined_shape all x y) z)

  -- three equal parts, as two
  as_twice : Shape → Bool
  as_twice x = alike (joined_shape all x (joined_shape all x x)) (joined_shape all x x)

  -- a constant behind a part, as one in front of it
  constant_last : Bool → Shape → Bool
  constant_last c x = alike (joined_shape all x (Decided c)) (joined_constant all c x)

  -- two parts of which something is left
  plain_parts : Bool → Shape → Shape → Bool
  plain_parts b x y =
      (is_decided x || is_decided y) ||
      beq (is_plain all (joined_shape b x y)) (beq b all && (is_plain all x && is_plain all y))

associated : (all : Bool) → every (λ x. every (λ y. every (associates all x y))) ≡ true
unfolding every associates alike number_shape
associated true = refl
associated false = refl

pub joined_associative : (all : Bool) (x y z : Shape)
    → joined_shape all x (joined_shape all y z) ≡ joined_shape all (joined_shape all x y) z
unfolding associates
joined_associative all x y z = same_shape _ _
    (each (associates all x y) (each (λ y. every (associates all x y))
    (each (λ x. every (λ y. every (associates all x y))) (associated all) x) y) z)

pub joined_thrice : (all : Bool) (x : Shape) → joined_shape all x (joined_shape all x x) ≡ joined_shape all x x
unfolding every as_twice alike number_shape
joined_thrice true x = same_shape _ _ (each (as_twice true) refl x)
joined_thrice false x = same_shape _ _ (each (as_twice false) refl x)

pub joined_unit : (all : Bool) (x : Shape) → joined_shape all (Decided all) x ≡ x
joined_unit true x = refl
joined_unit false x = refl

pub joined_last : (all c : Bool) (x : Shape) → joined_shape all x (Decided c) ≡ joined_constant all c x
unfolding every constant_last alike number_shape
joined_last true true x = same_shape _ _ (each (constant_last true true) refl x)
joined_last true false x = same_shape _ _ (each (constant_last true false) refl x)
joined_last false true x = same_shape _ _ (each (constant_last false true) refl x)
joined_last false false x = same_shape _ _ (each (constant_last false false) refl x)

-- ---- what decides a connective
-- two parts decide it where one of them does
deciding_parts : (all : Bool)
    → every (λ x. every (λ y. beq (decides all (joined_shape all x y)) (decides all x || decides all y))) ≡ true
unfolding every
deciding_parts true = refl
deciding_parts false = refl

pub decides_either : (all : Bool) (x y : Shape) → decides all (joined_shape all x y) ≡ (decides all x || decides all y)
decides_either all x y = beq_eq _ _ (each _ (each _ (deciding_parts all) x) y)

neither : (a b : Bool) → (a || b) ≡ false → (a ≡ false) × (b ≡ false)
neither true b h = absurd (true≢false h)
neither false b h = (refl, h)

pub none_decides : (all : Bool) (x y : Shape) → decides all (joined_shape all x y) ≡ false
    → (decides all x ≡ false) × (decides all y ≡ false)
none_decides all x y h = neither (decides all x) (decides all y) (sym (decides_either all x y) ∙ h)

-- a part that decides it is the whole
pub decider_joined : (all : Bool) (x y : Shape) → decides all x ≡ true → joined_shape all x y ≡ x
decider_joined true (Decided true) y h = absurd (false≢true h)
decider_joined true (Decided false) y h = refl
decider_joined false (Decided true) y h = refl
decider_joined false (Decided false) y h = absurd (false≢true h)
decider_joined all One y h = absurd (false≢true h)
decider_joined all (Plain b) y h = absurd (false≢true h)
decider_joined all Mixed y h = absurd (false≢true h)

-- where something is left nothing is decided
pub open_decides_none : (all : Bool) (x : Shape) → is_decided x ≡ false → decides all x ≡ false
open_decides_none all (Decided c) h = absurd (true≢false h)
open_decides_none all One h = refl
open_decides_none all (Plain b) h = refl
open_decides_none all Mixed h = refl

-- ---- the shape of something simplified
pub shape_join : (all : Bool) (x y : Simplified)
    → shape_of (join_simplified all x y) ≡ joined_shape all (shape_of x) (shape_of y)
unfolding join_simplified shape_of tree_shape
shape_join true (decided true) y = refl
shape_join true (decided false) y = refl
shape_join false (decided true) y = refl
shape_join false (decided false) y = refl
shape_join all (left t) (left u) = refl
shape_join all (left t) (decided c) = constant all c ∙ sym (joined_last all c (tree_shape t))
  where
    constant : (all c : Bool) → shape_of (cond (beq c all) (left t) (decided c)) ≡ joined_constant all c (tree_shape t)
    constant true true = refl
    constant true false = refl
    constant false true = refl
    constant false false = refl

open_parts : (b : Bool) → every (λ x. every (λ y. (is_decided x || is_decided y) || not (is_decided (joined_shape b x y)))) ≡ true
unfolding every
open_parts true = refl
open_parts false = refl

-- something is left of a tree
open_tree : (t : Tree) → is_decided (tree_shape t) ≡ false
unfolding tree_shape
open_tree (leaf e x) = refl
open_tree (node b t u) =
    let all_open = each _ (each _ (open_parts b) (tree_shape t)) (tree_shape u) in
    not-true _ (rw (open_tree t, open_tree u) at all_open)

-- nothing is left of something that is decided
pub none_left : (x : Simplified) → is_decided (shape_of x) ≡ true → words_left x ≡ []
unfolding instances shape_of
none_left (decided c) h = refl
none_left (left t) h = absurd (false≢true (sym (open_tree t) ∙ h))

-- a part that decides a join is what is left of it
pub decider_whole : (all : Bool) (x y : Simplified) → decides all (shape_of x) ≡ true → join_simplified all x y ≡ x
unfolding join_simplified shape_of
decider_whole true (decided true) y h = absurd (false≢true h)
decider_whole true (decided false) y h = refl
decider_whole false (decided true) y h = refl
decider_whole false (decided false) y h = absurd (false≢true h)
decider_whole all (left t) y h = absurd (false≢true (sym (open_decides_none all (tree_shape t) (open_tree t)) ∙ h))

-- the constant that decides a connective, and no other, makes the whole from either side
module _ (all : Bool) where
  none_second : (x : Simplified) → join_simplified all x (decided (not all)) ≡ decided (not all)
  unfolding join_simplified
  none_second (decided c) = go all c
    where
      go : (a c : Bool) → cond (beq c a) (decided (not a)) (decided c) ≡ decided (not a)
      go true true = refl
      go true false = refl
      go false true = refl
      go false false = refl
  none_second (left t) = rw (unlike all) refl
    where
      unlike : (a : Bool) → beq (not a) a ≡ false
      unlike true = refl
      unlike false = refl

  pub decider_is : (x : Simplified) → decides all (shape_of x) ≡ true → x ≡ decided (not all)
  decider_is x h = sym (decider_whole all x (decided (not all)) h) ∙ none_second x

  is_decider : (x : Simplified) → x ≡ decided (not all) → decides all (shape_of x) ≡ true
  unfolding shape_of
  is_decider x e = rw e (go all)
    where
      go : (a : Bool) → not (beq (not a) a) ≡ true
      go true = refl
      go false = refl

  pub joins_decided : Decider (join_simplified all) (decided all) (decided (not all))
  unfolding shape_of
  joins_decided = record {
    first = λ x. decider_whole all (decided (not all)) x (is_decider (decided (not all)) refl);
    second = none_second;
    either = λ x y e. cases (decides all (shape_of x))
        (λ h. inl (decider_is x h))
        (λ h. inr (decider_is y (ap (λ (b : Bool). b || decides all (shape_of y)) (sym h)
        ∙ sym (decides_either all (shape_of x) (shape_of y)) ∙ ap (decides all) (sym (shape_join all x y))
        ∙ is_decider (join_simplified all x y) e)));
    other = λ e. go all (is_decider (decided all) e);
  }
    where
      go : (a : Bool) → not (beq a a) ≡ true → ⊥
      go true h = false≢true h
      go false h = false≢true h

-- where no part decides a join, the words of the first and then those of the second are left in it
pub words_joined : (all : Bool) (x y : Simplified) → decides all (shape_of x) ≡ false → decides all (shape_of y) ≡ false
    → words_left (join_simplified all x y) ≡ words_left x ++ words_left y
unfolding join_simplified shape_of instances leaves
words_joined true (decided true) y h k = refl
words_joined true (decided false) y h k = absurd (true≢false h)
words_joined false (decided false) y h k = refl
words_joined false (decided true) y h k = absurd (true≢false h)
words_joined true (left t) (decided true) h k = sym (append-nil (map word (leaves t)))
words_joined true (left t) (decided false) h k = absurd (true≢false k)
words_joined false (left t) (decided false) h k = sym (append-nil (map word (leaves t)))
words_joined false (left t) (decided true) h k = absurd (true≢false k)
words_joined all (left t) (left u) h k = map-append word (leaves t) (leaves u)

plain_both : (all b : Bool) → every (λ x. every (plain_parts all b x)) ≡ true
unfolding every plain_parts
plain_both true true = refl
plain_both true false = refl
plain_both false true = refl
plain_both false false = refl

plain_trees : (all : Bool) (t : Tree) → is_plain all (tree_shape t) ≡ plain_tree all t
unfolding tree_shape plain_tree plain_parts
plain_trees all (leaf e x) = refl
plain_trees all (node b t u) =
    let as_parts = each (plain_parts all b (tree_shape t)) (each _ (plain_both all b) (tree_shape t)) (tree_shape u) in
    beq_eq _ _ (rw (open_tree t, open_tree u) at as_parts)
    ∙ ap (λ (p : Bool). beq b all && p) (ap₂ ◌&&◌ (plain_trees all t) (plain_trees all u))

pub shape_plain : (all : Bool) (x : Simplified) → is_plain all (shape_of x) ≡ plain_as all x
unfolding shape_of plain_as
shape_plain all (decided c) = refl
shape_plain all (left t) = plain_trees all t

-- ---- words and shape together
pub gist_associative : (all : Bool) (x y z : Gist)
    → joined_gist all x (joined_gist all y z) ≡ joined_gist all (joined_gist all x y) z
gist_associative all x y z =
    ap₂ pair (sym (append_assoc x.0 y.0 z.0)) (joined_associative all x.1 y.1 z.1)

pub gist_unit : (all : Bool) (x : Gist) → joined_gist all (no_gist all) x ≡ x
gist_unit all x = ap (pair x.0) (joined_unit all x.1)

pub gist_last : (all : Bool) (x : Gist) → joined_gist all x (no_gist all) ≡ x
gist_last all x = ap₂ pair (append-nil x.0) (joined_last all all x.1 ∙ dropped all)
  where
    dropped : (all : Bool) → joined_constant all all x.1 ≡ x.1
    dropped true = refl
    dropped false = refl
