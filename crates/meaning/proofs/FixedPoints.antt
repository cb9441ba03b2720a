-- The least and the greatest set, both signs in one proof: fixed points, closed, below every closed set.
-- Two laws carry all: `fix_below` (below every closed set) and `fix_above` (above what is below these).
use Rattle.std.specs.Prelude.{◌≡◌, refl, Bool, true, false, not, cond, List, ◌⊎◌}
use Rattle.std.proofs.Common.{sym, ◌∙◌, inl, inr, ⊎_elim}
use Rattle.std.proofs.Math.Path.{subst}
use Rattle.meaning.specs.Logic.{Is, is, and_l, and_r, and_i, true_and}
use Rattle.meaning.specs.Logic.{imp_i, imp_e, dec, same_truth}
use Rattle.meaning.specs.Order.{Below, up, down, implies, implied, upward, downward}
use Rattle.meaning.specs.Order.{below_trans, below_antisym, below_of_eq, below_top}
use Rattle.meaning.specs.Solution.{Args, Set, mem, least, greatest, fix}
use Rattle.meaning.specs.Sets.{Within}
use Rattle.meaning.proofs.Sets.{all_i, all_e, every_e, every_i, some_i, some_e}
use Rattle.meaning.specs.FixedPoints.{Agree, BelowAll, Closed, Keeps_order, Mono, Ordered, Ordered_on, part}

pub fix_below : (s : Bool) (D : List Args) (F : Set → Set) (S : Set) → Within D S → Closed s D F S →
    Ordered s (fix s D F) S
unfolding least greatest
fix_below false D F S w c x =
    up (λ h. imp_e _ _ (every_e D _ h S w) (all_i D _ (λ y m. imp_i _ _ (implies (c y m)))))
fix_below true D F S w c x =
    down (λ h. some_i D _ S w (and_i (all_i D _ (λ y m. imp_i _ _ (implied (c y m)))) h))

pub fix_above : (s : Bool) (D : List Args) (F : Set → Set) (x : Args) (b : Bool) → BelowAll s D F x b →
    Below s b (fix s D F x)
unfolding least greatest
fix_above false D F x b f = up (λ h.
    every_i D _ (λ S w. imp_i _ _ (λ k. implies (f S w (λ y m. up (imp_e _ _ (all_e D _ k y m)))) h)))
fix_above true D F x b f = down (λ h.
    let r = some_e D _ h in
    implied (f r.0 r.1 (λ y m. down (imp_e _ _ (all_e D _ (and_l _ _ r.2) y m)))) (and_r _ _ r.2))

pub fix_within : (s : Bool) (D : List Args) (F : Set → Set) → Within D (fix s D F)
unfolding greatest
fix_within false D F x h = implies (fix_below false D F (λ y. mem y D) (λ y m. m) (λ y m. up (λ _. m)) x) h
fix_within true D F x h = let r = some_e D _ h in r.1 x (and_r _ _ r.2)

pub mono_to : (s : Bool) (F : Set → Set) → Mono F → (S S' : Set) → Ordered s S S' → Ordered s (F S) (F S')
mono_to false F m S S' h x = m S S' h x
mono_to true F m S S' h x = downward (m S' S (λ y. upward (h y)) x)

pub part_in : (D : List Args) (S : Set) (x : Args) → Is (mem x D) → part D S x ≡ S x
unfolding part
part_in D S x m = true_and (S x) m

pub part_within : (D : List Args) (S : Set) → Within D (part D S)
unfolding part
part_within D S x h = and_l _ _ h

pub part_ordered : (s : Bool) (D : List Args) (S S' : Set) → Ordered s S S' → Ordered s (part D S) (part D S')
unfolding part
part_ordered s D =
    mono_to s (part D) (λ S S' f x. up (λ h. and_i (and_l _ _ h) (implies (f x) (and_r _ _ h))))

-- sets of elements of D are compared on D
pub inside : (s : Bool) (D : List Args) (S S' : Set) → Within D S → Within D S' →
    Ordered_on (λ x. mem x D) s S S' → Ordered s S S'
inside s D S S' w w' f x = ⊎_elim (f x)
    (λ n. below_of_eq s (same_truth _ _ (λ h. absurd (n (w x h))) (λ h. absurd (n (w' x h))))) (dec (mem x D))

module _ (s : Bool) (D : List Args) (F : Set → Set) (m : Mono F) where
  -- the fixed point is closed itself
  pub fix_closed : Closed s D F (fix s D F)
  fix_closed x i =
      fix_above s D F x _ (λ S w c. below_trans (mono_to s F m _ S (fix_below s D F S w c) x) (c x i))

  -- and equals its image
  pub fix_equal : (x : Args) → part D (F (fix s D F)) x ≡ fix s D F x
  fix_equal x = below_antisym (image_below x) (fix_below s D F image (part_within D _) image_closed x)
    where
      image : Set
      image = part D (F (fix s D F))

      image_below : Ordered s image (fix s D F)
      image_below = inside s D _ _ (part_within D _) (fix_within s D F)
          (λ y i. below_trans (below_of_eq s (part_in D _ y i)) (fix_closed y i))

      image_closed : Closed s D F image
      image_closed y i = below_trans (mono_to s F m _ _ image_below y) (below_of_eq s (sym (part_in D _ y i)))

pub least_below_greatest : (D : List Args) (F : Set → Set) → Mono F →
    Ordered false (fix false D F) (fix true D F)
least_below_greatest D F m x = upward (fix_below true D F (fix false D F) (fix_within false D F) closed x)
  where
    closed : Closed true D F (fix false D F)
    closed y i = downward (below_of_eq false (sym (fix_equal false D F m y) ∙ part_in D _ y i))

-- In plain words
module _ (D : List Args) (F : Set → Set) where
  -- the least set lies in every set of elements of D that contains its own image
  pub least_smallest : (S : Set) → Within D S → ((y : Args) → Is (mem y D) → Is (F S y) → Is (S y)) →
      (x : Args) → Is (least D F x) → Is (S x)
  least_smallest S w c x = implies (fix_below false D F S w (λ y i. up (c y i)) x)

  -- the greatest set contains every set of elements of D that is contained in its own image
  pub greatest_largest : (S : Set) → Within D S → ((y : Args) → Is (mem y D) → Is (S y) → Is (F S y)) →
      (x : Args) → Is (S x) → Is (greatest D F x)
  greatest_largest S w c x = implied (fix_below true D F S w (λ y i. down (c y i)) x)

  module _ (m : Mono F) where
    -- the least set contains its own image, the greatest is contained in it
    pub least_closed : (x : Args) → Is (mem x D) → Is (F (least D F) x) → Is (least D F x)
    least_closed x i = implies (fix_closed false D F m x i)

    pub greatest_closed : (x : Args) → Is (mem x D) → Is (greatest D F x) → Is (F (greatest D F) x)
    greatest_closed x i = implied (fix_closed true D F m x i)

    -- and both are fixed points
    pub least_fixed : (x : Args) → Is (mem x D) → F (least D F) x ≡ least D F x
    least_fixed x i = sym (part_in D _ x i) ∙ fix_equal false D F m x

    pub greatest_fixed : (x : Args) → Is (mem x D) → F (greatest D F) x ≡ greatest D F x
    greatest_fixed x i = sym (part_in D _ x i) ∙ fix_equal true D F m x

cond_yes : {b : Bool} (x y : Bool) → Is b → cond b x y ≡ x
cond_yes x y is = refl

cond_no : (b x y : Bool) → (Is b → ⊥) → cond b x y ≡ y
cond_no true x y n = absurd (n is)
cond_no false x y n = refl

module _ (s : Bool) (D D' : List Args) (F F' : Set → Set) (R : Set) where
  -- S on R, and the top elsewhere
  abbrev fill : Set → Set
  fill S x = cond (R x) (S x) (not s)

  fill_on : (S : Set) (x : Args) → Is (R x) → mem x D ≡ mem x D' → Within D' S → part D (fill S) x ≡ S x
  unfolding part
  fill_on S x r e w = same_truth _ _
      (λ h. subst Is (cond_yes (S x) (not s) r) (and_r _ _ h))
      (λ h. and_i (subst Is (sym e) (w x h)) (subst Is (sym (cond_yes (S x) (not s) r)) h))

  fix_compare : Agree R D D' → Keeps_order R s D F F' → Ordered_on R s (fix s D F) (fix s D' F')
  fix_compare e f x r = fix_above s D' F' x _ (λ S w c. below_trans
      (fix_below s D F (part D (fill S)) (part_within D _) (λ y i. closed S w c y i (dec (R y))) x)
      (below_of_eq s (fill_on S x r (e x r) w)))
    where
      closed : (S : Set) → Within D' S → Closed s D' F' S → (y : Args) → Is (mem y D) →
          Is (R y) ⊎ (Is (R y) → ⊥) → Below s (F (part D (fill S)) y) (part D (fill S) y)
      closed S w c y i (inl q) =
          below_trans (f _ S (λ z p. below_of_eq s (fill_on S z p (e z p) w)) y q i)
          (below_trans (c y (subst Is (e y q) i)) (below_of_eq s (sym (fill_on S y q (e y q) w))))
      closed S w c y i (inr n) =
          below_trans (below_top s) (below_of_eq s (sym (part_in D _ y i ∙ cond_no (R y) (S y) (not s) n)))

-- the same in the order of implication, whatever the sign
pub fix_order : (s : Bool) (D D' : List Args) (F F' : Set → Set) (R : Set) → Agree R D D' →
    Keeps_order R false D F F' → Ordered_on R false (fix s D F) (fix s D' F')
fix_order false D D' F F' R e f x r = fix_compare false D D' F F' R e f x r
fix_order true D D' F F' R e f x r = upward (fix_compare true D' D F' F R (λ y q. sym (e y q)) turned x r)
  where
    turned : Keeps_order R true D' F' F
    turned S S' k y q i = downward (f S' S (λ z p. upward (k z p)) y q (subst Is (sym (e y q)) i))
