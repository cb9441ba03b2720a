-- A condition or a term with terms in place of its variables, code by code.
-- A variable is the term in its place; every other code stays or is negated, and the items inside follow it.
use Prim.Native.Nat.{ℕ, ◌+◌, ◌<◌}
use native.Mathlib.Omega.{arith}
use mathlib.Core.Path.{◌≡◌, refl, sym, ap}
use mathlib.Core.Bool.{Bool, true, false}
use mathlib.Core.List.{List, [], ◌∷◌, ◌++◌, append-nil}
use lib.ListN.{get_or}
use borrow.Author.Tests.{ltb-true, lt-ltb}
use Rattle.meaning.specs.Logic.{Is, is, never, ◌and◌, and_l, and_r, and_i, Is→eq}
use Rattle.meaning.specs.Formulas.{Term, number, variable, calculated, equal, less, unequal, not_less}
use Rattle.meaning.specs.Formulas.{constant, joined, quantified, compared, instance}
use Rattle.meaning.specs.Ranges.{is_range, sound_term, sound}
use Rattle.spelling.specs.Spelled.{either_code, test_code, spelled, spelled_term}
use Rattle.spelling.specs.Stands.{Stands, first, after_one}
use Rattle.translation.specs.Rules.{plain}
use Rattle.translation.specs.Translation.{substituted_term, substituted, negated, opposite, guard}
use Rattle.scans.specs.Items.{Item, condition, term, plain_item, items_in}
use Rattle.scans.proofs.Spelled.{opened}
use Rattle.scans.proofs.ScannedItems.{item_code, item_operands}
use Rattle.sides.specs.Steps.{item_after, items_after, sound_item, flipped}
use Rattle.sides.specs.Told.{code_bytes}

-- ---- items in reach
unfoldable pub sound_items : ℕ → List Item → Bool
sound_items k [] = true
sound_items k (i ∷ js) = sound_item k i and sound_items k js

pub sound_alone : (k : ℕ) (i : Item) → Is (sound_item k i) → Is (sound_items k (i ∷ []))
unfolding sound_items
sound_alone k i h = and_i h is

two_sound : (a b c : Bool) → Is ((a and b) and c) → Is (a and (b and c))
two_sound a b c h =
    let both = and_l (a and b) c h in
    and_i (and_l a b both) (and_i (and_r a b both) (and_r (a and b) c h))

pub sound_inside : (k : ℕ) (i : Item) (js : List Item) → Is (sound_items k (i ∷ js))
    → Is (sound_items k (items_in i ++ js))
unfolding sound_items items_in sound sound_term
sound_inside k (condition (constant b)) js h = and_r _ _ h
sound_inside k (condition (joined all f g)) js h = two_sound (sound k 0 f) (sound k 0 g) (sound_items k js) h
sound_inside k (condition (quantified all r f)) js h = and_r _ _ h
sound_inside k (condition (compared t a b)) js h =
    two_sound (sound_term k a) (sound_term k b) (sound_items k js) h
sound_inside k (condition (instance e ts)) js h = and_r _ _ h
sound_inside k (term (number v)) js h = and_r _ _ h
sound_inside k (term (variable x)) js h = and_r _ _ h
sound_inside k (term (calculated plus r a b)) js h =
    let whole = and_l (is_range r and sound_term k a and sound_term k b) (sound_items k js) h in
    let first = and_l (is_range r and sound_term k a) (sound_term k b) whole in
    and_i (and_r (is_range r) (sound_term k a) first) (and_i (and_r (is_range r and sound_term k a) (sound_term k b) whole)
    (and_r (is_range r and sound_term k a and sound_term k b) (sound_items k js) h))

-- ---- what is put for an item before the items inside it
unfoldable pub own_put : List Term → Bool → Item → List ℕ
own_put σ flip (condition f) = flipped flip (item_code (condition f)) ∷ []
own_put σ flip (term (number v)) = 0x20 ∷ v ∷ []
own_put σ flip (term (variable x)) = spelled_term (get_or σ x (number 0))
own_put σ flip (term (calculated plus r a b)) = either_code plus 0x22 0x23 ∷ r ∷ []

-- a byte and two items
two : (σ : List Term) (flip : Bool) (b : ℕ) (i j : Item)
    → b ∷ (item_after σ flip i ++ item_after σ flip j) ≡ b ∷ items_after σ flip (i ∷ j ∷ [])
unfolding items_after
two σ flip b i j = ap (λ (l : List ℕ). b ∷ (item_after σ flip i ++ l)) (sym (append-nil (item_after σ flip j)))

item_put : (σ : List Term) (flip : Bool) (i : Item) → Is (plain_item i)
    → item_after σ flip i ≡ own_put σ flip i ++ items_after σ flip (items_in i)
unfolding item_after items_after items_in own_put plain guard negated opposite substituted substituted_term spelled
    spelled_term flipped item_code either_code test_code
item_put σ true (condition (constant true)) p = refl
item_put σ true (condition (constant false)) p = refl
item_put σ false (condition (constant b)) p = refl
item_put σ true (condition (joined true f g)) p = two σ true 0x13 (condition f) (condition g)
item_put σ true (condition (joined false f g)) p = two σ true 0x12 (condition f) (condition g)
item_put σ false (condition (joined all f g)) p = two σ false (either_code all 0x12 0x13) (condition f) (condition g)
item_put σ flip (condition (quantified all r f)) p = never p
item_put σ true (condition (compared equal a b)) p = two σ true 0x18 (term a) (term b)
item_put σ true (condition (compared less a b)) p = two σ true 0x19 (term a) (term b)
item_put σ true (condition (compared unequal a b)) p = two σ true 0x16 (term a) (term b)
item_put σ true (condition (compared not_less a b)) p = two σ true 0x17 (term a) (term b)
item_put σ false (condition (compared t a b)) p = two σ false (test_code t) (term a) (term b)
item_put σ flip (condition (instance e ts)) p = never p
item_put σ flip (term (number v)) p = refl
item_put σ flip (term (variable x)) p = sym (append-nil _)
item_put σ flip (term (calculated plus r a b)) p =
    ap (◌∷◌ (either_code plus 0x22 0x23)) (two σ flip r (term a) (term b))

pub items_put : (σ : List Term) (flip : Bool) (i : Item) (js : List Item) → Is (plain_item i)
    → items_after σ flip (i ∷ js) ≡ own_put σ flip i ++ items_after σ flip (items_in i ++ js)
unfolding items_after
items_put σ flip i js p = opened (item_after σ flip) (items_after σ flip) refl (λ h hs. refl) i js (own_put σ flip i)
    (items_in i) (item_put σ flip i p)

-- ---- by the code that stands there, and the byte behind it
flipped_term : (flip : Bool) (code : ℕ) → flipped true code ≡ code → flipped flip code ≡ code
unfolding flipped
flipped_term true code e = e
flipped_term false code e = refl

flipped_low : (flip : Bool) (code x : ℕ) → code < 0x20 → flipped true code < 0x20
    → code_bytes (flipped flip code) x ≡ flipped flip code ∷ []
unfolding flipped
flipped_low true code x h l = rw (lt-ltb (flipped true code) 0x20 l) refl
flipped_low false code x h l = rw (lt-ltb code 0x20 h) refl

abbrev operand : List ℕ → ℕ → ℕ
operand s at = get_or s (at + 1) 0

module _ (s : List ℕ) (at : ℕ) (σ : List Term) (flip : Bool) where
  pub other_put : (i : Item) (w : List ℕ) → Is (plain_item i) → Stands s at (item_code i ∷ (item_operands i ++ w))
      → (item_code i ≡ 0x21 → ⊥) → code_bytes (flipped flip (item_code i)) (operand s at) ≡ own_put σ flip i
  unfolding item_code item_operands own_put either_code test_code plain flipped
  other_put (condition (constant true)) w p h n = flipped_low flip 0x11 _ (omega arith) (omega arith)
  other_put (condition (constant false)) w p h n = flipped_low flip 0x10 _ (omega arith) (omega arith)
  other_put (condition (joined true f g)) w p h n = flipped_low flip 0x12 _ (omega arith) (omega arith)
  other_put (condition (joined false f g)) w p h n = flipped_low flip 0x13 _ (omega arith) (omega arith)
  other_put (condition (quantified all r f)) w p h n = never p
  other_put (condition (compared equal a b)) w p h n = flipped_low flip 0x16 _ (omega arith) (omega arith)
  other_put (condition (compared less a b)) w p h n = flipped_low flip 0x17 _ (omega arith) (omega arith)
  other_put (condition (compared unequal a b)) w p h n = flipped_low flip 0x18 _ (omega arith) (omega arith)
  other_put (condition (compared not_less a b)) w p h n = flipped_low flip 0x19 _ (omega arith) (omega arith)
  other_put (condition (instance e ts)) w p h n = never p
  other_put (term (number v)) w p h n =
      rw (flipped_term flip 0x20 refl, first s (at + 1) v w (after_one s at 0x20 (v ∷ w) h)) refl
  other_put (term (variable x)) w p h n = absurd (n refl)
  other_put (term (calculated true r a b)) w p h n =
      rw (flipped_term flip 0x22 refl, first s (at + 1) r w (after_one s at 0x22 (r ∷ w) h)) refl
  other_put (term (calculated false r a b)) w p h n =
      rw (flipped_term flip 0x23 refl, first s (at + 1) r w (after_one s at 0x23 (r ∷ w) h)) refl

  pub variable_put : (k : ℕ) (i : Item) (w : List ℕ) → Is (plain_item i) → Is (sound_item k i)
      → Stands s at (item_code i ∷ (item_operands i ++ w)) → item_code i ≡ 0x21
      → (operand s at < k) × (spelled_term (get_or σ (operand s at) (number 0)) ≡ own_put σ flip i)
  unfolding item_code item_operands own_put either_code test_code plain sound_term
  variable_put k (condition (constant true)) w p l h e = absurd (omega (arith, e))
  variable_put k (condition (constant false)) w p l h e = absurd (omega (arith, e))
  variable_put k (condition (joined true f g)) w p l h e = absurd (omega (arith, e))
  variable_put k (condition (joined false f g)) w p l h e = absurd (omega (arith, e))
  variable_put k (condition (quantified all r f)) w p l h e = never p
  variable_put k (condition (compared equal a b)) w p l h e = absurd (omega (arith, e))
  variable_put k (condition (compared less a b)) w p l h e = absurd (omega (arith, e))
  variable_put k (condition (compared unequal a b)) w p l h e = absurd (omega (arith, e))
  variable_put k (condition (compared not_less a b)) w p l h e = absurd (omega (arith, e))
  variable_put k (condition (instance e' ts)) w p l h e = never p
  variable_put k (term (number v)) w p l h e = absurd (omega (arith, e))
  variable_put k (term (variable x)) w p l h e =
      let there = first s (at + 1) x w (after_one s at 0x21 (x ∷ w) h) in
      (rw there (ltb-true x k (Is→eq l)), rw there refl)
  variable_put k (term (calculated true r a b)) w p l h e = absurd (omega (arith, e))
  variable_put k (term (calculated false r a b)) w p l h e = absurd (omega (arith, e))
