-- Conditions and terms that stand one after the other, gone through code by code.
-- The first one's code says its width and how many items follow; behind it stand those, then the others.
use Prim.Native.Nat.{ℕ, suc, ◌+◌, ◌≤◌}
use native.Mathlib.Omega.{arith}
use mathlib.Core.Path.{◌≡◌, refl, sym, ap, subst}
use mathlib.Core.Bool.{Bool, true, false, cond}
use mathlib.Core.List.{List, [], ◌∷◌, ◌++◌, append-nil}
use lib.Dec.{eqb, ltb}
use lib.ListN.{length, length-append, get_or}
use Rattle.meaning.specs.Logic.{Is, is, never, ◌and◌, and_l, and_r, and_i, cases}
use Rattle.meaning.specs.Formulas.{number, variable, calculated, equal, less, unequal, not_less}
use Rattle.meaning.specs.Formulas.{constant, joined, quantified, compared, instance}
use Rattle.spelling.specs.Spelled.{either_code, test_code, spelled, spelled_term}
use Rattle.spelling.specs.Stands.{Stands, first, right_part, moved}
use Rattle.translation.specs.Rules.{plain}
use Rattle.scans.specs.Items.{Item, condition, term, plain_item, spelled_item, spelled_items, items_in}
use Rattle.scans.specs.Items.{part_parts, part_width}
use Rattle.scans.proofs.Spelled.{opened}

unfoldable pub plain_items : List Item → Bool
plain_items [] = true
plain_items (i ∷ js) = plain_item i and plain_items js

-- the code of an item, and what stands between it and the items inside
unfoldable pub item_code : Item → ℕ
item_code (condition (constant b)) = either_code b 0x11 0x10
item_code (condition (joined all f g)) = either_code all 0x12 0x13
item_code (condition (quantified all r f)) = either_code all 0x14 0x15
item_code (condition (compared t a b)) = test_code t
item_code (condition (instance e ts)) = 0x1a
item_code (term (number v)) = 0x20
item_code (term (variable i)) = 0x21
item_code (term (calculated plus r a b)) = either_code plus 0x22 0x23

unfoldable pub item_operands : Item → List ℕ
item_operands (condition f) = []
item_operands (term (number v)) = v ∷ []
item_operands (term (variable i)) = i ∷ []
item_operands (term (calculated plus r a b)) = r ∷ []

abbrev own_bytes : Item → List ℕ
own_bytes i = item_code i ∷ item_operands i

module _ (l : List ℕ) where
  last_part : (m : List ℕ) → m ++ l ≡ m ++ (l ++ [])
  last_part m = ap (λ (x : List ℕ). m ++ x) (sym (append-nil l))

item_opened : (i : Item) → Is (plain_item i) → spelled_item i ≡ own_bytes i ++ spelled_items (items_in i)
unfolding spelled_item spelled_items spelled spelled_term items_in item_code item_operands plain
item_opened (condition (constant b)) p = refl
item_opened (condition (joined all f g)) p =
    ap (λ (l : List ℕ). either_code all 0x12 0x13 ∷ l) (last_part (spelled g) (spelled f))
item_opened (condition (quantified all r f)) p = never p
item_opened (condition (compared t a b)) p =
    ap (λ (l : List ℕ). test_code t ∷ l) (last_part (spelled_term b) (spelled_term a))
item_opened (condition (instance e ts)) p = never p
item_opened (term (number v)) p = refl
item_opened (term (variable i)) p = refl
item_opened (term (calculated plus r a b)) p =
    ap (λ (l : List ℕ). either_code plus 0x22 0x23 ∷ r ∷ l) (last_part (spelled_term b) (spelled_term a))

items_opened : (i : Item) (js : List Item) → Is (plain_item i)
    → spelled_items (i ∷ js) ≡ own_bytes i ++ spelled_items (items_in i ++ js)
unfolding spelled_items
items_opened i js p =
    opened spelled_item spelled_items refl (λ h hs. refl) i js (own_bytes i) (items_in i) (item_opened i p)

-- ---- what the code says
code_told : (i : Item) → Is (plain_item i)
    → (part_parts (item_code i) ≡ length (items_in i)) × (part_width (item_code i) ≡ length (own_bytes i))
unfolding part_parts part_width items_in item_code item_operands either_code test_code plain
code_told (condition (constant true)) p = (refl, refl)
code_told (condition (constant false)) p = (refl, refl)
code_told (condition (joined true f g)) p = (refl, refl)
code_told (condition (joined false f g)) p = (refl, refl)
code_told (condition (quantified all r f)) p = never p
code_told (condition (compared equal a b)) p = (refl, refl)
code_told (condition (compared less a b)) p = (refl, refl)
code_told (condition (compared unequal a b)) p = (refl, refl)
code_told (condition (compared not_less a b)) p = (refl, refl)
code_told (condition (instance e ts)) p = never p
code_told (term (number v)) p = (refl, refl)
code_told (term (variable i)) p = (refl, refl)
code_told (term (calculated true r a b)) p = (refl, refl)
code_told (term (calculated false r a b)) p = (refl, refl)

-- what stands inside a plain item is plain
plain_inside : (i : Item) (js : List Item) → Is (plain_items (i ∷ js)) → Is (plain_items (items_in i ++ js))
unfolding plain_items items_in plain
plain_inside (condition (constant b)) js p = and_r _ _ p
plain_inside (condition (joined all f g)) js p =
    let both = and_l (plain f and plain g) _ p in
    and_i (and_l _ _ both) (and_i (and_r (plain f) _ both) (and_r (plain f and plain g) _ p))
plain_inside (condition (quantified all r f)) js p = and_r _ _ p
plain_inside (condition (compared t a b)) js p = and_i is (and_i is (and_r true _ p))
plain_inside (condition (instance e ts)) js p = and_r _ _ p
plain_inside (term (number v)) js p = and_r _ _ p
plain_inside (term (variable i)) js p = and_r _ _ p
plain_inside (term (calculated plus r a b)) js p = and_i is (and_i is (and_r true _ p))

-- ---- a turn: what is known where plain items stand at a place, and there is one
pub record ItemTurn (s : List ℕ) (at : ℕ) (i : Item) (js : List Item) : Type 0 where
  pub own : Stands s at (item_code i ∷ (item_operands i ++ spelled_items (items_in i ++ js)))
  pub code : get_or s at 0 ≡ item_code i
  pub parts : part_parts (item_code i) ≡ length (items_in i)
  pub width : part_width (item_code i) ≡ suc (length (item_operands i))
  pub size : length (spelled_items (i ∷ js)) ≡ part_width (item_code i) + length (spelled_items (items_in i ++ js))
  pub rest : Stands s (at + part_width (item_code i)) (spelled_items (items_in i ++ js))
  pub plain_rest : Is (plain_items (items_in i ++ js))

pub item_turn : (s : List ℕ) (at : ℕ) (i : Item) (js : List Item) → Is (plain_items (i ∷ js))
    → Stands s at (spelled_items (i ∷ js)) → ItemTurn s at i js
unfolding plain_items
item_turn s at i js p h =
    let first_plain = and_l (plain_item i) (plain_items js) p in
    let behind = spelled_items (items_in i ++ js) in
    let whole = items_opened i js first_plain in
    let own = subst (Stands s at) whole h in
    let told = code_told i first_plain in
    let end : at + length (own_bytes i) ≡ at + part_width (item_code i) = omega (arith, told.1) in
    record {
      own = own;
      code = first s at (item_code i) (item_operands i ++ behind) own;
      parts = told.0;
      width = told.1;
      size = omega (arith, ap length whole, length-append (own_bytes i) behind, told.1);
      rest = moved s _ _ behind end (right_part s at (own_bytes i) behind own);
      plain_rest = plain_inside i js p;
    }

-- an item alone
pub item_alone : (i : Item) → spelled_items (i ∷ []) ≡ spelled_item i
unfolding spelled_items
item_alone i = append-nil (spelled_item i)

pub plain_alone : (i : Item) → Is (plain_item i) → Is (plain_items (i ∷ []))
unfolding plain_items
plain_alone i p = and_i p is

-- ---- what is known of any code
pub part_width_small : (code : ℕ) → (1 ≤ part_width code) × (part_width code ≤ 2)
unfolding part_width
part_width_small code = cases (ltb code 0x20) (λ e. rw e (omega arith, omega arith)) (λ e. rw e (omega arith, omega arith))

pub part_parts_few : (code : ℕ) → part_parts code ≤ 2
unfolding part_parts
part_parts_few code =
    none_or (eqb code 0x10) (none_or (eqb code 0x11) (none_or (eqb code 0x20) (none_or (eqb code 0x21) (omega arith))))
  where
    none_or : (b : Bool) {n : ℕ} → n ≤ 2 → cond b 0 n ≤ 2
    none_or true h = omega arith
    none_or false h = h
