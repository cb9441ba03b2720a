-- Conditions and terms, code after code: how many bytes a code takes, and how many parts follow it.
-- A condition or a term is an item; what follows its code are the spelled items inside it.
use Rattle.std.specs.Prelude.{ℕ, Bool, true, cond, List, [], ◌∷◌, ◌++◌, eqb, ltb}
use Rattle.meaning.specs.Formulas.{Term, number, variable, calculated}
use Rattle.meaning.specs.Formulas.{Formula, constant, joined, quantified, compared, instance}
use Rattle.spelling.specs.Spelled.{spelled, spelled_term}
use Rattle.translation.specs.Rules.{plain}

pub data Item : Type 0 where
  condition : Formula → Item
  term : Term → Item

-- "a formula of 01 without instances or quantifiers", or a term
abbrev pub plain_item : Item → Bool
plain_item (condition f) = plain f
plain_item (term t) = true

unfoldable pub spelled_item : Item → List ℕ
spelled_item (condition f) = spelled f
spelled_item (term t) = spelled_term t

unfoldable pub spelled_items : List Item → List ℕ
spelled_items [] = []
spelled_items (i ∷ is) = spelled_item i ++ spelled_items is

-- the items inside one: those of a plain condition and of a term
unfoldable pub items_in : Item → List Item
items_in (condition (constant b)) = []
items_in (condition (joined all f g)) = condition f ∷ condition g ∷ []
items_in (condition (quantified all r f)) = []
items_in (condition (compared t a b)) = term a ∷ term b ∷ []
items_in (condition (instance e ts)) = []
items_in (term (number n)) = []
items_in (term (variable i)) = []
items_in (term (calculated plus r a b)) = term a ∷ term b ∷ []

-- `10`, `11`, `20` and `21` have no parts, every other code of a plain condition and of a term has two
unfoldable pub part_parts : ℕ → ℕ
part_parts code =
    cond (eqb code 0x10) 0 (cond (eqb code 0x11) 0 (cond (eqb code 0x20) 0 (cond (eqb code 0x21) 0 2)))

unfoldable pub part_width : ℕ → ℕ
part_width code = cond (ltb code 0x20) 1 2
