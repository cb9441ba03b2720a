-- ONE REPLY: for each public function two results that its contract allows are equal.
-- Each contract has an equation of the whole result.
use Rattle.std.specs.Prelude.{ℕ, ◌≡◌, Bool, List, get_or, Option}
use Rattle.meaning.specs.OneReply.{one_reply}
use Rattle.meaning.specs.Ranges.{is_range}
use Rattle.formulas.specs.declared.Equation.{Equation}
use Rattle.formulas.specs.declared.Kind.{Kind}
use Rattle.formulas.specs.declared.TermKind.{TermKind}
use Rattle.formulas.specs.declared.Tuple.{Tuple}
use Rattle.formulas.specs.Codes.{kind_of, term_kind_of, operands_of}
use Rattle.formulas.specs.Tuples.{items, Pushes}
use Rattle.formulas.specs.Bodies.{ranges_of, signatures_of, is_body, is_fitting}
use Rattle.formulas.specs.Ends.{condition_place, terms_place}

pub one_kind_of : (code : ℕ) {r s : Option Kind} → r ≡ kind_of code → s ≡ kind_of code → r ≡ s
one_kind_of code = one_reply

pub one_term_kind_of : (code : ℕ) {r s : Option TermKind}
    → r ≡ term_kind_of code → s ≡ term_kind_of code → r ≡ s
one_term_kind_of code = one_reply

pub one_operands_of : (code : ℕ) {r s : ℕ} → r ≡ operands_of code → s ≡ operands_of code → r ≡ s
one_operands_of code = one_reply

pub one_push : (tuple : Tuple) (value : ℕ) {r s : Tuple} → Pushes tuple value r → Pushes tuple value s → r ≡ s
one_push tuple value p q = one_reply p.0 q.0

pub one_item : (tuple : Tuple) (i : ℕ) {r s : ℕ}
    → r ≡ get_or (items tuple) i 0 → s ≡ get_or (items tuple) i 0 → r ≡ s
one_item tuple i = one_reply

pub one_is_range : (r : ℕ) {b c : Bool} → b ≡ is_range r → c ≡ is_range r → b ≡ c
one_is_range r = one_reply

pub one_is_body : (body : List ℕ) (e : Equation) {r s : Bool}
    → r ≡ is_body body (ranges_of e) → s ≡ is_body body (ranges_of e) → r ≡ s
one_is_body body e = one_reply

pub one_is_fitting : (body : List ℕ) (e : Equation) (equations : List Equation) (count : ℕ) {r s : Bool}
    → r ≡ is_fitting (signatures_of equations count) body (ranges_of e)
    → s ≡ is_fitting (signatures_of equations count) body (ranges_of e) → r ≡ s
one_is_fitting body e equations count = one_reply

pub one_condition_end : (body : List ℕ) (at : ℕ) (scope : Tuple) {r s : Option ℕ}
    → r ≡ condition_place body at (items scope) → s ≡ condition_place body at (items scope) → r ≡ s
one_condition_end body at scope = one_reply

pub one_terms_end : (body : List ℕ) (at : ℕ) (scope ranges : Tuple) {r s : Option ℕ}
    → r ≡ terms_place body at (items scope) (items ranges)
    → s ≡ terms_place body at (items scope) (items ranges) → r ≡ s
one_terms_end body at scope ranges = one_reply
