-- The value of a term by the kind of its code, and the variables that were looked at for it.
-- Each law is one step of the definition of what stands at a place of a prepared body.
use Prim.Native.Nat.{ℕ, suc, ◌+◌, ◌-◌, ◌≤◌, ◌<◌}
use native.Mathlib.Omega.{arith}
use mathlib.Core.Path.{◌≡◌, refl, sym, ap, ap₂, ◌∙◌}
use mathlib.Core.Bool.{Bool, true, false}
use mathlib.Core.List.{List, [], ◌∷◌, ◌++◌, append_assoc, append-nil}
use lib.ListN.{get_or}
use Rattle.meaning.specs.Formulas.{Term, calculation, value, values}
use Rattle.meaning.specs.Ranges.{is_range}
use Rattle.formulas.specs.declared.TermKind.{TermKind}
use Rattle.formulas.specs.declared.TermKind.TheVariants.{Number, Variable, Calculation}
use Rattle.formulas.specs.Codes.{term_kind_of}
use Rattle.formulas.specs.Tuples.{items}
use Rattle.looked.specs.Looked.{only, both, looked_term, looked_terms}
use Rattle.prepared.specs.Prepared.{byte_at, end_at, term_by, terms_by, term_there, terms_there}
use Rattle.prepared.proofs.Steps.{term_step, term_past}
use Rattle.formulas.specs.declared.Tuple.{Tuple}
use Rattle.std.proofs.Common.{Option, Some, None}
use Rattle.looked.specs.declared.Looked.{Looked}
use Rattle.looked.specs.Alone.{alone}
use Rattle.evaluator.specs.Replies.{TermValued, TermsValued}

-- behind the places of a body stands the number 0
pub past_term : (p : List ℕ) (at : ℕ) {v : List ℕ} → 256 ≤ at → TermValued (term_there p at) v (alone 0)
unfolding value looked_term
past_term p at l = rw (term_past p at l) (record { value = refl; looked = refl })

-- what is read of a term: its code's kind, or that it has none
pub record TermHead (p : List ℕ) (at : ℕ) (kind : Option TermKind) : Type 0 where
  pub inside : at < 256
  pub named : term_kind_of (byte_at p at) ≡ kind

pub head : {p : List ℕ} {at code : ℕ} {found kind : Option TermKind} → at < 256 → code ≡ byte_at p at
    → found ≡ term_kind_of code → found ≡ kind → TermHead p at kind
head l c k e = record { inside = l; named = ap term_kind_of (sym c) ∙ sym k ∙ e }

pub no_term : {p : List ℕ} {at : ℕ} {v : List ℕ} → TermHead p at None → TermValued (term_there p at) v (alone 0)
unfolding value looked_term term_by
no_term {p} {at} h = rw (term_step p at h.inside, h.named) (record { value = refl; looked = refl })

-- the byte behind the code is x
module _ {p : List ℕ} {at x : ℕ} {kind : TermKind} (h : TermHead p at (Some kind)) (byte : x ≡ byte_at p (at + 1))
    {v : List ℕ} where
  pub a_number : kind ≡ Number → TermValued (term_there p at) v (alone x)
  unfolding value looked_term term_by
  a_number t = rw (term_step p at h.inside, h.named, t) (record { value = byte; looked = refl })

  pub a_variable : {y set : ℕ} → kind ≡ Variable → y ≡ get_or v x 0 → set ≡ only x
      → TermValued (term_there p at) v (record { value = y; looked = set })
  unfolding value looked_term term_by
  a_variable t e s = rw (term_step p at h.inside, h.named, t, ← byte) (record { value = e; looked = s })

  module _ {plus : Bool} (t : kind ≡ Calculation plus) where
    pub no_range : is_range x ≡ false → TermValued (term_there p at) v (alone 0)
    unfolding value looked_term term_by
    no_range n =
        rw (term_step p at h.inside, h.named, t, ← byte, n) (record { value = refl; looked = refl })

    pub a_calculation : {m y set : ℕ} {a b : Looked ℕ} → is_range x ≡ true → m ≡ end_at p (at + 2)
        → TermValued (term_there p (at + 2)) v a → TermValued (term_there p m) v b
        → y ≡ calculation plus x a.value b.value → set ≡ both a.looked b.looked
        → TermValued (term_there p at) v (record { value = y; looked = set })
    unfolding value looked_term term_by
    a_calculation r e f g c s =
        rw (term_step p at h.inside, h.named, t, ← byte, r, ← e) (record {
          value = c ∙ ap₂ (calculation plus x) f.value g.value;
          looked = s ∙ ap₂ both f.looked g.looked;
        })

-- ---- terms in a row, put after those that are there
pub no_terms : (p : List ℕ) {c : ℕ} (at : ℕ) {v : List ℕ} (got : Looked Tuple) → c ≡ 0
    → TermsValued (terms_there p c at) v got got
unfolding terms_by looked_terms
no_terms p at got z = rw z (record { values = sym (append-nil (items got.value)); looked = refl })

pub one_more : (p : List ℕ) (c at : ℕ) {m : ℕ} {v : List ℕ} {got more r : Looked Tuple} {a : Looked ℕ} → 0 < c → m ≡ end_at p at
    → TermValued (term_there p at) v a → items more.value ≡ items got.value ++ (a.value ∷ [])
    → more.looked ≡ both got.looked a.looked → TermsValued (terms_there p (c - 1) m) v more r
    → TermsValued (terms_there p c at) v got r
unfolding terms_by looked_terms
one_more p c at {v = v} {got = got} l e f i s t =
    let n : c ≡ suc (c - 1) = omega arith in
    let rest = ap (λ (m : ℕ). terms_there p (c - 1) m) e in
    rw n (record {
      values = t.values
          ∙ ap₂ (λ (l : List ℕ) (ts : List Term). l ++ values ts v)
          (i ∙ ap (λ (x : ℕ). items got.value ++ (x ∷ [])) f.value) rest
          ∙ append_assoc (items got.value) _ _;
      looked = t.looked ∙ ap₂ looked_terms (s ∙ ap (both got.looked) f.looked) rest;
    })
