-- Whether the arguments of an instance fit, as the reader finds it: one by one, against bytes of the table of signatures.
-- Arguments that are more or fewer than the parameters don't fit.
use Prim.Native.Nat.{ℕ, suc, ◌+◌, ◌-◌, ◌*◌, ◌≤◌, ◌<◌}
use native.Mathlib.Omega.{arith}
use mathlib.Core.Path.{◌≡◌, refl, sym, ap, ◌∙◌}
use mathlib.Core.Logic.{◌≢◌}
use mathlib.Core.Bool.{Bool, true, false, ◌&&◌}
use mathlib.Core.List.{List, [], ◌∷◌}
use lib.Dec.{eqb, ltb, leb}
use lib.ListN.{length, get_or}
use borrow.Author.Tests.{eqb-true, eqb-false, ltb-true}
use Rattle.meaning.specs.Logic.{◌and◌, and-false}
use Rattle.meaning.specs.Formulas.{Term, instance}
use Rattle.meaning.specs.Ranges.{term_range, arguments_fit, fits}
use Rattle.formulas.specs.Contract.{part, signature_in, signatures_in, TermTold, TermsTold}
use Rattle.formulas.proofs.ByKind.{terms_none, terms_stop, terms_more, terms_map}
use Rattle.formulas.proofs.Signatures.{part_length, known_length, known_at}

-- both parts of a join fit where the first does and the second does; where the first doesn't, the join doesn't
module _ {a x : Bool} where
  pub then_second : {b y : Bool} → a ≡ true → a ≡ x → b ≡ y → b ≡ x and y
  unfolding ◌and◌
  then_second h p q = rw (← p, h) q

  pub not_first : (y : Bool) → a ≡ false → a ≡ x → a ≡ x and y
  unfolding ◌and◌
  not_first y h p = rw (← p, h) refl

-- ---- one by one: `before` is whether all before fits, and the parameters' ranges stand from j on
all_fit : (b : Bool) → b ≡ b && true
all_fit true = refl
all_fit false = refl

next_fits : (b f r : Bool) → (b && f) && r ≡ b && (f and r)
unfolding ◌and◌
next_fits true true r = refl
next_fits true false r = refl
next_fits false f r = refl

module _ (before : Bool) (table : List ℕ) (j : ℕ) (rs : List ℕ) {c : ℕ} where
  pub no_arguments : c ≡ 0 → before ≡ before && arguments_fit [] (part table j c) rs
  unfolding part arguments_fit
  no_arguments h = rw h (all_fit before)

  pub next_argument : 0 < c → {fit v : Bool} {x : ℕ} (t : Term) (ts : List Term) → x ≡ term_range t rs
      → fit ≡ before && leb x (get_or table j 0) → v ≡ fit && arguments_fit ts (part table (j + 1) (c - 1)) rs
      → v ≡ before && arguments_fit (t ∷ ts) (part table j c) rs
  unfolding part arguments_fit
  next_argument h t ts x f r =
      let more : c ≡ suc (c - 1) = omega arith in
      rw more (r ∙ rw (f, x) (next_fits before _ _))

-- c arguments from `at` on, that are read up to `next` and compared up to byte j: what is told of those that are
-- left is told of all
pub record Arguments (s : List ℕ) (k at c : ℕ) (table : List ℕ) (first : ℕ) (fits : Bool) (rs : List ℕ)
    (next j : ℕ) (found : Bool) : Type 0 where
  pub whole : {ok : Bool} {e : ℕ} (v : Bool)
      → TermsTold (first + c - j) s k next (λ ts. v ≡ found && arguments_fit ts (part table j (first + c - j)) rs) ok e
      → TermsTold c s k at (λ ts. v ≡ fits && arguments_fit ts (part table first c) rs) ok e

module _ {s : List ℕ} {k at c : ℕ} {table : List ℕ} {first : ℕ} {fits : Bool} {rs : List ℕ} where
  pub arguments_start : Arguments s k at c table first fits rs at first fits
  arguments_start = record {
    whole = λ v t. let all : first + c - first ≡ c = omega arith in rw all at t;
  }

  module _ {next j : ℕ} {found : Bool} (a : Arguments s k at c table first fits rs next j found) where
    pub arguments_stop : {m e : ℕ} {P : Term → Type 0} → j < first + c → TermTold s k next P false m
        → TermsTold c s k at (λ ts. Unit) false e
    arguments_stop inside t =
        terms_map (a.whole true (terms_stop (omega arith) t)) (λ _ _. tt)

    pub arguments_more : {x m : ℕ} {fit : Bool} → j < first + c → TermTold s k next (λ t. x ≡ term_range t rs) true m
        → fit ≡ found && leb x (get_or table j 0) → Arguments s k at c table first fits rs m (j + 1) fit
    arguments_more inside t f = record {
      whole = λ v rest.
          let less : first + c - (j + 1) ≡ first + c - j - 1 = omega arith in
          a.whole v (terms_more (omega arith) t (rw less at rest)
          (λ x ts r. next_argument found table j rs (omega arith) x ts r f));
    }

    pub arguments_end : first + c ≤ j
        → TermsTold c s k at (λ ts. found ≡ fits && arguments_fit ts (part table first c) rs) true next
    arguments_end done =
        a.whole found (terms_none (omega arith) (no_arguments found table j rs (omega arith)))

-- ---- as many as parameters, and of an equation that there is
wrong_number : (ts : List Term) (ps rs : List ℕ) → length ts ≢ length ps → arguments_fit ts ps rs ≡ false
unfolding arguments_fit
wrong_number [] [] rs h = absurd (h refl)
wrong_number [] (p ∷ ps) rs h = refl
wrong_number (t ∷ ts) [] rs h = refl
wrong_number (t ∷ ts) (p ∷ ps) rs h = rw (wrong_number ts ps rs (λ e. h (ap suc e))) (and-false _)

module _ (table : List ℕ) (x : ℕ) (ts : List Term) (rs : List ℕ) {c : ℕ} (long : length ts ≡ c) where
  same_number : (b : Bool) → eqb c (get_or table (5 * x + 4) 0) ≡ b
      → b && arguments_fit ts (part table (5 * x) c) rs ≡ arguments_fit ts (signature_in table x) rs
  same_number true h = rw (eqb-true c _ h) refl
  same_number false h =
      sym (wrong_number ts (signature_in table x) rs (λ e.
      eqb-false c _ h (sym long ∙ e ∙ part_length table (5 * x) (get_or table (5 * x + 4) 0))))

  pub named_fits : (b : Bool) → ltb x (get_or table 40 0) ≡ b
      → (b && eqb c (get_or table (5 * x + 4) 0)) && arguments_fit ts (part table (5 * x) c) rs
      ≡ fits (signatures_in table) (instance x ts) rs
  unfolding fits ◌and◌
  named_fits true h =
      rw (known_length table, h, known_at table x (ltb-true x _ h)) (same_number (eqb c (get_or table (5 * x + 4) 0)) refl)
  named_fits false h = rw (known_length table, h) refl
