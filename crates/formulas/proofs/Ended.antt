-- Where a condition and some terms in a row end, as the reader's spans tell it.
-- A span says whether what was read is as it must be, and where it ends; the first bytes of a table are a list.
use Prim.Native.Nat.{ℕ, ◌+◌, ◌≤◌, ◌<◌}
use native.Mathlib.Omega.{arith}
use mathlib.Core.Path.{◌≡◌, refl, sym, ◌∙◌}
use mathlib.Core.Bool.{Bool, true, false, cond, ◌&&◌}
use lib.Dec.{leb}
use mathlib.Core.List.{List, []}
use lib.ListN.{length, take, drop, replicate, length-drop}
use lib.Seq.{length-take-le, get_or-take, get_or-drop, ext_get_or}
use borrow.Author.Tests.{le-leb, lt-leb}
use Rattle.std.specs.Prelude.{None, Some}
use Rattle.meaning.specs.Ranges.{arguments_fit, fits}
use Rattle.meaning.specs.Formulas.{Term, Formula}
use Rattle.formulas.specs.Decode.{Parsed, when, terms_at, formula_at}
use Rattle.formulas.specs.Ends.{place_where, condition_place, terms_place}
use Rattle.formulas.specs.Contract.{part, signatures_from, signatures_in}
use Rattle.formulas.specs.Contract.{Told, refused, told, TermsTold, FormulaTold}
use Rattle.formulas.proofs.Told.{told_when, told_whole}
use Rattle.formulas.proofs.Signatures.{part_length, part_at}

-- ---- a table with no equation, and bytes of a table as a part of the list
pub no_signatures : signatures_in (replicate 41 0) ≡ []
unfolding signatures_from
no_signatures = refl

pub part_taken : (table : List ℕ) (j c : ℕ) → j + c ≤ length table → part table j c ≡ take c (drop j table)
part_taken table j c h =
    ext_get_or 0 (part table j c) (take c (drop j table))
    (part_length table j c ∙ sym (length-take-le c (drop j table) (omega (arith, length-drop j table))))
    (λ i l.
    let m : i < c = rw (← part_length table j c) l in
    part_at table j c i m ∙ sym (get_or-take c (drop j table) i 0 m ∙ get_or-drop j table i 0))

-- ---- the end of what was read
end_found : {A : Type 0} {test : A → Bool} {p : Parsed A} {e : ℕ} {v : Bool} → Told (λ a. v ≡ test a) e p true
    → cond v (Some e) None ≡ place_where test p
end_found {e} (told h) = rw h refl

end_lost : {A : Type 0} {P : A → Type 0} (test : A → Bool) {p : Parsed A} {e : ℕ} → Told P e p false → None ≡ place_where test p
end_lost test refused = refl

module _ (s : List ℕ) (at : ℕ) (rs : List ℕ) where
  pub condition_long : 256 < length s → None ≡ condition_place s at rs
  unfolding condition_place
  condition_long h = rw (lt-leb (length s) 256 h) refl

  pub terms_long : (ranges : List ℕ) → 256 < length s → None ≡ terms_place s at rs ranges
  unfolding terms_place
  terms_long ranges h = rw (lt-leb (length s) 256 h) refl

  module _ (few : length s ≤ 256) {k : ℕ} (size : k ≡ length rs) {e : ℕ} where
    condition_read : {P : Formula → Type 0} {ok : Bool} → FormulaTold s (length s) k 4 at P ok e
        → Told P e (when (leb (length s) 256) (formula_at (length s) s (length rs) 4 at)) ok
    condition_read t =
        told_when _ (le-leb (length s) 256 few) (rw size at (told_whole (omega arith) (t.tells (length s) (omega arith))))

    terms_read : {c n : ℕ} {P : List Term → Type 0} {ok : Bool} → c ≡ n → TermsTold c s k at P ok e
        → Told P e (when (leb (length s) 256) (terms_at (length s) n s (length rs) at)) ok
    terms_read long t = told_when _ (le-leb (length s) 256 few) (rw (size, long) at (t.tells (length s) (omega arith)))

    pub condition_lost : {P : Formula → Type 0} → FormulaTold s (length s) k 4 at P false e → None ≡ condition_place s at rs
    unfolding condition_place
    condition_lost t = end_lost _ (condition_read t)

    pub terms_lost : (ranges : List ℕ) {c : ℕ} {P : List Term → Type 0} → c ≡ length ranges → TermsTold c s k at P false e
        → None ≡ terms_place s at rs ranges
    unfolding terms_place
    terms_lost ranges long t = end_lost _ (terms_read long t)

    module _ {reach : List ℕ} (same : reach ≡ rs) {v : Bool} where
      pub condition_found : FormulaTold s (length s) k 4 at (λ f. v ≡ fits (signatures_in (replicate 41 0)) f reach) true e
          → cond v (Some e) None ≡ condition_place s at rs
      unfolding condition_place
      condition_found t = end_found (condition_read (rw (same, no_signatures) at t))

      pub terms_found : {c : ℕ} {known ranges : List ℕ} → c ≡ length ranges → known ≡ ranges
          → TermsTold c s k at (λ ts. v ≡ true && arguments_fit ts known reach) true e
          → cond v (Some e) None ≡ terms_place s at rs ranges
      unfolding terms_place
      terms_found long part t = end_found (terms_read long (rw (same, part) at t))
