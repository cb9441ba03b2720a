-- Things that stand one after the other, each spelled as some bytes of its own and then the things inside it.
-- Behind the bytes of its own stand the things inside the first and then the others.
use Prim.Native.Nat.{ℕ}
use mathlib.Core.Path.{◌≡◌, sym, ap, ◌∙◌}
use mathlib.Core.List.{List, [], ◌∷◌, ◌++◌, append_assoc}

module _ {T : Type 0} (spelled : T → List ℕ) (all : List T → List ℕ) (none : all [] ≡ [])
    (one : (t : T) (ts : List T) → all (t ∷ ts) ≡ spelled t ++ all ts) where
  all_append : (us ts : List T) → all (us ++ ts) ≡ all us ++ all ts
  all_append [] ts = ap (λ (l : List ℕ). l ++ all ts) (sym none)
  all_append (u ∷ us) ts =
      one u (us ++ ts) ∙ ap (λ (l : List ℕ). spelled u ++ l) (all_append us ts) ∙
      sym (append_assoc (spelled u) (all us) (all ts)) ∙ ap (λ (l : List ℕ). l ++ all ts) (sym (one u us))

  -- the first thing: its own bytes, and the things inside it
  pub opened : (t : T) (ts : List T) (own : List ℕ) (inside : List T) → spelled t ≡ own ++ all inside
      → all (t ∷ ts) ≡ own ++ all (inside ++ ts)
  opened t ts own inside e =
      one t ts ∙ ap (λ (l : List ℕ). l ++ all ts) e ∙ append_assoc own (all inside) (all ts) ∙
      ap (λ (l : List ℕ). own ++ l) (sym (all_append inside ts))
