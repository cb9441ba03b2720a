-- What `same` and `mem` say of lists of arguments and of instances, and lists in which nothing stands twice.
-- Each law follows the list that it speaks of.
use Rattle.std.specs.Prelude.{ℕ, ◌≡◌, refl, List, [], ◌∷◌, ◌++◌, map, ◌⊎◌}
use Rattle.std.proofs.Common.{ap₂, inl, inr, ⊎_elim, eqb→eq}
use Rattle.std.proofs.Math.Dec.{eqb_refl}
use Rattle.meaning.specs.Logic.{Is, is, never, Is→T, T→Is}
use Rattle.meaning.specs.Logic.{and_l, and_r, and_i, or_l, or_r, or_e}
use Rattle.meaning.specs.Solution.{Args, same, mem}
use Rattle.meaning.specs.Members.{Once}

pub same_eq : (x y : Args) → Is (same x y) → x ≡ y
unfolding same
same_eq [] [] h = refl
same_eq [] (b ∷ y) h = never h
same_eq (a ∷ x) [] h = never h
same_eq (a ∷ x) (b ∷ y) h = ap₂ ◌∷◌ (eqb→eq a b (Is→T (and_l _ _ h))) (same_eq x y (and_r _ _ h))

pub same_refl : (x : Args) → Is (same x x)
unfolding same
same_refl [] = is
same_refl (a ∷ x) = and_i (T→Is _ (eqb_refl a)) (same_refl x)

pub mem_head : (i : Args) (l : List Args) → Is (mem i (i ∷ l))
unfolding mem
mem_head i l = or_l _ (same_refl i)

pub mem_tail : (i j : Args) (l : List Args) → Is (mem i l) → Is (mem i (j ∷ l))
unfolding mem
mem_tail i j l h = or_r _ h

pub mem_cases : (i j : Args) (l : List Args) → Is (mem i (j ∷ l)) → (i ≡ j) ⊎ Is (mem i l)
unfolding mem
mem_cases i j l h = ⊎_elim (λ e. inl (same_eq i j e)) inr (or_e _ _ h)

pub mem_nothing : (i : Args) → Is (mem i []) → ⊥
unfolding mem
mem_nothing i h = never h

pub mem_one : (i j : Args) → Is (mem i (j ∷ [])) → i ≡ j
mem_one i j h = ⊎_elim (λ e. e) (λ m. absurd (mem_nothing i m)) (mem_cases i j [] h)

pub mem_left : (l k : List Args) (i : Args) → Is (mem i l) → Is (mem i (l ++ k))
unfolding mem
mem_left [] k i h = never h
mem_left (j ∷ l) k i h = ⊎_elim (or_l _) (λ m. or_r _ (mem_left l k i m)) (or_e _ _ h)

pub mem_right : (l k : List Args) (i : Args) → Is (mem i k) → Is (mem i (l ++ k))
unfolding mem
mem_right [] k i h = h
mem_right (j ∷ l) k i h = or_r _ (mem_right l k i h)

pub mem_split : (l k : List Args) (i : Args) → Is (mem i (l ++ k)) → Is (mem i l) ⊎ Is (mem i k)
unfolding mem
mem_split [] k i h = inr h
mem_split (j ∷ l) k i h = ⊎_elim (λ e. inl (or_l _ e))
    (λ m. ⊎_elim (λ a. inl (or_r _ a)) inr (mem_split l k i m)) (or_e _ _ h)

-- one more number in front of every list
pub mem_map : (a : ℕ) (x : Args) (l : List Args) → Is (mem x l) → Is (mem (a ∷ x) (map (λ y. a ∷ y) l))
unfolding mem same
mem_map a x [] h = never h
mem_map a x (y ∷ l) h =
    ⊎_elim (λ e. or_l _ (and_i (T→Is _ (eqb_refl a)) e)) (λ m. or_r _ (mem_map a x l m)) (or_e _ _ h)

pub once_append : (l k : List Args) → Once l → Once k →
    ((i : Args) → Is (mem i l) → Is (mem i k) → ⊥) → Once (l ++ k)
once_append [] k p q d = q
once_append (i ∷ l) k p q d = (
  (λ h. ⊎_elim p.0 (d i (mem_head i l)) (mem_split l k i h)),
  once_append l k p.1 q (λ j a b. d j (mem_tail j i l a) b),
)
