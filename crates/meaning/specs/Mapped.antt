-- A list with each element changed alike: its first elements, the others, and with one element set.
-- Each law follows the list. They hold for lists of anything.
use Rattle.std.specs.Prelude.{ℕ, zero, suc, ◌≡◌, refl, List, [], ◌∷◌, map, take, drop, set}
use Rattle.std.proofs.Common.{ap}

module _ {A B : Type 0} (f : A → B) where
  pub map_take : (n : ℕ) (l : List A) → map f (take n l) ≡ take n (map f l)
  map_take zero l = refl
  map_take (suc n) [] = refl
  map_take (suc n) (x ∷ l) = ap (λ (r : List B). f x ∷ r) (map_take n l)

  pub map_drop : (n : ℕ) (l : List A) → map f (drop n l) ≡ drop n (map f l)
  map_drop zero l = refl
  map_drop (suc n) [] = refl
  map_drop (suc n) (x ∷ l) = map_drop n l

  pub map_set : (l : List A) (i : ℕ) (v : A) → map f (set l i v) ≡ set (map f l) i (f v)
  map_set [] i v = refl
  map_set (x ∷ l) zero v = refl
  map_set (x ∷ l) (suc i) v = ap (λ (r : List B). f x ∷ r) (map_set l i v)
