-- What the tests over lists and over subsets say: `all`, `every` and `some` are what their names claim.
-- A subset of y ∷ D is a subset of D, or one with y added; equality of sets is equality at all arguments.
use Rattle.std.specs.Prelude.{◌≡◌, refl, Bool, true, false, not, List, [], ◌∷◌}
use Rattle.std.proofs.Common.{sym, subst, ap, ⊎_elim}
use Rattle.std.proofs.Math.Path.{fun_ext}
use Rattle.meaning.specs.Logic.{◌and◌, ◌or◌, Is, is, never, dec, same_truth}
use Rattle.meaning.specs.Logic.{and_l, and_r, and_i, or_l, or_r, or_e}
use Rattle.meaning.specs.Solution.{Args, Set, same, mem, all, every, some}
use Rattle.meaning.proofs.Members.{same_eq, same_refl}
use Rattle.meaning.specs.Sets.{SomeSubset, Within}

pub all_i : (D : List Args) (p : Set) → ((x : Args) → Is (mem x D) → Is (p x)) → Is (all D p)
unfolding all mem
all_i [] p f = is
all_i (y ∷ D) p f = and_i (f y (or_l _ (same_refl y))) (all_i D p (λ x m. f x (or_r _ m)))

pub all_e : (D : List Args) (p : Set) → Is (all D p) → (x : Args) → Is (mem x D) → Is (p x)
unfolding all mem
all_e [] p h x m = never m
all_e (y ∷ D) p h x m =
    ⊎_elim (λ e. rw (same_eq x y e) (and_l _ _ h)) (all_e D p (and_r _ _ h) x) (or_e _ _ m)

-- S with y, S without y
abbrev add : Args → Set → Set
add y S x = same x y or S x

cut : Args → Set → Set
cut y S x = not (same x y) and S x

add_within : (y : Args) (D : List Args) (S : Set) → Within D S → Within (y ∷ D) (add y S)
unfolding mem
add_within y D S w x h = ⊎_elim (or_l _) (λ k. or_r _ (w x k)) (or_e _ _ h)

cut_within : (y : Args) (D : List Args) (S : Set) → Within (y ∷ D) S → Within D (cut y S)
unfolding cut mem ◌and◌ ◌or◌
cut_within y D S w x h = go (same x y) (w x) h
  where
    go : (b : Bool) → (Is (S x) → Is (b or mem x D)) → Is (not b and S x) → Is (mem x D)
    go true f k = never k
    go false f k = f k

add_cut : (y : Args) (S : Set) → Is (S y) → add y (cut y S) ≡ S
unfolding cut ◌and◌ ◌or◌
add_cut y S h = fun_ext (λ x. go x (same x y) (same_eq x y))
  where
    go : (x : Args) (b : Bool) → (Is b → x ≡ y) → (b or (not b and S x)) ≡ S x
    go x true f = same_truth _ _ (λ _. subst (λ (z : Args). Is (S z)) (sym (f is)) h) (λ _. is)
    go x false f = refl

cut_absent : (y : Args) (S : Set) → (Is (S y) → ⊥) → cut y S ≡ S
unfolding cut ◌and◌
cut_absent y S h = fun_ext (λ x. go x (same x y) (same_eq x y))
  where
    go : (x : Args) (b : Bool) → (Is b → x ≡ y) → (not b and S x) ≡ S x
    go x true f = same_truth _ _ never (λ k. absurd (h (subst (λ (z : Args). Is (S z)) (f is) k)))
    go x false f = refl

empty : (S : Set) → Within [] S → S ≡ (λ _. false)
unfolding mem
empty S w = fun_ext (λ x. same_truth _ _ (w x) never)

pub every_e : (D : List Args) (P : Set → Bool) → Is (every D P) → (S : Set) → Within D S → Is (P S)
unfolding every
every_e [] P h S w = subst Is (ap P (sym (empty S w))) h
every_e (y ∷ D) P h S w = ⊎_elim
    (λ k. subst Is (ap P (add_cut y S k)) (every_e D (λ R. P (add y R)) (and_r _ _ h) _ (cut_within y D S w)))
    (λ k. subst Is (ap P (cut_absent y S k)) (every_e D P (and_l _ _ h) _ (cut_within y D S w)))
    (dec (S y))

pub every_i : (D : List Args) (P : Set → Bool) → ((S : Set) → Within D S → Is (P S)) → Is (every D P)
unfolding every mem
every_i [] P f = f (λ _. false) (λ x h. never h)
every_i (y ∷ D) P f =
    and_i (every_i D P (λ S w. f S (λ x h. or_r _ (w x h))))
    (every_i D (λ R. P (add y R)) (λ S w. f _ (add_within y D S w)))

pub some_i : (D : List Args) (P : Set → Bool) (S : Set) → Within D S → Is (P S) → Is (some D P)
unfolding some
some_i [] P S w h = subst Is (ap P (empty S w)) h
some_i (y ∷ D) P S w h =
    let without = some_i D P (cut y S) (cut_within y D S w) in
    let with = some_i D (λ R. P (add y R)) (cut y S) (cut_within y D S w) in
    ⊎_elim (λ k. or_r _ (with (subst Is (ap P (sym (add_cut y S k))) h)))
    (λ k. or_l _ (without (subst Is (ap P (sym (cut_absent y S k))) h))) (dec (S y))

pub some_e : (D : List Args) (P : Set → Bool) → Is (some D P) → SomeSubset D P
unfolding some mem
some_e [] P h = ((λ _. false), (λ x k. never k), h)
some_e (y ∷ D) P h = ⊎_elim
    (λ k. let r = some_e D P k in (r.0, (λ x m. or_r _ (r.1 x m)), r.2))
    (λ k. let r = some_e D (λ R. P (add y R)) k in (add y r.0, add_within y D r.0 r.1, r.2))
    (or_e _ _ h)
