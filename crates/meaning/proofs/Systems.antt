-- Solutions of two systems compared on a set R: a solution is monotone, in the assignment and in the system.
-- One law, `under`: right sides keep the order on R, points agree on R, signs are kept or raised to greatest.
use Rattle.std.specs.Prelude.{ℕ, ◌≡◌, refl, Bool, true, false, cond, List, [], ◌∷◌, eqb}
use Rattle.std.proofs.Common.{sym, subst, eqb→eq}
use Rattle.meaning.specs.Logic.{◌and◌, Is, is, Is→T, and_l, and_r, and_i, true_and}
use Rattle.meaning.specs.Order.{Below, up, implies, below_refl, below_trans, below_of_eq}
use Rattle.meaning.specs.Solution.{Args, Set, Assign, Equation, put, solution}
use Rattle.meaning.specs.FixedPoints.{Ordered_on, Mono}
use Rattle.meaning.proofs.FixedPoints.{fix_order, least_below_greatest}
use Rattle.meaning.specs.Systems.{AllRising, Depends_on, Implies_on, Keeps, Rising, Same_on, Under, everywhere, image, kept}
use Rattle.meaning.specs.Systems.{no_equation, raised}

pub put_on : (R : Assign) (n : ℕ) (S S' : Set) (θ θ' : Assign) → Ordered_on (R n) false S S' →
    Implies_on R θ θ' → Implies_on R (put n S θ) (put n S' θ')
put_on R n S S' θ θ' f h m x r = go (eqb n m) (λ k. eqb→eq n m (Is→T k))
  where
    go : (b : Bool) → (Is b → n ≡ m) → Below false (cond b S (θ m) x) (cond b S' (θ' m) x)
    go true e = f x (subst (λ (k : ℕ). Is (R k x)) (sym (e is)) r)
    go false e = h m x r

pub under : (R : Assign) {es es' : List Equation} → Under R es es' → (θ θ' : Assign) → Implies_on R θ θ' →
    Implies_on R (solution es θ) (solution es' θ')
unfolding solution
under R no_equation θ θ' h = h
under R (kept {n} {s} {D} {D'} {r} {r'} {es} {es'} a k u) θ θ' h =
    let first = fix_order s D D' (image n r es θ) (image n r' es' θ') (R n) a
    (λ S S' l. k _ _ (under R u _ _ (put_on R n S S' θ θ' l h))) in
    under R u _ _ (put_on R n _ _ θ θ' first h)
under R (raised {n} {D} {D'} {r} {r'} {es} {es'} a k m u) θ θ' h =
    let first = fix_order true D D' (image n r es θ) (image n r' es' θ') (R n) a
    (λ S S' l. k _ _ (under R u _ _ (put_on R n S S' θ θ' l h))) in
    let least = least_below_greatest D (image n r es θ) (m θ) in
    under R u _ _ (put_on R n _ _ θ θ' (λ x q. below_trans (least x) (first x q)) h)

rising_under : (es : List Equation) → AllRising es → Under everywhere es es
rising_under [] p = no_equation
rising_under (e ∷ es) p = kept (λ x q. refl) (λ θ θ' h x q i. p.0 θ θ' h x) (rising_under es p.1)

pub solution_rising : (es : List Equation) → AllRising es → (θ θ' : Assign) → Implies_on everywhere θ θ' →
    Implies_on everywhere (solution es θ) (solution es θ')
solution_rising es p = under everywhere (rising_under es p)

pub image_rising : (n : ℕ) (r : Assign → Set) (es : List Equation) → Rising r → AllRising es →
    (θ : Assign) → Mono (image n r es θ)
image_rising n r es p q θ S S' h =
    p _ _ (solution_rising es q _ _ (put_on everywhere n S S' θ θ (λ x _. h x) (λ m x _. below_refl false)))

pub keeps : (R : Assign) (n : ℕ) (r : Assign → Set) → Rising r → Depends_on R n r →
    (D : List Args) → Keeps R n D r r
keeps R n r p d D θ θ' h x q i =
    below_trans (below_of_eq false (d θ (cut θ) (agree θ) x q))
    (below_trans (p (cut θ) (cut θ') cut_implies x) (below_of_eq false (sym (d θ' (cut θ') (agree θ') x q))))
  where
    cut : Assign → Assign
    cut η m y = R m y and η m y

    agree : (η : Assign) → Same_on R η (cut η)
    agree η m y k = sym (true_and (η m y) k)

    cut_implies : Implies_on everywhere (cut θ) (cut θ')
    cut_implies m y _ = up (λ k. and_i (and_l _ _ k) (implies (h m y (and_l _ _ k)) (and_r _ _ k)))
