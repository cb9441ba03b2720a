-- A formula's equations, in sets of states and solved in their order, give the sets that the formula means.
-- The two parts of a formula share no fixed points of their own: the later part is solved after the first.
use Prim.Native.Nat.{ℕ, suc, ◌+◌, ◌≤◌, ◌<◌}
use Rattle.std.proofs.Common.{arith, ◌∙◌, eq-eqb, ne_eqb}
use Rattle.std.specs.Prelude.{◌≡◌, Bool, cond, eqb}
use Rattle.std.proofs.Math.Path.{refl, sym, ap, ap₂, fun_ext}
use Rattle.std.proofs.Math.Bool.{false}
use mathlib.Core.List.{List, [], ◌∷◌, ◌++◌}
use Rattle.std.proofs.Math.Decide.{ℕ_discrete}
use Rattle.meaning.specs.Logic.{join, Is, and_l, and_r}
use Rattle.meaning.specs.Order.{Below, below_refl, join_below}
use Rattle.meaning.specs.Solution.{Args, Set, Assign, Equation, put, mem, fix, solution}
use Rattle.meaning.specs.Systems.{Implies_on, equation}
use Rattle.translation.specs.Processes.{Process, states}
use Rattle.translation.specs.Modal.{Modal, truth, combined, after, fixed_point, of_fixed_point}
use Rattle.translation.specs.Modal.{fixed_points, after_steps, satisfying}
use Rattle.translation.specs.Rules.{well_formed_formula}
use Rattle.translation.specs.RuleLaws.{Around, around_more}
use Rattle.translation.proofs.Steps.{after_steps_rising}
use Rattle.translation.specs.LastFirst.{put_here, Without, solution_without, without_append}
use Rattle.translation.specs.LastFirst.{through, through_append, last_first}

abbrev join_sets : Bool → Set → Set → Set
join_sets all S T d = join all (S d) (T d)

module _ (process : Process) (before : ℕ) where
  -- the value of a formula's right side at each state, fixed points by their equations; and the equations, in
  -- sets of states
  unfoldable pub side : Modal → ℕ → Assign → Set
  side (truth b) n θ = λ d. b
  side (combined all f g) n θ = λ d. join all (side f n θ d) (side g (n + fixed_points f) θ d)
  side (after all A f) n θ = after_steps process all A (side f n θ)
  side (fixed_point s f) n θ = θ (n + before)
  side (of_fixed_point m) n θ = θ (m + before)

  unfoldable pub meant : Modal → ℕ → List Equation
  meant (truth b) n = []
  meant (combined all f g) n = meant f n ++ meant g (n + fixed_points f)
  meant (after all A f) n = meant f n
  meant (fixed_point s f) n = equation (n + before) s (states process) (side f (suc n)) ∷ meant f (suc n)
  meant (of_fixed_point m) n = []

  pub side_rising : (f : Modal) (n : ℕ) (θ θ' : Assign) → Implies_on (λ m x. mem x (states process)) θ θ' →
      (d : Args) → Is (mem d (states process)) → Below false (side f n θ d) (side f n θ' d)
  unfolding side
  side_rising (truth b) n θ θ' h d m = below_refl false
  side_rising (combined all f g) n θ θ' h d m =
      join_below all (side_rising f n θ θ' h d m) (side_rising g (n + fixed_points f) θ θ' h d m)
  side_rising (after all A f) n θ θ' h d m =
      after_steps_rising process all A (side f n θ) (side f n θ') (λ x i. side_rising f n θ θ' h x i) d
  side_rising (fixed_point s f) n θ θ' h d m = h (n + before) d m
  side_rising (of_fixed_point k) n θ θ' h d m = h (k + before) d m

  -- a formula's set hangs on the fixed points around it
  pub satisfying_agrees : (f : Modal) (around : List ℕ) (n : ℕ) → Is (well_formed_formula around n f) →
      (θ θ' : Assign) → Around around (λ j. θ j ≡ θ' j) → satisfying process f n θ ≡ satisfying process f n θ'
  unfolding satisfying well_formed_formula
  satisfying_agrees (truth b) around n p θ θ' h = refl
  satisfying_agrees (combined all f g) around n p θ θ' h = ap₂ (join_sets all)
      (satisfying_agrees f around n (and_l _ _ p) θ θ' h)
      (satisfying_agrees g around (n + fixed_points f) (and_r _ _ p) θ θ' h)
  satisfying_agrees (after all A f) around n p θ θ' h =
      ap (after_steps process all A) (satisfying_agrees f around n (and_r _ _ p) θ θ' h)
  satisfying_agrees (fixed_point s f) around n p θ θ' h = ap (fix s (states process)) (fun_ext (λ S.
      satisfying_agrees f (n ∷ around) (suc n) p (put n S θ) (put n S θ')
      (around_more (λ j. put n S θ j ≡ put n S θ' j) n around (put_here n S θ ∙ sym (put_here n S θ'))
      (λ j i. ap (cond (eqb n j) S) (h j i)))))
  satisfying_agrees (of_fixed_point m) around n p θ θ' h = h m p

  -- what holds of the formula's own fixed points
  abbrev Own : Modal → ℕ → (ℕ → Type 0) → Type 0
  Own f n P = (j : ℕ) → n ≤ j → j < n + fixed_points f → P j

  -- a right side hangs on the fixed points around and on its own
  abbrev Same : Assign → Assign → ℕ → Type 0
  Same θ θ' j = θ (j + before) ≡ θ' (j + before)

  side_agrees : (f : Modal) (around : List ℕ) (n : ℕ) → Is (well_formed_formula around n f) →
      (θ θ' : Assign) → Around around (Same θ θ') → Own f n (Same θ θ') → side f n θ ≡ side f n θ'
  unfolding side fixed_points well_formed_formula
  side_agrees (truth b) around n p θ θ' h k = refl
  side_agrees (combined all f g) around n p θ θ' h k = ap₂ (join_sets all)
      (side_agrees f around n (and_l _ _ p) θ θ' h (λ j a b. k j a (omega arith)))
      (side_agrees g around (n + fixed_points f) (and_r _ _ p) θ θ' h
      (λ j a b. k j (omega arith) (omega arith)))
  side_agrees (after all A f) around n p θ θ' h k =
      ap (after_steps process all A) (side_agrees f around n (and_r _ _ p) θ θ' h k)
  side_agrees (fixed_point s f) around n p θ θ' h k = k n (omega arith) (omega arith)
  side_agrees (of_fixed_point m) around n p θ θ' h k = h m p

  -- numbers below those of the formula have no equation here
  pub outside_below : (f : Modal) (n m : ℕ) → m < n + before → Without m (meant f n)
  unfolding meant
  outside_below (truth b) n m l = tt
  outside_below (combined all f g) n m l =
      without_append m (meant f n) (meant g (n + fixed_points f)) (outside_below f n m l)
      (outside_below g (n + fixed_points f) m (omega arith))
  outside_below (after all A f) n m l = outside_below f n m l
  outside_below (fixed_point s f) n m l = ((λ e. omega arith), outside_below f (suc n) m (omega arith))
  outside_below (of_fixed_point k) n m l = tt

  -- equations of other numbers, solved in them, make no difference to f's
  abbrev Free : List Equation → ℕ → Type 0
  Free gs j = Without (j + before) gs

  through_same : (f : Modal) (around : List ℕ) (n : ℕ) → Is (well_formed_formula around n f) →
      (gs : List Equation) → Around around (Free gs) → Own f n (Free gs) →
      through gs (meant f n) ≡ meant f n
  unfolding meant through fixed_points well_formed_formula
  through_same (truth b) around n p gs h k = refl
  through_same (combined all f g) around n p gs h k =
      through_append gs (meant f n) (meant g (n + fixed_points f)) ∙
      ap₂ ◌++◌ (through_same f around n (and_l _ _ p) gs h (λ j a b. k j a (omega arith)))
      (through_same g around (n + fixed_points f) (and_r _ _ p) gs h
      (λ j a b. k j (omega arith) (omega arith)))
  through_same (after all A f) around n p gs h k = through_same f around n (and_r _ _ p) gs h k
  through_same (fixed_point s f) around n p gs h k =
      ap₂ (λ (r : Assign → Set) (l : List Equation). equation (n + before) s (states process) r ∷ l)
      (fun_ext (λ θ. side_agrees f (n ∷ around) (suc n) p (solution gs θ) θ
      (λ j i. solution_without (j + before) gs (inner j i) θ)
      (λ j a b. solution_without (j + before) gs (own j a b) θ)))
      (through_same f (n ∷ around) (suc n) p gs inner own)
    where
      inner : Around (n ∷ around) (Free gs)
      inner = around_more (Free gs) n around (k n (omega arith) (omega arith)) h

      own : Own f (suc n) (Free gs)
      own j a b = k j (omega arith) (omega arith)
  through_same (of_fixed_point m) around n p gs h k = refl

  -- a set put at a number, seen from the formula's numbers
  eqb_shifted : (n j : ℕ) → eqb (n + before) (j + before) ≡ eqb n j
  eqb_shifted n j = elim (ℕ_discrete n j) [
    | yes e ↦ eq-eqb _ _ (ap (λ (k : ℕ). k + before) e) ∙ sym (eq-eqb n j e)
    | no e ↦ ne_eqb (n + before) (j + before) (λ k. e (omega arith)) ∙ sym (ne_eqb n j e)
  ]

  put_shifted : (n : ℕ) (S : Set) (θ : Assign) →
      (λ (j : ℕ). put (n + before) S θ (j + before)) ≡ put n S (λ j. θ (j + before))
  put_shifted n S θ = fun_ext (λ j. ap (λ (b : Bool). cond b S (θ (j + before))) (eqb_shifted n j))

  -- the equations of a formula, solved, give its set
  pub solved : (f : Modal) (around : List ℕ) (n : ℕ) → Is (well_formed_formula around n f) →
      Around around (λ j. j < n) → (θ : Assign) →
      side f n (solution (meant f n) θ) ≡ satisfying process f n (λ j. θ (j + before))
  unfolding satisfying side meant solution well_formed_formula
  solved (truth b) around n p a θ = refl
  solved (combined all f g) around n p a θ = ap₂ (join_sets all)
      (ap (side f n) both ∙
      side_agrees f around n (and_l _ _ p) (solution gs (solution fs θ)) (solution fs θ)
      (λ j i. solution_without (j + before) gs (free j (omega (arith, a j i))) _)
      (λ j u v. solution_without (j + before) gs (free j v) _) ∙
      solved f around n (and_l _ _ p) a θ)
      (ap (side g k) both ∙
      solved g around k (and_r _ _ p) (λ j i. omega (arith, a j i)) (solution fs θ) ∙
      satisfying_agrees g around k (and_r _ _ p) (λ j. solution fs θ (j + before)) (λ j. θ (j + before))
      (λ j i. solution_without (j + before) fs (outside_below f n (j + before) (omega (arith, a j i))) θ))
    where
      k : ℕ
      k = n + fixed_points f

      fs : List Equation
      fs = meant f n

      gs : List Equation
      gs = meant g k

      free : (j : ℕ) → j < k → Free gs j
      free j l = outside_below g k (j + before) (omega arith)

      both : solution (fs ++ gs) θ ≡ solution gs (solution fs θ)
      both = last_first fs gs θ ∙ ap (λ (l : List Equation). solution gs (solution l θ))
          (through_same f around n (and_l _ _ p) gs (λ j i. free j (omega (arith, a j i)))
          (λ j u v. free j v))
  solved (after all A f) around n p a θ = ap (after_steps process all A) (solved f around n (and_r _ _ p) a θ)
  solved (fixed_point s f) around n p a θ =
      solution_without (n + before) (meant f (suc n)) (outside_below f (suc n) (n + before) (omega arith)) _ ∙
      put_here (n + before) _ θ ∙
      ap (fix s (states process)) (fun_ext (λ S.
      solved f (n ∷ around) (suc n) p inner (put (n + before) S θ) ∙
      ap (satisfying process f (suc n)) (put_shifted n S θ)))
    where
      inner : Around (n ∷ around) (λ j. j < suc n)
      inner = around_more (λ j. j < suc n) n around (omega arith) (λ j i. omega (arith, a j i))
  solved (of_fixed_point m) around n p a θ = refl
