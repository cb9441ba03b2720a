-- THEOREM: the start state satisfies the formula exactly when the model holds.
-- On the states the model's equations are those of the formula's sets: both systems have one solution there.
use Rattle.std.specs.Prelude.{ℕ, suc, ◌+◌, ◌≡◌, refl, Bool, false, ◌↔◌, length}
use Rattle.std.proofs.Common.{arith, ◌∙◌, length-append}
use Rattle.std.proofs.Math.Path.{sym, ap, fun_ext}
use Rattle.std.proofs.Math.Bool.{true}
use mathlib.Core.List.{List, [], ◌∷◌, ◌++◌}
use Rattle.meaning.specs.Logic.{Is}
use Rattle.meaning.specs.Order.{below_refl, below_trans, below_antisym, below_of_eq}
use Rattle.meaning.specs.Solution.{Args, Set, Assign, Equation, put, mem, fix, solution}
use Rattle.meaning.specs.Models.{Model, numbered, system, nowhere, meaning}
use Rattle.meaning.proofs.FixedPoints.{greatest_fixed}
use Rattle.meaning.specs.Systems.{Under, no_equation, kept, Keeps, equation}
use Rattle.meaning.proofs.Systems.{under}
use Rattle.meaning.proofs.InRange.{within_mem}
use Rattle.translation.specs.Processes.{Process, states}
use Rattle.translation.specs.Modal.{Modal, truth, combined, after, fixed_point, of_fixed_point}
use Rattle.translation.specs.Modal.{fixed_points, satisfying, satisfies}
use Rattle.translation.specs.Rules.{well_formed_process, well_formed_formula, well_formed_input}
use Rattle.translation.specs.Translation.{equation_of, equations, begins_with_fixed_point, translated}
use Rattle.translation.specs.RuleLaws.{around_none, input_process, input_formula, initial_within}
use Rattle.translation.proofs.Core.{side, meant, side_rising, satisfying_agrees, outside_below, solved}
use Rattle.translation.specs.LastFirst.{put_here, solution_without}
use Rattle.translation.proofs.RightSides.{body_says}

system_append : (n : ℕ) (es fs : Model) → system n (es ++ fs) ≡ system n es ++ system (n + length es) fs
unfolding system
system_append n [] fs = ap (λ (k : ℕ). system k fs) (omega arith)
system_append n (e ∷ es) fs =
    let at : suc n + length es ≡ n + suc (length es) = omega arith in
    ap (◌∷◌ (numbered n e)) (rw at at (system_append (suc n) es fs))

-- systems whose right sides have one value at their points, those of the second being monotone on R
data Alike (R : Assign) : List Equation → List Equation → Type 0 where
  no_more : Alike R [] []
  alike : {n : ℕ} {s : Bool} {D : List Args} {r r' : Assign → Set} {es es' : List Equation} →
      ((θ : Assign) (x : Args) → Is (mem x D) → r θ x ≡ r' θ x) → Keeps R n D r' r' → Alike R es es' →
      Alike R (equation n s D r ∷ es) (equation n s D r' ∷ es')

module _ (R : Assign) where
  alike_append : {es es' fs fs' : List Equation} → Alike R es es' → Alike R fs fs' →
      Alike R (es ++ fs) (es' ++ fs')
  alike_append no_more v = v
  alike_append (alike e k u) v = alike e k (alike_append u v)

  there : {es es' : List Equation} → Alike R es es' → Under R es es'
  there no_more = no_equation
  there (alike e k u) = kept (λ x _. refl)
      (λ θ θ' h x j i. below_trans (below_of_eq false (e θ x i)) (k θ θ' h x j i)) (there u)

  back : {es es' : List Equation} → Alike R es es' → Under R es' es
  back no_more = no_equation
  back (alike e k u) = kept (λ x _. refl)
      (λ θ θ' h x j i. below_trans (k θ θ' h x j i) (below_of_eq false (sym (e θ' x i)))) (back u)

  solutions_alike : {es es' : List Equation} → Alike R es es' → (θ : Assign) (m : ℕ) (x : Args) →
      Is (R m x) → solution es θ m x ≡ solution es' θ m x
  solutions_alike a θ m x i = below_antisym (under R (there a) θ θ (λ k y j. below_refl false) m x i)
      (under R (back a) θ θ (λ k y j. below_refl false) m x i)

-- a formula has as many equations as fixed points
pub equations_count : (process : Process) (before : ℕ) (f : Modal) (n : ℕ) →
    length (equations process before f n) ≡ fixed_points f
unfolding equations fixed_points
equations_count process before (truth b) n = refl
equations_count process before (combined all f g) n =
    let second = n + fixed_points f in
    omega (
      arith,
      length-append (equations process before f n) (equations process before g second),
      equations_count process before f n,
      equations_count process before g second,
    )
equations_count process before (after all A f) n = equations_count process before f n
equations_count process before (fixed_point s f) n = ap suc (equations_count process before f (suc n))
equations_count process before (of_fixed_point m) n = refl

-- the model is that of the formula, or of the greatest fixed point around it
pub translated_cases : (process : Process) (P : Modal → Model → Type 0) →
    ((s : Bool) (f : Modal) → P (fixed_point s f) (equations process 0 (fixed_point s f) 0)) →
    ((f : Modal) → P f (equation_of process 1 true f 0 ∷ equations process 1 f 0)) →
    (f : Modal) → P f (translated process f)
unfolding translated begins_with_fixed_point
translated_cases process P begun enclosed (truth b) = enclosed (truth b)
translated_cases process P begun enclosed (combined all f g) = enclosed (combined all f g)
translated_cases process P begun enclosed (after all A f) = enclosed (after all A f)
translated_cases process P begun enclosed (fixed_point s f) = begun s f
translated_cases process P begun enclosed (of_fixed_point m) = enclosed (of_fixed_point m)

-- the model's equations and those of the formula's sets, on the states
abbrev on_states : Process → Assign
on_states process m x = mem x (states process)

module _ (process : Process) (formed : Is (well_formed_process process)) (before : ℕ) where
  one_alike : (s : Bool) (f : Modal) (n m : ℕ) {es es' : List Equation} →
      Alike (on_states process) es es' →
      Alike (on_states process) (numbered m (equation_of process before s f n) ∷ es)
      (equation m s (states process) (side process before f n) ∷ es')
  one_alike s f n m = alike (λ θ x i. body_says process formed before θ f n x i)
      (λ θ θ' h x j i. side_rising process before f n θ θ' h x i)

  systems_alike : (f : Modal) (n : ℕ) →
      Alike (on_states process) (system (n + before) (equations process before f n))
      (meant process before f n)
  unfolding system equations meant
  systems_alike (truth b) n = no_more
  systems_alike (combined all f g) n =
      rw row (alike_append (on_states process) (systems_alike f n) (systems_alike g (n + fixed_points f)))
    where
      fs : Model
      fs = equations process before f n

      gs : Model
      gs = equations process before g (n + fixed_points f)

      at : n + before + length fs ≡ n + fixed_points f + before
      at = omega (arith, equations_count process before f n)

      row : system (n + before) (fs ++ gs) ≡ system (n + before) fs ++ system (n + fixed_points f + before) gs
      row = rw at at (system_append (n + before) fs gs)
  systems_alike (after all A f) n = systems_alike f n
  systems_alike (fixed_point s f) n =
      let at : suc n + before ≡ suc (n + before) = omega arith in
      one_alike s f (suc n) (n + before) (rw at at (systems_alike f (suc n)))
  systems_alike (of_fixed_point m) n = no_more

module _ (process : Process) (formed : Is (well_formed_process process)) (x : Args)
    (i : Is (mem x (states process))) where
  -- the model says of x what the formula's sets say
  abbrev Says_of : Modal → Model → Type 0
  Says_of f model = Is (well_formed_formula [] 0 f) → meaning model 0 x ≡ satisfying process f 0 nowhere x

  -- a formula that begins with a fixed point
  begun : (s : Bool) (f : Modal) → Says_of (fixed_point s f) (equations process 0 (fixed_point s f) 0)
  unfolding meaning side
  begun s f p =
      solutions_alike (on_states process) (systems_alike process formed 0 (fixed_point s f) 0) nowhere 0 x i ∙
      ap (λ (S : Set). S x) (solved process 0 (fixed_point s f) [] 0 p (around_none _) nowhere)

  -- one that does not, in a greatest one that nothing names
  enclosed : (f : Modal) → Says_of f (equation_of process 1 true f 0 ∷ equations process 1 f 0)
  unfolding meaning system solution
  enclosed f p =
      let whole = one_alike process formed 1 true f 0 0 (systems_alike process formed 1 f 0) in
      solutions_alike (on_states process) whole nowhere 0 x i ∙
      ap (λ (S : Set). S x)
      (solution_without 0 (meant process 1 f 0) (outside_below process 1 f 0 0 (omega arith)) _ ∙
      put_here 0 _ nowhere ∙ ap (fix true (states process)) (fun_ext hangs_on_nothing)) ∙
      sym (greatest_fixed (states process) (λ _. satisfying process f 0 nowhere)
      (λ S S' h y. below_refl false) x i)
    where
      hangs_on_nothing : (S : Set) →
          side process 1 f 0 (solution (meant process 1 f 0) (put 0 S nowhere)) ≡
          satisfying process f 0 nowhere
      hangs_on_nothing S =
          solved process 1 f [] 0 p (around_none _) (put 0 S nowhere) ∙
          satisfying_agrees process 1 f [] 0 p _ nowhere (around_none _)

-- at every state
pub translation_correct_at : (process : Process) (f : Modal) → Is (well_formed_input process f) → (d : Args) →
    Is (mem d (states process)) → satisfying process f 0 nowhere d ≡ meaning (translated process f) 0 d
translation_correct_at process f h d i =
    let formed = input_process process f h in
    sym (translated_cases process (Says_of process formed d i) (begun process formed d i)
    (enclosed process formed d i) f (input_formula process f h))

-- "The start state satisfies the formula, in document 002's set meaning over the finite process, exactly when
-- the model holds."
pub translation_correct : (process : Process) (f : Modal) → Is (well_formed_input process f) →
    satisfies process f ≡ meaning (translated process f) 0 process.initial
unfolding satisfies
translation_correct process f h =
    translation_correct_at process f h process.initial
    (within_mem _ process.ranges (initial_within process (input_process process f h)))

pub translation_correct_iff : (process : Process) (f : Modal) → Is (well_formed_input process f) →
    Is (satisfies process f) ↔ Is (meaning (translated process f) 0 process.initial)
translation_correct_iff process f h =
    ((λ k. rw (translation_correct process f h) at k), (λ k. rw (translation_correct process f h) k))
