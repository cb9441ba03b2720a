-- The search of a well-formed model ends, with exactly what steps reach, each once, in order of finding.
-- All that is found are instances of the model and none stands twice; so no more are taken than there are.
use Rattle.std.specs.Prelude.{ℕ, zero, suc, ◌+◌, ◌≤◌, ◌<◌, ◌≡◌, length, get_or}
use Rattle.std.proofs.Common.{arith, ◌∙◌, ⊎_elim, length-append}
use Rattle.std.proofs.Math.Path.{refl, sym, subst, ap}
use mathlib.Core.List.{List, [], ◌∷◌, ◌++◌, map, append-nil}
use Rattle.meaning.specs.Logic.{Is, never, and_r}
use Rattle.meaning.specs.Solution.{mem}
use Rattle.meaning.specs.Models.{Model, in_range}
use Rattle.meaning.specs.Reach.{Instance, next, fresh, explore, every_instance, reached}
use Rattle.meaning.specs.Ranges.{signatures, within, typed, well_formed}
use Rattle.meaning.specs.Members.{Once}
use Rattle.meaning.proofs.Members.{mem_left, mem_right, mem_map}
use Rattle.meaning.proofs.InRange.{within_mem}
use Rattle.meaning.proofs.Typed.{typed_equation, well_formed_start, next_typed}
use Rattle.meaning.proofs.Pigeonhole.{pigeonhole}
use Rattle.meaning.specs.Search.{ReachedBy, here, step, new, KeptBySteps}
use Rattle.meaning.proofs.Search.{explore_keeps, regroup}
use Rattle.meaning.specs.Search.{Search}
use Rattle.meaning.proofs.Search.{search_start, search_keeps, explore_length}
use Rattle.meaning.specs.Reached.{found_from, instance_count}

-- every instance of the model is in the list of all
instance_listed : (k e : ℕ) (x : List ℕ) (model : Model) → e < length (signatures model) →
    Is (within x (get_or (signatures model) e [])) → Is (mem ((k + e) ∷ x) (every_instance k model))
unfolding every_instance
instance_listed k e x [] l w = absurd (omega arith)
instance_listed k zero x (m ∷ ms) l w =
    let same : k + zero ≡ k = omega arith in
    rw same (mem_left _ (every_instance (suc k) ms) (k ∷ x)
    (mem_map k x (in_range m.ranges) (within_mem x m.ranges w)))
instance_listed k (suc e) x (m ∷ ms) l w =
    let same : k + suc e ≡ suc k + e = omega arith in
    rw same (mem_right (map (λ y. k ∷ y) (in_range m.ranges)) _ ((suc k + e) ∷ x)
    (instance_listed (suc k) e x ms (omega arith) w))

pub typed_listed : (model : Model) (i : Instance) → Is (typed (signatures model) i) →
    Is (mem i (every_instance 0 model))
unfolding typed
typed_listed model [] t = never t
typed_listed model (e ∷ x) t =
    subst (λ (n : ℕ). Is (mem (n ∷ x) (every_instance 0 model))) (omega arith)
    (instance_listed 0 e x model (typed_equation (signatures model) e x t) (and_r _ _ t))

found_one_more : (model : Model) (found l : List Instance) (i : Instance) →
    found_from model found (l ++ (i ∷ [])) ≡
    found_from model found l ++ fresh (found_from model found l) (next model i)
unfolding found_from
found_one_more model found [] i = refl
found_one_more model found (j ∷ l) i = found_one_more model (found ++ fresh found (next model j)) l i

module _ (model : Model) (start : Instance) (w : Is (well_formed model start)) where
  pub steps_typed : (i : Instance) → ReachedBy model start i → Is (typed (signatures model) i)
  steps_typed i here = well_formed_start model start w
  steps_typed _ (step {i} r j m) = next_typed model start w i (steps_typed i r) j m

  -- no state of the search has found more than there is
  pub search_bound : (done todo : List Instance) → Search model start done todo →
      length (done ++ todo) ≤ instance_count model
  search_bound done todo s = pigeonhole (done ++ todo) (every_instance 0 model) s.once
      (λ i m. typed_listed model i (steps_typed i (s.by_steps i m)))

  -- so it ends
  pub search_finished : (n : ℕ) (done todo : List Instance) → Search model start done todo →
      instance_count model ≤ length done + n → (explore model n done todo).1 ≡ []
  search_finished n done todo s h =
      let taken = (explore model n done todo).0 in
      let left = (explore model n done todo).1 in
      let bound = search_bound taken left (search_keeps model start n done todo s) in
      ⊎_elim (λ e. e) (λ p. absurd (omega (arith, p.0, p.1, length-append taken left, bound)))
      (explore_length model n done todo)

  pub reached_finished : (explore model (instance_count model) [] (start ∷ [])).1 ≡ []
  reached_finished =
      search_finished (instance_count model) [] (start ∷ []) (search_start model start) (omega arith)

  -- the end of the search
  reached_search : Search model start (reached model start) []
  unfolding reached
  reached_search =
      subst (Search model start (reached model start)) reached_finished
      (search_keeps model start (instance_count model) [] (start ∷ []) (search_start model start))

  pub start_reached : Is (mem start (reached model start))
  start_reached = rw append-nil at reached_search.started

  pub reached_once : Once (reached model start)
  reached_once = rw append-nil at reached_search.once

  pub reached_closed : (i : Instance) → Is (mem i (reached model start)) →
      (j : Instance) → Is (mem j (next model i)) → Is (mem j (reached model start))
  reached_closed i m j n = rw append-nil at (reached_search.covered i m j n)

  -- the list has exactly what is reached by steps
  pub reached_by_steps : (i : Instance) → Is (mem i (reached model start)) → ReachedBy model start i
  reached_by_steps i m = reached_search.by_steps i (mem_left (reached model start) [] i m)

  pub steps_reached : (i : Instance) → ReachedBy model start i → Is (mem i (reached model start))
  steps_reached i here = start_reached
  steps_reached _ (step {i} r j n) = reached_closed i (steps_reached i r) j n

  pub reached_typed : (i : Instance) → Is (mem i (reached model start)) → Is (typed (signatures model) i)
  reached_typed i m = steps_typed i (reached_by_steps i m)

  abbrev Found : List Instance → List Instance → Type 0
  Found done todo = found_from model (start ∷ []) done ≡ done ++ todo

  -- in order of finding: taking the reached instances in their order finds just this list, in this order
  pub reached_in_order : found_from model (start ∷ []) (reached model start) ≡ reached model start
  unfolding reached found_from
  reached_in_order =
      explore_keeps model Found one (instance_count model) [] (start ∷ []) refl
      ∙ ap (λ (l : List Instance). reached model start ++ l) reached_finished ∙ append-nil _
    where
      one : KeptBySteps model Found
      one done i todo e =
          found_one_more model (start ∷ []) done i ∙ ap (λ (l : List Instance). l ++ fresh l (next model i)) e
          ∙ sym (regroup done todo (new model done i todo) i)
