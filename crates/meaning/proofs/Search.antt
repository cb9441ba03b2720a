-- At every state of the search nothing stands twice, all was reached by steps, and all steps taken are found.
-- `explore_keeps`: what one step of the search keeps, the whole search keeps.
use Rattle.std.specs.Prelude.{ℕ, zero, suc, ◌+◌, ◌<◌, ◌≡◌, refl, List, [], ◌∷◌, ◌++◌, ◌⊎◌, length}
use Rattle.std.proofs.Common.{arith, sym, subst, ◌∙◌, append_assoc, inl, inr, ⊎_elim, length-append}
use Rattle.meaning.specs.Logic.{Is}
use Rattle.meaning.specs.Solution.{mem}
use Rattle.meaning.specs.Models.{Model}
use Rattle.meaning.specs.Reach.{Instance, next, explore}
use Rattle.meaning.proofs.Members.{mem_head, mem_one, mem_nothing, mem_left, mem_right, mem_split}
use Rattle.meaning.proofs.Members.{once_append}
use Rattle.meaning.proofs.Fresh.{fresh_covers, fresh_in, fresh_new, fresh_once}
use Rattle.meaning.specs.Search.{KeptBySteps, ReachedBy, Search, here, new, step}

-- what holds of a state of the search and is kept by taking one instance holds at the end
pub explore_keeps : (model : Model) (P : List Instance → List Instance → Type 0) → KeptBySteps model P →
    (n : ℕ) (done todo : List Instance) → P done todo →
    P (explore model n done todo).0 (explore model n done todo).1
unfolding explore
explore_keeps model P f zero done todo p = p
explore_keeps model P f (suc n) done [] p = p
explore_keeps model P f (suc n) done (i ∷ todo) p =
    explore_keeps model P f n (done ++ (i ∷ [])) _ (f done i todo p)

-- the found ones stay in their places, the new ones follow
pub regroup : (done todo more : List Instance) (i : Instance) →
    (done ++ (i ∷ [])) ++ (todo ++ more) ≡ (done ++ (i ∷ todo)) ++ more
regroup done todo more i = append_assoc done (i ∷ []) (todo ++ more) ∙ sym (append_assoc done (i ∷ todo) more)

pub search_start : (model : Model) (start : Instance) → Search model start [] (start ∷ [])
search_start model start = record {
  started = mem_head start [];
  once = (mem_nothing start, tt);
  by_steps = λ i h. subst (ReachedBy model start) (sym (mem_one i start h)) here;
  covered = λ i h. absurd (mem_nothing i h);
}

module _ (model : Model) (start : Instance) (done : List Instance) (i : Instance) (todo : List Instance)
    (s : Search model start done (i ∷ todo)) where
  abbrev found : List Instance
  found = done ++ (i ∷ todo)

  abbrev more : List Instance
  more = new model done i todo

  -- all that is found when i is taken
  abbrev after : List Instance
  after = (done ++ (i ∷ [])) ++ (todo ++ more)

  taken : Is (mem i found)
  taken = mem_right done (i ∷ todo) i (mem_head i todo)

  stays : (j : Instance) → Is (mem j found) → Is (mem j after)
  stays j h = rw (regroup done todo more i) (mem_left found _ j h)

  comes : (j : Instance) → Is (mem j more) → Is (mem j after)
  comes j h = rw (regroup done todo more i) (mem_right found _ j h)

  pub search_step : Search model start (done ++ (i ∷ [])) (todo ++ new model done i todo)
  search_step = record {
    started = stays start s.started;
    once = rw (regroup done todo more i)
        (once_append found _ s.once (fresh_once found (next model i)) (fresh_new found (next model i)));
    by_steps = λ j h. ⊎_elim (s.by_steps j)
        (λ k. step (s.by_steps i taken) j (fresh_in found (next model i) j k))
        (mem_split found _ j (rw (regroup done todo more i) at h));
    covered = λ k h j n. ⊎_elim (λ m. stays j (s.covered k m j n))
        (λ m. ⊎_elim (stays j) (comes j) (fresh_covers found (next model i) j (rw (mem_one k i m) at n)))
        (mem_split done (i ∷ []) k h);
  }

pub search_keeps : (model : Model) (start : Instance) (n : ℕ) (done todo : List Instance) →
    Search model start done todo →
    Search model start (explore model n done todo).0 (explore model n done todo).1
search_keeps model start = explore_keeps model (Search model start) (search_step model start)

-- n more are taken, unless the search ends before
pub explore_length : (model : Model) (n : ℕ) (done todo : List Instance) →
    ((explore model n done todo).1 ≡ []) ⊎ ((0 < length (explore model n done todo).1) ×
    (length (explore model n done todo).0 ≡ length done + n))
unfolding explore
explore_length model zero done [] = inl refl
explore_length model zero done (i ∷ todo) = inr (omega arith, omega arith)
explore_length model (suc n) done [] = inl refl
explore_length model (suc n) done (i ∷ todo) =
    ⊎_elim inl (λ p. inr (p.0, omega (arith, p.1, length-append done (i ∷ []))))
    (explore_length model n (done ++ (i ∷ [])) _)
