-- The search step by step: what every stage of it has found is a beginning of the list of reached instances.
-- A stage is a state of the search from which the rest of the search gives the list.
use Prim.Native.Nat.{ℕ, zero, suc, ◌-◌, ◌≤◌}
use Rattle.std.proofs.Common.{arith, sym, ◌∙◌}
use Rattle.std.specs.Prelude.{◌≡◌, refl}
use Rattle.std.proofs.Math.Path.{ap}
use mathlib.Core.List.{List, [], ◌∷◌, ◌++◌, append_assoc, append-nil}
use Rattle.std.proofs.Math.ListN.{length, length-append}
use Rattle.meaning.specs.Logic.{Is}
use Rattle.meaning.specs.Models.{Model}
use Rattle.meaning.specs.Reach.{Instance, explore, reached}
use Rattle.meaning.specs.Ranges.{signatures, typed, well_formed}
use Rattle.meaning.specs.Members.{AllOf}
use Rattle.meaning.specs.Search.{new, KeptBySteps}
use Rattle.meaning.proofs.Search.{explore_keeps, regroup}
use Rattle.meaning.proofs.Search.{search_start, search_step}
use Rattle.meaning.specs.Reached.{instance_count}
use Rattle.meaning.proofs.Reached.{steps_typed, search_bound, search_finished}
use Rattle.meaning.specs.Stages.{Begins, Stage}

pub begins_length : (l first : List Instance) → Begins l first → length first ≤ length l
begins_length l first p = omega (arith, ap length p.1, length-append first p.0)

explore_nothing : (model : Model) (n : ℕ) (done : List Instance) → (explore model n done []).0 ≡ done
unfolding explore
explore_nothing model zero done = refl
explore_nothing model (suc n) done = refl

explore_begins : (model : Model) (n : ℕ) (done todo : List Instance) →
    Begins ((explore model n done todo).0 ++ (explore model n done todo).1) (done ++ todo)
explore_begins model n done todo =
    explore_keeps model (λ d t. Begins (d ++ t) (done ++ todo)) one n done todo ([], sym (append-nil _))
  where
    one : KeptBySteps model (λ d t. Begins (d ++ t) (done ++ todo))
    one d i t p =
        let more = new model d i t in
        let same = ap (λ (l : List Instance). l ++ more) p.1 in
        (p.0 ++ more, regroup d t more i ∙ same ∙ append_assoc (done ++ todo) p.0 more)

module _ (model : Model) (start : Instance) (w : Is (well_formed model start)) where
  pub stage_start : Stage model start [] (start ∷ [])
  unfolding reached
  stage_start = record {
    state = search_start model start;
    rest = ap (λ (n : ℕ). (explore model n [] (start ∷ [])).0) (omega arith);
  }

  -- the first instance to do is taken
  pub stage_step : KeptBySteps model (Stage model start)
  unfolding explore
  stage_step done i todo s = record {
    state = search_step model start done i todo s.state;
    rest = s.rest ∙ ap (λ (n : ℕ). (explore model n done (i ∷ todo)).0) fewer;
  }
    where
      fewer : instance_count model - length done ≡ suc (instance_count model - length (done ++ (i ∷ [])))
      fewer =
          let bound = search_bound model start w done (i ∷ todo) s.state in
          omega (arith, length-append done (i ∷ []), length-append done (i ∷ todo))

  pub stage_typed : (done todo : List Instance) → Stage model start done todo →
      AllOf (typed (signatures model)) (done ++ todo)
  stage_typed done todo s i m = steps_typed model start w i (s.state.by_steps i m)

  -- what is found is a beginning of the reached instances
  pub stage_prefix : (done todo : List Instance) → Stage model start done todo →
      Begins (reached model start) (done ++ todo)
  stage_prefix done todo s =
      let n = instance_count model - length done in
      let ended = search_finished model start w n done todo s.state (omega arith) in
      let taken = ap (λ (l : List Instance). (explore model n done todo).0 ++ l) (sym ended) in
      let p = explore_begins model n done todo in
      (p.0, s.rest ∙ sym (append-nil _) ∙ taken ∙ p.1)

  -- and all of them where nothing is left to do
  pub stage_end : (done : List Instance) → Stage model start done [] → reached model start ≡ done
  stage_end done s = s.rest ∙ explore_nothing model (instance_count model - length done) done
