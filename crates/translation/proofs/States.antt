-- Terms for the parameters stay in reach and in range: at the start, in a summand, and after its step.
-- `Ready` says so of a list of terms; a substituted term's range is not above that of the term.
use Rattle.std.specs.Prelude.{ℕ, zero, suc, ◌+◌, ◌≤◌, ◌<◌, ◌≡◌, refl, List, [], ◌∷◌, ◌++◌, length, get_or}
use Rattle.std.proofs.Common.{arith, ap, append_assoc, length-append, leb→le, le→leb, ltb→lt, lt→ltb}
use Rattle.std.proofs.Math.ListN.{get_or-append}
use Rattle.std.proofs.Math.Seq.{get_or-append_seam}
use Rattle.meaning.specs.Logic.{Is, is, never, Is→T, T→Is, and_l, and_r, and_i}
use Rattle.meaning.specs.Formulas.{Term, number, variable, calculated}
use Rattle.meaning.specs.Ranges.{sound_term, sound_terms, term_range, arguments_fit}
use Rattle.translation.specs.Processes.{Summand, Process}
use Rattle.translation.specs.Rules.{well_formed_summand}
use Rattle.translation.specs.Translation.{substituted_term, substituted_terms, variables_from, reach}
use Rattle.translation.specs.RuleLaws.{next_sound, next_fits}
use Rattle.translation.specs.States.{Ready, ReadyTerm, no_term, one_more}

-- this is what 6 and 7 ask of an instance's arguments
pub ready_named : {vs ps : List ℕ} {ts : List Term} → Ready vs ps ts → Is (sound_terms (length vs) ts)
unfolding sound_terms
ready_named no_term = is
ready_named (one_more r rs) = and_i r.named (ready_named rs)

pub ready_fitting : {vs ps : List ℕ} {ts : List Term} → Ready vs ps ts → Is (arguments_fit ts ps vs)
unfolding arguments_fit
ready_fitting no_term = is
ready_fitting (one_more {p} r rs) = and_i (T→Is _ (le→leb _ p r.fitting)) (ready_fitting rs)

pub ready_length : {vs ps : List ℕ} {ts : List Term} → Ready vs ps ts → length ts ≡ length ps
ready_length no_term = refl
ready_length (one_more r rs) = ap suc (ready_length rs)

ready_append : {vs ps qs : List ℕ} {ts us : List Term} → Ready vs ps ts → Ready vs qs us →
    Ready vs (ps ++ qs) (ts ++ us)
ready_append no_term u = u
ready_append (one_more r rs) u = one_more r (ready_append rs u)

-- more variables in reach
sound_more : (t : Term) (k m : ℕ) → k ≤ m → Is (sound_term k t) → Is (sound_term m t)
unfolding sound_term
sound_more (number n) k m l s = s
sound_more (variable i) k m l s = let b = ltb→lt i k (Is→T s) in T→Is _ (lt→ltb i m (omega arith))
sound_more (calculated plus r a b) k m l s =
    and_i (and_i (and_l _ _ (and_l _ _ s)) (sound_more a k m l (and_r _ _ (and_l _ _ s))))
    (sound_more b k m l (and_r _ _ s))

range_more : (t : Term) (vs own : List ℕ) → Is (sound_term (length vs) t) →
    term_range t (vs ++ own) ≡ term_range t vs
unfolding sound_term term_range
range_more (number n) vs own s = refl
range_more (variable i) vs own s = get_or-append vs own 0 i (ltb→lt i _ (Is→T s))
range_more (calculated plus r a b) vs own s = refl

ready_more : {vs ps : List ℕ} {ts : List Term} (own : List ℕ) → Ready vs ps ts → Ready (vs ++ own) ps ts
ready_more own no_term = no_term
ready_more {vs} own (one_more {p} {t} r rs) = one_more {p = p} (record {
  named = sound_more t (length vs) (length (vs ++ own)) (omega (arith, length-append vs own)) r.named;
  fitting = omega (arith, r.fitting, range_more t vs own r.named);
}) (ready_more own rs)

-- the next variables
variables_ready : (vs own : List ℕ) (i : ℕ) → i ≡ length vs → Ready (vs ++ own) own (variables_from i own)
unfolding variables_from sound_term term_range
variables_ready vs [] i h = no_term
variables_ready vs (r ∷ own) i h =
    let later = variables_ready (vs ++ (r ∷ [])) own (suc i) (omega (arith, length-append vs (r ∷ []))) in
    one_more (record {
      named = T→Is _ (lt→ltb i (length (vs ++ (r ∷ own))) (omega (arith, length-append vs (r ∷ own))));
      fitting = here;
    }) (rw append_assoc at later)
  where
    here : get_or (vs ++ (r ∷ own)) i 0 ≤ r
    here = rw h (omega (arith, get_or-append_seam vs r own 0))

-- after substituting: a term of the variables of ranges ps becomes one of those of ranges vs
ready_at : {vs ps : List ℕ} {ts : List Term} → Ready vs ps ts → (i : ℕ) → i < length ps →
    ReadyTerm vs (get_or ps i 0) (get_or ts i (number 0))
ready_at no_term i l = absurd (omega arith)
ready_at (one_more r rs) zero l = r
ready_at (one_more r rs) (suc i) l = ready_at rs i (omega arith)

pub substituted_ready : {vs ps : List ℕ} {ts : List Term} → Ready vs ps ts → (t : Term) →
    Is (sound_term (length ps) t) → ReadyTerm vs (term_range t ps) (substituted_term ts t)
unfolding sound_term term_range substituted_term
substituted_ready r (number n) s = record { named = s; fitting = omega arith }
substituted_ready r (variable i) s = ready_at r i (ltb→lt i _ (Is→T s))
substituted_ready r (calculated plus q a b) s = record {
  named = and_i (and_i (and_l _ _ (and_l _ _ s)) (substituted_ready r a (and_r _ _ (and_l _ _ s))).named)
      (substituted_ready r b (and_r _ _ s)).named;
  fitting = omega arith;
}

-- the parameters themselves; a summand's variables; the state after its step
pub start_ready : (ps : List ℕ) → Ready ps ps (variables_from 0 ps)
start_ready ps = variables_ready [] ps 0 refl

reach_ready : {vs ps : List ℕ} {state : List Term} (own : List ℕ) (i : ℕ) → i ≡ length vs →
    Ready vs ps state → Ready (vs ++ own) (ps ++ own) (state ++ variables_from i own)
reach_ready {vs} own i h r = ready_append (ready_more own r) (variables_ready vs own i h)

next_ready : {vs qs : List ℕ} {ts : List Term} → Ready vs qs ts → (ps : List ℕ) (us : List Term) →
    Is (sound_terms (length qs) us) → Is (arguments_fit us ps qs) → Ready vs ps (substituted_terms ts us)
unfolding sound_terms arguments_fit
next_ready r [] [] s f = no_term
next_ready r [] (u ∷ us) s f = never f
next_ready r (p ∷ ps) [] s f = never f
next_ready {vs} {qs} r (p ∷ ps) (u ∷ us) s f =
    let here = substituted_ready r u (and_l _ _ s) in
    let fit = leb→le (term_range u qs) p (Is→T (and_l _ _ f)) in
    one_more {p = p} (record { named = here.named; fitting = omega (arith, here.fitting) })
    (next_ready r ps us (and_r _ _ s) (and_r _ _ f))

-- of a summand, where q quantifiers are around
module _ (process : Process) (s : Summand) (f : Is (well_formed_summand process.ranges s)) {vs : List ℕ}
    {state : List Term} (q : ℕ) (h : length process.ranges + q ≡ length vs)
    (r : Ready vs process.ranges state) where
  pub now_ready : Ready (vs ++ s.own) (process.ranges ++ s.own) (reach process state q s)
  now_ready = reach_ready s.own (length process.ranges + q) h r

  pub then_ready : Ready (vs ++ s.own) process.ranges
      (substituted_terms (reach process state q s) s.next)
  then_ready = next_ready now_ready process.ranges s.next
      (next_sound process.ranges s f) (next_fits process.ranges s f)

  pub more_in_reach : length process.ranges + (q + length s.own) ≡ length (vs ++ s.own)
  more_in_reach = omega (arith, length-append vs s.own)
