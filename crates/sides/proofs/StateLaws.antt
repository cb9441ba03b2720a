-- The terms that stand for the variables of a step's summand: the parameters after the steps before it, and its own.
-- The rules say how many there are; a parameter after a step is the next-state term with the terms before it put in.
use Prim.Native.Nat.{ℕ, zero, suc, ◌+◌, ◌-◌, ◌≤◌, ◌<◌}
use native.Mathlib.Omega.{arith}
use mathlib.Core.Path.{◌≡◌, refl, sym, ap, ◌∙◌, subst}
use mathlib.Core.List.{List, [], ◌∷◌, ◌++◌}
use lib.ListN.{length, get_or, length-append, length-map, get_or-map, get_or-append}
use Rattle.meaning.specs.Logic.{Is, never, and_l, and_r}
use Rattle.meaning.specs.Formulas.{Term, number, variable}
use Rattle.meaning.specs.Ranges.{sound_term, sound_terms, arguments_fit}
use Rattle.spelling.specs.Stands.{first, after_one}
use Rattle.translation.specs.Processes.{Summand, Process}
use Rattle.translation.specs.Modal.{Modal}
use Rattle.translation.specs.Rules.{well_formed_summand, well_formed_summands, well_formed_input}
use Rattle.translation.specs.RuleLaws.{own_count, next_sound, next_fits, first_summand, later_summands}
use Rattle.translation.specs.RuleLaws.{input_process, parameter_count, summands_formed}
use Rattle.translation.specs.Translation.{substituted_term, variables_from}
use Rattle.inputs.specs.Inputs.{no_summand}
use Rattle.inputs.specs.InputFrames.{process_frame}
use Rattle.scans.specs.Summands.{nth_summand}
use Rattle.sides.specs.declared.Listed.{Listed}
use Rattle.sides.specs.Steps.{Step, state_after, terms_in, Stacked, none, more, listed, no_step, nth_step}
use Rattle.sides.specs.Told.{Laid}

-- ---- lists of terms
getD_behind : (l m : List Term) (d : Term) (n : ℕ) → length l ≤ n → get_or (l ++ m) n d ≡ get_or m (n - length l) d
getD_behind [] m d n h = ap (λ (i : ℕ). get_or m i d) (omega arith)
getD_behind (t ∷ l) m d zero h = absurd (omega arith)
getD_behind (t ∷ l) m d (suc n) h = getD_behind l m d n (omega arith) ∙ ap (λ (i : ℕ). get_or m i d) (omega arith)

variables_length : (i : ℕ) (rs : List ℕ) → length (variables_from i rs) ≡ length rs
unfolding variables_from
variables_length i [] = refl
variables_length i (r ∷ rs) = ap suc (variables_length (suc i) rs)

nth_variable : (i : ℕ) (rs : List ℕ) (n : ℕ) → n < length rs → get_or (variables_from i rs) n (number 0) ≡ variable (i + n)
unfolding variables_from
nth_variable i [] n h = absurd (omega arith)
nth_variable i (r ∷ rs) zero h = ap variable (omega arith)
nth_variable i (r ∷ rs) (suc n) h = nth_variable (suc i) rs n (omega arith) ∙ ap variable (omega arith)

nth_sound : (k : ℕ) (ts : List Term) (n : ℕ) → Is (sound_terms k ts) → n < length ts → Is (sound_term k (get_or ts n (number 0)))
unfolding sound_terms
nth_sound k [] n h l = absurd (omega arith)
nth_sound k (t ∷ ts) zero h l = and_l (sound_term k t) (sound_terms k ts) h
nth_sound k (t ∷ ts) (suc n) h l = nth_sound k ts n (and_r (sound_term k t) (sound_terms k ts) h) (omega arith)

as_many : (ts : List Term) (ps rs : List ℕ) → Is (arguments_fit ts ps rs) → length ts ≡ length ps
unfolding arguments_fit
as_many [] [] rs h = refl
as_many [] (p ∷ ps) rs h = never h
as_many (t ∷ ts) [] rs h = never h
as_many (t ∷ ts) (p ∷ ps) rs h = ap suc (as_many ts ps rs (and_r _ _ h))

-- ---- what the rules say of a summand
nth_formed : (rs : List ℕ) (ss : List Summand) (j : ℕ) → Is (well_formed_summands rs ss) → j < length ss
    → Is (well_formed_summand rs (get_or ss j no_summand))
nth_formed rs [] j h l = absurd (omega arith)
nth_formed rs (s ∷ ss) zero h l = first_summand rs s ss h
nth_formed rs (s ∷ ss) (suc j) h l = nth_formed rs ss j (later_summands rs s ss h) (omega arith)

-- and of the terms after some steps
module _ (process : Process) (f : Modal) (h : Is (well_formed_input process f)) where
  abbrev ranges : List ℕ
  ranges = process.ranges

  pub summand_formed : (j : ℕ) → j < length process.summands → Is (well_formed_summand ranges (nth_summand process j))
  summand_formed j l =
      nth_formed ranges process.summands j (summands_formed process (input_process process f h)) l

  pub few_parameters : length ranges ≤ 4
  few_parameters = parameter_count process (input_process process f h)

  pub few_own : (j : ℕ) → j < length process.summands → length (nth_summand process j).own ≤ 4
  few_own j l = own_count ranges (nth_summand process j) (summand_formed j l)

  pub term_for_each : (j : ℕ) → j < length process.summands → length (nth_summand process j).next ≡ length ranges
  term_for_each j l = as_many _ _ _ (next_fits ranges (nth_summand process j) (summand_formed j l))

  pub term_sound : (j x : ℕ) → j < length process.summands → x < length ranges
      → Is (sound_term (length (ranges ++ (nth_summand process j).own)) (get_or (nth_summand process j).next x (number 0)))
  term_sound j x l m =
      nth_sound _ (nth_summand process j).next x (next_sound ranges (nth_summand process j) (summand_formed j l))
      (omega (arith, term_for_each j l))

  pub state_length : {steps : List Listed} {n : ℕ} (ss : List Step) → Stacked process steps n ss
      → length (state_after process ss) ≡ length ranges
  unfolding state_after
  state_length [] none = variables_length 0 ranges
  state_length (s ∷ ss) (more l q i k) =
      length-map (nth_summand process s.index).next _ ∙ term_for_each s.index l

  -- what the variables of a step's summand are
  module _ {steps : List Listed} {n : ℕ} (s : Step) (ss : List Step) (stacked : Stacked process steps n ss) where
    pub parameter_in : (x : ℕ) → x < length ranges
        → get_or (terms_in process s ss) x (number 0) ≡ get_or (state_after process ss) x (number 0)
    parameter_in x l =
        get_or-append (state_after process ss) _ (number 0) x (omega (arith, state_length ss stacked))

    pub own_in : (x : ℕ) → length ranges ≤ x → x < length (ranges ++ (nth_summand process s.index).own)
        → get_or (terms_in process s ss) x (number 0) ≡ variable (s.quantifiers + x)
    own_in x l m =
        let own = (nth_summand process s.index).own in
        let size = state_length ss stacked in
        let many = length-append ranges own in
        getD_behind (state_after process ss) (variables_from (length ranges + s.quantifiers) own) (number 0) x
        (omega (arith, size))
        ∙ nth_variable (length ranges + s.quantifiers) own (x - length (state_after process ss)) (omega (arith, size, many))
        ∙ ap variable (omega (arith, size))

-- ---- the parameters at the start, and after a step
pub state_first : (process : Process) (x : ℕ) → x < length process.ranges
    → get_or (state_after process []) x (number 0) ≡ variable x
unfolding state_after
state_first process x l = nth_variable 0 process.ranges x l ∙ ap variable (omega arith)

pub state_next : (process : Process) (s : Step) (ss : List Step) (x : ℕ)
    → get_or (state_after process (s ∷ ss)) x (number 0)
    ≡ substituted_term (terms_in process s ss) (get_or (nth_summand process s.index).next x (number 0))
unfolding state_after substituted_term
state_next process s ss x =
    get_or-map (substituted_term (terms_in process s ss)) (nth_summand process s.index).next x (number 0)

-- ---- the steps in their list
pub record LastStep (process : Process) (steps : List Listed) (n : ℕ) (s : Step) (ss : List Step) : Type 0 where
  pub some : 1 ≤ n
  pub there : s.index < length process.summands
  pub few : s.quantifiers ≤ 4
  pub slot : (nth_step steps n).slot ≡ s.index + 1
  pub around : (nth_step steps n).quantifiers ≡ s.quantifiers
  pub before : Stacked process steps (n - 1) ss

pub last_step : {process : Process} {steps : List Listed} {n : ℕ} {s : Step} {ss : List Step}
    → Stacked process steps n (s ∷ ss) → LastStep process steps n s ss
last_step {process} {steps} (more {n} {s} {ss} l q i rest) =
    let back : suc n - 1 ≡ n = omega arith in
    let here : nth_step steps (suc n) ≡ listed (s.index + 1) s.quantifiers =
    ap (λ (m : ℕ). get_or steps m no_step) back ∙ i in
    record {
      some = omega arith;
      there = l;
      few = q;
      slot = ap (λ (x : Listed). x.slot) here;
      around = ap (λ (x : Listed). x.quantifiers) here;
      before = subst (λ (m : ℕ). Stacked process steps m ss) (sym back) rest;
    }

pub none_before : {process : Process} {steps : List Listed} {ss : List Step} (n : ℕ) → n ≡ 0 → Stacked process steps n ss
    → ss ≡ []
none_before zero e none = refl
none_before (suc n) e (more l q i rest) = absurd (omega arith)

pub none_around : {process : Process} {steps : List Listed} {n : ℕ} → Stacked process steps n [] → n ≡ 0
none_around none = refl

-- ---- how many parameters there are, as it stands on the sheet
pub parameters_there : {process : Process} {f : Modal} {sheet places : List ℕ} → Laid process f sheet places
    → get_or sheet 1 0 ≡ length process.ranges
unfolding process_frame
parameters_there {process} {f} {sheet} l =
    first sheet 1 (length process.ranges) _ (after_one sheet 0 0x09 _ l.sheet_is.first)
