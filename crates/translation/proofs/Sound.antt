-- THEOREM: 01 admits the model exactly when it has at most eight equations and nowhere a fifth quantifier.
-- Each equation has the process's parameters and, by SoundSides, a right side that 6 and 7 leave.
use Rattle.std.specs.Prelude.{ℕ, zero, suc, ◌+◌, ◌≤◌, ◌<◌, ◌≡◌, refl, Bool, get_or, leb}
use Rattle.std.proofs.Common.{arith, leb→le, le→leb, lt→ltb}
use Rattle.std.proofs.Math.Bool.{true}
use mathlib.Core.List.{List, [], ◌∷◌, ◌++◌}
use Rattle.std.proofs.Math.ListN.{length}
use Rattle.meaning.specs.Logic.{◌and◌, Is, is, Is→T, T→Is, and_l, and_r, and_i, same_truth}
use Rattle.meaning.specs.Formulas.{Formula, constant, joined, quantified, compared, instance}
use Rattle.meaning.specs.Models.{Model}
use Rattle.meaning.specs.Ranges.{sound, signatures, typed}
use Rattle.meaning.specs.Ranges.{well_formed_equation, well_formed_equations, well_formed}
use Rattle.meaning.proofs.Typed.{signatures_length, well_formed_count, well_formed_all}
use Rattle.translation.specs.Processes.{Process}
use Rattle.translation.specs.Modal.{fixed_points}
use Rattle.translation.specs.Modal.{Modal, truth, combined, after, fixed_point, of_fixed_point}
use Rattle.translation.specs.Rules.{well_formed_process, well_formed_formula, well_formed_input}
use Rattle.translation.specs.Translation.{variables_from, equation_of, equations}
use Rattle.translation.specs.Translation.{translated, translated_start}
use Rattle.translation.specs.Translation.{four_quantifiers, each_four_quantifiers}
use Rattle.translation.specs.RuleLaws.{Around, around_none, around_more, input_process, input_formula}
use Rattle.translation.specs.RuleLaws.{parameter_count, parameter_ranges, initial_within}
use Rattle.translation.proofs.States.{start_ready}
use Rattle.translation.specs.SoundSides.{Declared}
use Rattle.translation.proofs.SoundSides.{Equation_of, right_side_kept}
use Rattle.translation.proofs.Correct.{equations_count, translated_cases}

-- equations in a row
equations_append : (declared : List (List ℕ)) (es fs : Model) → Is (well_formed_equations declared es) →
    Is (well_formed_equations declared fs) → Is (well_formed_equations declared (es ++ fs))
unfolding well_formed_equations
equations_append declared [] fs h k = k
equations_append declared (e ∷ es) fs h k =
    and_i (and_l _ _ h) (equations_append declared es fs (and_r _ _ h) k)

four_append : (es fs : Model) → Is (each_four_quantifiers (es ++ fs)) →
    Is (each_four_quantifiers es) × Is (each_four_quantifiers fs)
unfolding each_four_quantifiers
four_append [] fs h = (is, h)
four_append (e ∷ es) fs h = let r = four_append es fs (and_r _ _ h) in (and_i (and_l _ _ h) r.0, r.1)

module _ (process : Process) (formed : Is (well_formed_process process)) (before : ℕ)
    (declared : List (List ℕ)) (known : Declared process declared) where
  abbrev There : ℕ → Type 0
  There = Equation_of process formed before declared known

  equation_kept : (s : Bool) (f : Modal) (around : List ℕ) (n : ℕ) → Is (well_formed_formula around n f) →
      Around around There → n + fixed_points f + before ≤ length declared →
      Is (four_quantifiers 0 (equation_of process before s f n).body) →
      Is (well_formed_equation declared (equation_of process before s f n))
  unfolding well_formed_equation
  equation_kept s f around n p a l k =
      let ps = process.ranges in
      let body = right_side_kept process formed before declared known f around n p a l
      (variables_from 0 ps) 0 ps (omega arith) (start_ready ps) k in
      let few = T→Is _ (le→leb _ 4 (parameter_count process formed)) in
      and_i (and_i (and_i few (parameter_ranges process formed)) body.by_6) body.by_7

  equations_kept : (f : Modal) (around : List ℕ) (n : ℕ) → Is (well_formed_formula around n f) →
      Around around There → n + fixed_points f + before ≤ length declared →
      Is (each_four_quantifiers (equations process before f n)) →
      Is (well_formed_equations declared (equations process before f n))
  unfolding equations well_formed_formula fixed_points each_four_quantifiers well_formed_equations
  equations_kept (truth b) around n p a l k = is
  equations_kept (combined all f g) around n p a l k =
      let parts = four_append (equations process before f n) _ k in
      equations_append declared (equations process before f n) _
      (equations_kept f around n (and_l _ _ p) a (omega arith) parts.0)
      (equations_kept g around (n + fixed_points f) (and_r _ _ p) a (omega arith) parts.1)
  equations_kept (after all A f) around n p a l k = equations_kept f around n (and_r _ _ p) a l k
  equations_kept (fixed_point s f) around n p a l k =
      and_i (equation_kept s f (n ∷ around) (suc n) p inner (omega arith) (and_l _ _ k))
      (equations_kept f (n ∷ around) (suc n) p inner (omega arith) (and_r _ _ k))
    where
      inner : Around (n ∷ around) There
      inner = around_more There n around (omega arith) a
  equations_kept (of_fixed_point m) around n p a l k = is

-- the ranges that the equations declare
abbrev Each_has : List ℕ → Model → Type 0
Each_has ps [] = Unit {0}
Each_has ps (e ∷ es) = (e.ranges ≡ ps) × Each_has ps es

each_append : (ps : List ℕ) (es fs : Model) → Each_has ps es → Each_has ps fs → Each_has ps (es ++ fs)
each_append ps [] fs h k = k
each_append ps (e ∷ es) fs h k = (h.0, each_append ps es fs h.1 k)

each_has : (process : Process) (before : ℕ) (f : Modal) (n : ℕ) →
    Each_has process.ranges (equations process before f n)
unfolding equations
each_has process before (truth b) n = tt
each_has process before (combined all f g) n =
    each_append process.ranges (equations process before f n) _
    (each_has process before f n) (each_has process before g (n + fixed_points f))
each_has process before (after all A f) n = each_has process before f n
each_has process before (fixed_point s f) n = (refl, each_has process before f (suc n))
each_has process before (of_fixed_point m) n = tt

each_declared : (ps : List ℕ) (es : Model) → Each_has ps es → (e : ℕ) → e < length (signatures es) →
    get_or (signatures es) e [] ≡ ps
each_declared ps [] h e l = absurd (omega arith)
each_declared ps (m ∷ es) h zero l = h.0
each_declared ps (m ∷ es) h (suc e) l = each_declared ps es h.1 e (omega arith)

module _ (process : Process) (formed : Is (well_formed_process process)) where
  -- a model of such equations, the first of them the start's
  abbrev Finished : Model → Type 0
  Finished model =
      length model ≤ 8 → Is (each_four_quantifiers model) → Is (well_formed model (translated_start process))

  finished : (model : Model) → Each_has process.ranges model → 0 < length model → length model ≤ 8 →
      Is (well_formed_equations (signatures model) model) → Is (well_formed model (translated_start process))
  unfolding well_formed typed
  finished model each some few h =
      let here : 0 < length (signatures model) = omega (arith, signatures_length model) in
      and_i (and_i (T→Is _ (le→leb _ 8 few)) h) (and_i (T→Is _ (lt→ltb 0 _ here))
      (rw (each_declared process.ranges model each 0 here) (initial_within process formed)))

  begun : (s : Bool) (f : Modal) → Is (well_formed_formula [] 0 (fixed_point s f)) →
      Finished (equations process 0 (fixed_point s f) 0)
  unfolding fixed_points
  begun s f p few k = finished model each (omega (arith, counted)) few
      (equations_kept process formed 0 (signatures model) known (fixed_point s f) [] 0 p
      (around_none _)
      (omega (arith, counted, signatures_length model)) k)
    where
      model : Model
      model = equations process 0 (fixed_point s f) 0

      each : Each_has process.ranges model
      each = each_has process 0 (fixed_point s f) 0

      known : Declared process (signatures model)
      known = each_declared process.ranges model each

      counted : length model ≡ suc (fixed_points f)
      counted = equations_count process 0 (fixed_point s f) 0

  enclosed : (f : Modal) → Is (well_formed_formula [] 0 f) →
      Finished (equation_of process 1 true f 0 ∷ equations process 1 f 0)
  unfolding well_formed_equations each_four_quantifiers
  enclosed f p few k = finished model each (omega arith) few
      (and_i (equation_kept process formed 1 declared known true f [] 0 p (around_none _) fit (and_l _ _ k))
      (equations_kept process formed 1 declared known f [] 0 p (around_none _) fit (and_r _ _ k)))
    where
      model : Model
      model = equation_of process 1 true f 0 ∷ equations process 1 f 0

      declared : List (List ℕ)
      declared = signatures model

      each : Each_has process.ranges model
      each = (refl, each_has process 1 f 0)

      known : Declared process declared
      known = each_declared process.ranges model each

      fit : 0 + fixed_points f + 1 ≤ length declared
      fit = omega (arith, equations_count process 1 f 0, signatures_length model)

pub translation_well_formed : (process : Process) (f : Modal) → Is (well_formed_input process f) →
    length (translated process f) ≤ 8 → Is (each_four_quantifiers (translated process f)) →
    Is (well_formed (translated process f) (translated_start process))
translation_well_formed process f h =
    let formed = input_process process f h in
    translated_cases process
    (λ (g : Modal) (model : Model). Is (well_formed_formula [] 0 g) → Finished process formed model)
    (begun process formed) (enclosed process formed) f (input_formula process f h)

-- and 01 refuses the others: a model with more equations, or with a fifth quantifier, is not well-formed
sound_four : (f : Formula) (k q : ℕ) → Is (sound k q f) → Is (four_quantifiers q f)
unfolding sound four_quantifiers
sound_four (constant b) k q s = is
sound_four (joined all f g) k q s = and_i (sound_four f k q (and_l _ _ s)) (sound_four g k q (and_r _ _ s))
sound_four (quantified all r f) k q s =
    and_i (and_l _ _ (and_l _ _ s)) (sound_four f (suc k) (suc q) (and_r _ _ s))
sound_four (compared t a b) k q s = is
sound_four (instance e us) k q s = is

each_sound_four : (declared : List (List ℕ)) (es : Model) → Is (well_formed_equations declared es) →
    Is (each_four_quantifiers es)
unfolding well_formed_equations well_formed_equation each_four_quantifiers
each_sound_four declared [] h = is
each_sound_four declared (e ∷ es) h =
    and_i (sound_four e.body (length e.ranges) 0 (and_r _ _ (and_l _ _ (and_l _ _ h))))
    (each_sound_four declared es (and_r _ _ h))

pub translation_limits : (process : Process) (f : Modal) →
    Is (well_formed (translated process f) (translated_start process)) →
    (length (translated process f) ≤ 8) × Is (each_four_quantifiers (translated process f))
translation_limits process f h =
    let all = well_formed_all (translated process f) (translated_start process) h in
    (well_formed_count (translated process f) (translated_start process) h, each_sound_four _ _ all)

-- so, of an accepted input, 01 refuses the model exactly when one of these two limits is passed
pub translation_admitted : (process : Process) (f : Modal) → Is (well_formed_input process f) →
    well_formed (translated process f) (translated_start process) ≡
    (leb (length (translated process f)) 8 and each_four_quantifiers (translated process f))
translation_admitted process f h = same_truth _ _
    (λ k. let limits = translation_limits process f k in and_i (T→Is _ (le→leb _ 8 limits.0)) limits.1)
    (λ k. translation_well_formed process f h (leb→le _ 8 (Is→T (and_l _ _ k))) (and_r _ _ k))
