-- Definitions that the theorems of `proofs/Computed` speak of.
-- Each stands alone; what follows from them is there.
use Rattle.std.specs.Prelude.{ℕ, Bool, true, false, List, [], ◌∷◌}
use Rattle.meaning.specs.Formulas.{Term, number, variable, calculated, equal, less, unequal, not_less}
use Rattle.meaning.specs.Formulas.{Formula, constant, joined, quantified, compared, instance}
use Rattle.meaning.specs.Models.{model_equation, Model, meaning}
use Rattle.translation.specs.Processes.{Summand, Process}
use Rattle.translation.specs.Modal.{any_action, only, other_than}
use Rattle.translation.specs.Modal.{Modal, truth, combined, after, fixed_point, of_fixed_point}
use Rattle.translation.specs.Modal.{satisfies}
use Rattle.translation.specs.Rules.{well_formed_input}
use Rattle.translation.specs.Translation.{translated}
use Rattle.translation.specs.Translation.{each_four_quantifiers}

-- a process and a formula, the model that they give, and whether the start state satisfies the formula
pub record Sample : Type 0 where
  pub process : Process
  pub formula : Modal
  pub model : Model
  pub verdict : Bool

-- what the definitions make of it
pub record Outcome : Type 0 where
  pub accepted : Bool
  pub translation : Model
  pub few_quantifiers : Bool
  pub satisfied : Bool
  pub model_holds : Bool

unfoldable pub outcome : Sample → Outcome
outcome s = record {
  accepted = well_formed_input s.process s.formula;
  translation = translated s.process s.formula;
  few_quantifiers = each_four_quantifiers (translated s.process s.formula);
  satisfied = satisfies s.process s.formula;
  model_holds = meaning (translated s.process s.formula) 0 s.process.initial;
}

unfoldable pub expected : Sample → Outcome
expected s = record {
  accepted = true;
  translation = s.model;
  few_quantifiers = true;
  satisfied = s.verdict;
  model_holds = s.verdict;
}

-- shorter to write
abbrev sample : Process → Modal → Model → Bool → Sample
sample p f m b = record { process = p; formula = f; model = m; verdict = b }

abbrev process : List ℕ → List ℕ → List Summand → Process
process ranges initial summands = record { ranges = ranges; initial = initial; summands = summands }

abbrev summand : List ℕ → Formula → ℕ → List Term → Summand
summand own condition action next =
    record { own = own; condition = condition; action = action; next = next }

abbrev x : Term
x = variable 0

abbrev y : Term
y = variable 1

abbrev z : Term
z = variable 2

abbrev increased : ℕ → Term → Term
increased r t = calculated true r t (number 1)

abbrev decreased : ℕ → Term → Term
decreased r t = calculated false r t (number 1)

-- 09010300/0700172100200200220321002001/08331230113400311111
abbrev counting : List Summand
counting = summand [] (compared less x (number 2)) 0 (increased 3 x ∷ []) ∷ []

abbrev always_a_step : Sample
always_a_step = sample (process (3 ∷ []) (0 ∷ []) counting)
    (fixed_point true (combined true (after true any_action (of_fixed_point 0))
    (after false any_action (truth true))))
    (model_equation true (3 ∷ []) (joined true
    (joined false (compared not_less x (number 2)) (instance 0 (increased 3 x ∷ [])))
    (joined true (compared less x (number 2)) (constant true))) ∷ [])
    false

-- 09010301/0700172100200200220321002001/0832133111340031360011
abbrev some_time_a_step : Sample
some_time_a_step = sample (process (3 ∷ []) (1 ∷ []) counting)
    (fixed_point false (combined false (after false any_action (of_fixed_point 0))
    (after false (only 0) (truth true))))
    (model_equation false (3 ∷ []) (joined false
    (joined true (compared less x (number 2)) (instance 0 (increased 3 x ∷ [])))
    (joined true (compared less x (number 2)) (constant true))) ∷ [])
    true

-- a counter goes down and round (2026-04), from 1 to 0, 3 and 2, where step 1 can be done
-- 09010401/0700182100200200230421002001/07001621002002012100/0832133111340031360111
abbrev going_round : Sample
going_round = sample (process (4 ∷ []) (1 ∷ [])
    (summand [] (compared unequal x (number 2)) 0 (decreased 4 x ∷ []) ∷
    summand [] (compared equal x (number 2)) 1 (x ∷ []) ∷ []))
    (fixed_point false (combined false (after false any_action (of_fixed_point 0))
    (after false (only 1) (truth true))))
    (model_equation false (4 ∷ []) (joined false
    (joined false
    (joined true (compared unequal x (number 2)) (instance 0 (decreased 4 x ∷ [])))
    (joined true (compared equal x (number 2)) (instance 0 (x ∷ []))))
    (joined true (compared equal x (number 2)) (constant true))) ∷ [])
    true

-- no fixed point in front; two own variables; a diamond within a box, at the state after the box's step
-- 09010300/07020202162304200220012102012102/0700192100200201220221002001/08301131113331360030360110
abbrev two_less_one : Term
two_less_one = calculated false 4 (number 2) (number 1)

-- the diamond at the state t, where the second of its own variables is `own`
abbrev inner_diamond : Term → Term → Formula
inner_diamond t own = joined false
    (quantified false 2 (quantified false 2
    (joined true (compared equal two_less_one own) (instance 1 (own ∷ [])))))
    (joined true (compared not_less t (number 2)) (instance 1 (increased 2 t ∷ [])))

abbrev nested : Sample
nested = sample (process (3 ∷ []) (0 ∷ [])
    (summand (2 ∷ 2 ∷ []) (compared equal two_less_one z) 1 (z ∷ []) ∷
    summand [] (compared not_less x (number 2)) 1 (increased 2 x ∷ []) ∷ []))
    (after true any_action (after false any_action
    (fixed_point true (after false (only 0) (after true (only 1) (truth false))))))
    (model_equation true (3 ∷ []) (joined true
    (quantified true 2 (quantified true 2
    (joined false (compared unequal two_less_one z) (inner_diamond z (variable 4)))))
    (joined false (compared less x (number 2)) (inner_diamond (increased 2 x) z))) ∷
    model_equation true (3 ∷ []) (constant false) ∷ [])
    false

-- three fixed points, one within the other and one beside; no step has action 1
-- 09010301/070102182101200000220321002101/0832131232340131360110321234023400
abbrev beside : Sample
beside = sample (process (3 ∷ []) (1 ∷ [])
    (summand (2 ∷ []) (compared unequal y (number 0)) 0 (calculated true 3 x y ∷ []) ∷ []))
    (fixed_point false (combined false
    (combined true (fixed_point false (of_fixed_point 1)) (after false (only 1) (truth false)))
    (fixed_point false (combined true (of_fixed_point 2) (of_fixed_point 0)))))
    (model_equation false (3 ∷ []) (joined false
    (joined true (instance 1 (x ∷ [])) (constant false)) (instance 2 (x ∷ []))) ∷
    model_equation false (3 ∷ []) (instance 1 (x ∷ [])) ∷
    model_equation false (3 ∷ []) (joined true (instance 2 (x ∷ [])) (instance 0 (x ∷ []))) ∷ [])
    false

-- a box for action 1 within one for any; a constant condition is negated too
-- 09010201/0700192204210020002000002100/070011012001/083230113036013312340110
abbrev constants : Sample
constants = sample (process (2 ∷ []) (1 ∷ [])
    (summand [] (compared not_less (calculated true 4 x (number 0)) (number 0)) 0 (x ∷ []) ∷
    summand [] (constant true) 1 (number 1 ∷ []) ∷ []))
    (fixed_point false (after true any_action (after true (only 1)
    (fixed_point true (combined true (of_fixed_point 1) (truth false))))))
    (model_equation false (2 ∷ []) (joined true
    (joined false (compared less (calculated true 4 x (number 0)) (number 0)) inner_box)
    (joined false (constant false) inner_box)) ∷
    model_equation true (2 ∷ []) (joined true (instance 1 (x ∷ [])) (constant false)) ∷ [])
    false
  where
    inner_box : Formula
    inner_box = joined false (constant false) (instance 1 (number 1 ∷ []))

-- two parameters; any action but 5; fixed points keep their numbers behind the equation in front
-- 090202020001/07010217210220010521012102/07001621002101032202210020012101/08123135053331113400303603323401
abbrev in_front : Sample
in_front = sample (process (2 ∷ 2 ∷ []) (0 ∷ 1 ∷ [])
    (summand (2 ∷ []) (compared less z (number 1)) 5 (y ∷ z ∷ []) ∷
    summand [] (compared equal x y) 3 (increased 2 x ∷ y ∷ []) ∷ []))
    (combined true
    (after false (other_than 5) (fixed_point true (after false any_action (of_fixed_point 0))))
    (after true (only 3) (fixed_point false (of_fixed_point 1))))
    (model_equation true (2 ∷ 2 ∷ []) (joined true
    (joined true (compared equal x y) (instance 1 (increased 2 x ∷ y ∷ [])))
    (joined false (compared unequal x y) (instance 2 (increased 2 x ∷ y ∷ [])))) ∷
    model_equation true (2 ∷ 2 ∷ []) (joined false
    (quantified false 2 (joined true (compared less z (number 1)) (instance 1 (y ∷ z ∷ []))))
    (joined true (compared equal x y) (instance 1 (increased 2 x ∷ y ∷ [])))) ∷
    model_equation false (2 ∷ 2 ∷ []) (instance 2 (x ∷ y ∷ [])) ∷ [])
    false

unfoldable pub samples : List Sample
samples = always_a_step ∷ some_time_a_step ∷ going_round ∷ nested ∷ beside ∷ constants ∷ in_front ∷ []
