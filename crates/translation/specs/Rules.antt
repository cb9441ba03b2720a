-- DEFINITIONS: what refusal 14 leaves of an input. Request 2026-10.
-- The rules of the frames `09`, `07` and `08`, over their syntax trees.
use Rattle.std.specs.Prelude.{ℕ, suc, ◌+◌, Bool, true, false, List, [], ◌∷◌, ◌++◌, length, eqb, leb}
use Rattle.meaning.specs.Logic.{◌and◌, ◌or◌}
use Rattle.meaning.specs.Formulas.{Formula, constant, joined, quantified, compared, instance}
use Rattle.meaning.specs.Ranges.{sound_terms, sound, arguments_fit, within, all_ranges}
use Rattle.translation.specs.Processes.{Summand, Process}
use Rattle.translation.specs.Modal.{Actions, any_action, only, other_than, fixed_points}
use Rattle.translation.specs.Modal.{Modal, truth, combined, after, fixed_point, of_fixed_point}

-- "a formula of 01 without instances or quantifiers"
unfoldable pub plain : Formula → Bool
plain (constant b) = true
plain (joined all f g) = plain f and plain g
plain (quantified all r f) = false
plain (compared t a b) = true
plain (instance e ts) = false

-- `07`, where the parameters have the ranges rs: "count of own variables (0 to 4), their ranges, condition
-- (..), action 0 to 15, a next-state term per parameter, under 01's range rule; variables are the
-- parameters, then its own"
unfoldable pub well_formed_summand : List ℕ → Summand → Bool
well_formed_summand rs s =
    leb (length s.own) 4 and all_ranges s.own and
    (plain s.condition and sound (length (rs ++ s.own)) 0 s.condition) and leb s.action 15 and
    (sound_terms (length (rs ++ s.own)) s.next and arguments_fit s.next rs (rs ++ s.own))

unfoldable pub well_formed_summands : List ℕ → List Summand → Bool
well_formed_summands rs [] = true
well_formed_summands rs (s ∷ ss) = well_formed_summand rs s and well_formed_summands rs ss

-- `09`: "parameter count 0 to 4, ranges, initial values below them"; "up to sixteen `07`"
unfoldable pub well_formed_process : Process → Bool
well_formed_process process =
    leb (length process.ranges) 4 and all_ranges process.ranges and
    within process.initial process.ranges and
    leb (length process.summands) 16 and well_formed_summands process.ranges process.summands

-- "`36 a` action a or `35 a` any other", actions being 0 to 15
unfoldable pub action_fits : Actions → Bool
action_fits any_action = true
action_fits (only a) = leb a 15
action_fits (other_than a) = leb a 15

-- n is one of ns
unfoldable pub among : ℕ → List ℕ → Bool
among n [] = false
among n (m ∷ ns) = eqb n m or among n ns

-- `08`: "`34 n` the variable of fixed point n, within it only". The next fixed point has number n;
-- `around` has the numbers of those around
unfoldable pub well_formed_formula : List ℕ → ℕ → Modal → Bool
well_formed_formula around n (truth b) = true
well_formed_formula around n (combined all f g) =
    well_formed_formula around n f and well_formed_formula around (n + fixed_points f) g
well_formed_formula around n (after all A f) = action_fits A and well_formed_formula around n f
well_formed_formula around n (fixed_point greatest f) = well_formed_formula (n ∷ around) (suc n) f
well_formed_formula around n (of_fixed_point m) = among m around

-- an input that is not refused with 14
unfoldable pub well_formed_input : Process → Modal → Bool
well_formed_input process f = well_formed_process process and well_formed_formula [] 0 f
