-- Definitions that the theorems of `proofs/Samples` speak of.
-- Each stands alone; what follows from them is there.
use Rattle.std.specs.Prelude.{ℕ, zero, suc, ◌/◌, ◌%◌, true, false, cond, List, [], ◌∷◌, ◌++◌, eqb, replicate}
use Rattle.meaning.specs.Formulas.{Term, number, variable, calculated, equal, less, unequal, not_less}
use Rattle.meaning.specs.Formulas.{Formula, constant, compared}
use Rattle.reading.specs.Reading.{Refusal}
use Rattle.translation.specs.Processes.{Summand, Process}
use Rattle.translation.specs.Modal.{any_action, only, other_than}
use Rattle.translation.specs.Modal.{Modal, truth, combined, after, fixed_point, of_fixed_point}

-- the bytes of a number, as it is written in hexadecimal
unfoldable pub bytes_before : ℕ → ℕ → List ℕ → List ℕ
bytes_before zero n bytes = bytes
bytes_before (suc most) n bytes = cond (eqb n 0) bytes (bytes_before most (n / 256) (n % 256 ∷ bytes))

-- ---- what is read
pub data Said : Type 0 where
  says : Refusal → Process → Modal → Said

abbrev summand : List ℕ → Formula → ℕ → List Term → Summand
summand own condition action next = record { own = own; condition = condition; action = action; next = next }

abbrev process : List ℕ → List ℕ → List Summand → Process
process ranges initial summands = record { ranges = ranges; initial = initial; summands = summands }

-- the first variable and 1, in the range r
abbrev one_up : ℕ → Term
one_up r = calculated true r (variable 0) (number 1)

pub data Good : Type 0 where
  good : List ℕ → Process → Modal → Good

unfoldable pub good_inputs : List Good
good_inputs =
    good (0x09010300 ∷ 0x0700172100200200220321002001 ∷ 0x08331230113400311111 ∷ [])
    (process (3 ∷ []) (0 ∷ [])
    (summand [] (compared less (variable 0) (number 2)) 0 (one_up 3 ∷ []) ∷ []))
    (fixed_point true
    (combined true (after true any_action (of_fixed_point 0)) (after false any_action (truth true)))) ∷
    good (0x09010301 ∷ 0x0700172100200200220321002001 ∷ 0x0832133111340031360011 ∷ [])
    (process (3 ∷ []) (1 ∷ [])
    (summand [] (compared less (variable 0) (number 2)) 0 (one_up 3 ∷ []) ∷ []))
    (fixed_point false
    (combined false (after false any_action (of_fixed_point 0)) (after false (only 0) (truth true)))) ∷
    good
    (0x09010300 ∷ 0x07020202162304200220012102012102 ∷ 0x0700192100200201220221002001 ∷
    0x08301131113331360030360110 ∷ [])
    (process (3 ∷ []) (0 ∷ [])
    (summand (2 ∷ 2 ∷ []) (compared equal (calculated false 4 (number 2) (number 1)) (variable 2)) 1
    (variable 2 ∷ []) ∷
    summand [] (compared not_less (variable 0) (number 2)) 1 (one_up 2 ∷ []) ∷
    []))
    (after true any_action (after false any_action
    (fixed_point true (after false (only 0) (after true (only 1) (truth false)))))) ∷
    good (0x09010301 ∷ 0x070102182101200000220321002101 ∷ 0x0832131232340131360110321234023400 ∷ [])
    (process (3 ∷ []) (1 ∷ [])
    (summand (2 ∷ []) (compared unequal (variable 1) (number 0)) 0
    (calculated true 3 (variable 0) (variable 1) ∷ []) ∷ []))
    (fixed_point false (combined false
    (combined true (fixed_point false (of_fixed_point 1)) (after false (only 1) (truth false)))
    (fixed_point false (combined true (of_fixed_point 2) (of_fixed_point 0))))) ∷
    good (0x09010201 ∷ 0x0700192204210020002000002100 ∷ 0x070011012001 ∷ 0x083230113036013312340110 ∷ [])
    (process (2 ∷ []) (1 ∷ [])
    (summand [] (compared not_less (calculated true 4 (variable 0) (number 0)) (number 0)) 0
    (variable 0 ∷ []) ∷
    summand [] (constant true) 1 (number 1 ∷ []) ∷ []))
    (fixed_point false (after true any_action (after true (only 1)
    (fixed_point true (combined true (of_fixed_point 1) (truth false)))))) ∷
    good
    (0x090202020001 ∷ 0x07010217210220010521012102 ∷ 0x07001621002101032202210020012101 ∷
    0x08123135053331113400303603323401 ∷ [])
    (process (2 ∷ 2 ∷ []) (0 ∷ 1 ∷ [])
    (summand (2 ∷ []) (compared less (variable 2) (number 1)) 5 (variable 1 ∷ variable 2 ∷ []) ∷
    summand [] (compared equal (variable 0) (variable 1)) 3
    (one_up 2 ∷ variable 1 ∷ []) ∷ []))
    (combined true
    (after false (other_than 5) (fixed_point true (after false any_action (of_fixed_point 0))))
    (after true (only 3) (fixed_point false (of_fixed_point 1)))) ∷
    -- notes anywhere; fixed points one after the other
    good (0x0300 ∷ 0x0900 ∷ 0x03 ∷ 0x0812323400333401 ∷ 0x03ff ∷ []) (process [] [] [])
    (combined true (fixed_point false (of_fixed_point 0)) (fixed_point true (of_fixed_point 1))) ∷
    -- sixteen summands
    good (0x0900 ∷ (replicate 16 0x07001100 ++ (0x0811 ∷ [])))
    (process [] [] (replicate 16 (summand [] (constant true) 0 []))) (truth true) ∷
    []

-- ---- what is refused, at which line
pub data Bad : Type 0 where
  bad : ℕ → List ℕ → Bad

unfoldable pub bad_inputs : List Bad
bad_inputs =
    -- no `08`
    bad 1 [] ∷
    bad 2 (0x0900 ∷ []) ∷
    bad 3 (0x0300 ∷ 0x0900 ∷ []) ∷
    -- the order of the frames, and how many there are
    bad 1 (0x0700 ∷ 0x0900 ∷ 0x0811 ∷ []) ∷
    bad 1 (0x0811 ∷ 0x0900 ∷ []) ∷
    bad 2 (0x0900 ∷ 0x0900 ∷ 0x0811 ∷ []) ∷
    bad 3 (0x0900 ∷ 0x0811 ∷ 0x0811 ∷ []) ∷
    bad 3 (0x0900 ∷ 0x0811 ∷ 0x07001100 ∷ []) ∷
    bad 3 (0x0900 ∷ 0x083211 ∷ 0x08 ∷ []) ∷
    bad 2 (0x0900 ∷ 0x010000 ∷ 0x0811 ∷ []) ∷
    bad 18 (0x0900 ∷ (replicate 17 0x07001100 ++ (0x0811 ∷ []))) ∷
    -- `09`: five parameters, a value too few, one too many, one not below its range, ranges 0 and 17
    bad 1 (0x0905 ∷ 0x0811 ∷ []) ∷
    bad 1 (0x09050202020202 ∷ 0x0811 ∷ []) ∷
    bad 1 (0x090102 ∷ []) ∷
    bad 1 (0x0901020200 ∷ 0x0811 ∷ []) ∷
    bad 1 (0x09010202 ∷ 0x0811 ∷ []) ∷
    bad 1 (0x09010000 ∷ 0x0811 ∷ []) ∷
    bad 1 (0x09011100 ∷ 0x0811 ∷ []) ∷
    -- `07`: no term for a parameter, one of a larger range, action 16, an instance, a quantifier, range 17,
    -- five own variables, a variable that is not there, a byte too many
    bad 2 (0x09010200 ∷ 0x07001100 ∷ 0x0811 ∷ []) ∷
    bad 2 (0x09010200 ∷ 0x07001100220321002001 ∷ 0x0811 ∷ []) ∷
    bad 3 (0x0900 ∷ 0x07001100 ∷ 0x07001110 ∷ 0x0811 ∷ []) ∷
    bad 2 (0x0900 ∷ 0x07001a000000 ∷ 0x0811 ∷ []) ∷
    bad 2 (0x0900 ∷ 0x070014021100 ∷ 0x0811 ∷ []) ∷
    bad 2 (0x0900 ∷ 0x0701111100 ∷ 0x0811 ∷ []) ∷
    bad 2 (0x0900 ∷ 0x070502020202021100 ∷ 0x0811 ∷ []) ∷
    bad 2 (0x09010200 ∷ 0x070102162101210200 ∷ 0x0811 ∷ []) ∷
    bad 2 (0x0900 ∷ 0x0700110000 ∷ 0x0811 ∷ []) ∷
    -- `08`: `34 n` outside its fixed point, actions 16, a formula too few, a byte too many, a test of 01
    bad 2 (0x0900 ∷ 0x083400 ∷ []) ∷
    bad 2 (0x0900 ∷ 0x08323401 ∷ []) ∷
    bad 2 (0x0900 ∷ 0x08321334003411 ∷ []) ∷
    bad 2 (0x0900 ∷ 0x08123234003400 ∷ []) ∷
    bad 2 (0x0900 ∷ 0x0812323400333400 ∷ []) ∷
    bad 2 (0x0900 ∷ 0x0830361011 ∷ []) ∷
    bad 2 (0x0900 ∷ 0x0831351011 ∷ []) ∷
    bad 2 (0x0900 ∷ 0x08121134 ∷ []) ∷
    bad 2 (0x0900 ∷ 0x081111 ∷ []) ∷
    bad 2 (0x0900 ∷ 0x081620002000 ∷ []) ∷
    []
