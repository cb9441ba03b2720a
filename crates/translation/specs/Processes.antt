-- DEFINITIONS: processes, their states and steps. Request 2026-10; source document 002, 2.2, 2.3.
-- A summand can take a state to the next one where its condition holds for some values of its own variables.
use Rattle.std.specs.Prelude.{ℕ, Bool, false, List, [], ◌∷◌, ◌++◌, eqb}
use Rattle.meaning.specs.Logic.{◌and◌, ◌or◌}
use Rattle.meaning.specs.Solution.{Args, Set, same}
use Rattle.meaning.specs.Formulas.{Term, Formula, values, holds}
use Rattle.meaning.specs.Models.{in_range, nowhere}

-- `07`: "count of own variables (0 to 4), their ranges, condition (a formula of 01 without instances or
-- quantifiers), action 0 to 15, a next-state term per parameter";
-- "variables are the parameters, then its own"
pub record Summand : Type 0 where
  pub own : List ℕ
  pub condition : Formula
  pub action : ℕ
  pub next : List Term

-- `09`: "parameter count 0 to 4, ranges, initial values below them"; then the summands, in file order
pub record Process : Type 0 where
  pub ranges : List ℕ
  pub initial : List ℕ
  pub summands : List Summand

-- 002, 2.3: "S = {X(d) | d in D}": all values of the parameters in range
abbrev pub states : Process → List Args
states process = in_range process.ranges

-- p holds for one of D
unfoldable pub any : List Args → Set → Bool
any [] p = false
any (x ∷ D) p = p x or any D p

-- 002, 2.3: "c_i(d, e_i) and d' = g_i(d, e_i)", where the summand's own variables have the values e
unfoldable pub leads : Summand → Args → Args → Args → Bool
leads s d e d' = holds s.condition nowhere (d ++ e) and same (values s.next (d ++ e)) d'

-- 002, 2.3: X(d) -a-> X(d'): "i in I and .. exists e_i in D_i .."
unfoldable pub steps : List Summand → Args → ℕ → Args → Bool
steps [] d a d' = false
steps (s ∷ ss) d a d' =
    (eqb s.action a and any (in_range s.own) (λ e. leads s d e d')) or steps ss d a d'
