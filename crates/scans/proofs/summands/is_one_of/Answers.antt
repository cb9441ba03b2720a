-- `scans::is_one_of` meets its contract.
-- Each arm is one of the three ways in which actions are spelled.
use native.Mathlib.Omega.{arith}
use Prim.Native.Nat.{ℕ}
use mathlib.Core.Path.{◌≡◌, sym, ap}
use mathlib.Core.Bool.{Bool}
use borrow.Author.Tests.{ne_eqb}
use Rattle.scans.specs.Summands.{IsOneOf}
use Rattle.scans.proofs.Matching.{by_code, one_of_told}
use Rattle.scans.proofs.summands.is_one_of.Goals as goal

pub returns-in_default : goal.returns-in_default
unfolding by_code
returns-in_default c =
    let by : ℕ → Bool = λ code. by_code c.args.action code c.element-a.result in
    let decided : (r : Bool) → r ≡ by c.element-code.result → IsOneOf c.args.sheet.now c.args.at c.args.action r =
    λ r q. one_of_told q c.from-from.ensures c.element-code.ensures c.element-a.ensures in
    let code = c.element-code.result in
    decided _ (simp (ne_eqb code 0x35 (λ h. omega arith), ne_eqb code 0x36 (λ h. omega arith)))

pub returns-in-53 : goal.returns-in-53
unfolding by_code
returns-in-53 c =
    let by : ℕ → Bool = λ code. by_code c.args.action code c.element-a.result in
    let decided : (r : Bool) → r ≡ by c.element-code.result → IsOneOf c.args.sheet.now c.args.at c.args.action r =
    λ r q. one_of_told q c.from-from.ensures c.element-code.ensures c.element-a.ensures in
    decided _ (ap by (sym c.in-53.is))

pub returns-in-54 : goal.returns-in-54
unfolding by_code
returns-in-54 c =
    let by : ℕ → Bool = λ code. by_code c.args.action code c.element-a.result in
    let decided : (r : Bool) → r ≡ by c.element-code.result → IsOneOf c.args.sheet.now c.args.at c.args.action r =
    λ r q. one_of_told q c.from-from.ensures c.element-code.ensures c.element-a.ensures in
    decided _ (ap by (sym c.in-54.is))
