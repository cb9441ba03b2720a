-- `formulas::parameters_of` meets its contract.
-- The first ranges, at most the four that there are.
use Rattle.std.proofs.Common.{◌≡◌, [], ◌∷◌, length, min, ap, rules, ◌∙◌}
use Rattle.formulas.proofs.Bodies.{signature}
use Rattle.formulas.proofs.parameters.parameters_of.Goals as goal

pub returns : goal.returns
returns c =
    let a = c.args in
    let four : length a.e.ranges ≡ 4 = search rules in
    signature a.e.ranges (0 ∷ 0 ∷ 0 ∷ 0 ∷ []) a.e.k c.min.result four
    (c.min.ensures ∙ ap (λ n. min n 4) c.from.ensures)
