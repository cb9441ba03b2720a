-- `formulas::is_fitting` meets its contract.
-- What is told of the formula that was read; where none was read, nothing is wrong with its instances.
use Rattle.std.proofs.Common.{rules, ◌≡◌, ◌∙◌}
use Rattle.formulas.proofs.Bodies.{fits_there, fitting_known}
use Rattle.formulas.proofs.is_fitting.Goals as goal

pub returns : goal.returns
returns c =
    let a = c.args in
    let asked : c.is_none_or.result ≡ fits_there c.read_body.result = search rules in
    asked ∙ fitting_known a.body.now a.e a.equations a.count c.read_body.result c.read_body.ensures
