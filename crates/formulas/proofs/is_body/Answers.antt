-- `formulas::is_body` meets its contract.
-- Something was read, and it ends where the body ends.
use Rattle.std.proofs.Common.{rules, ◌≡◌, length, [], ◌∙◌}
use Rattle.formulas.proofs.Bodies.{ends_there, body_known}
use Rattle.formulas.proofs.is_body.Goals as goal

pub returns : goal.returns
returns c =
    let a = c.args in
    let asked : c.is_some_and.result ≡ ends_there (length a.body.now) c.read_body.result = search rules in
    asked ∙ body_known a.body.now a.e [] 0 c.read_body.result c.read_body.ensures
