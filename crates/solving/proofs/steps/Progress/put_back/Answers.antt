-- `Progress::put_back` meets its contract: one number of each set changes, and the readers of j join what is dirty.
-- So what is not dirty then was not dirty, and is at w if it reads j.
use Rattle.solving.proofs.StepLaws.{puts_back}
use Rattle.solving.proofs.steps.Progress.put_back.Goals as goal

pub returns : goal.returns
returns c =
    puts_back c.args.graph.now c.args.w c.args.self c.put-more.result c.requires
    c.put-truth.ensures c.put-more.ensures c.with_unlike-dirty.ensures
