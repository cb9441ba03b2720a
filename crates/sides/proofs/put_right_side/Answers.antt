-- `sides::put_right_side` meets its contract.
-- It is the formula at a spot with no steps around it.
use mathlib.Core.List.{[]}
use Rattle.sides.specs.Steps.{state_after, none}
use Rattle.sides.proofs.put_right_side.Goals as goal

pub returns : goal.returns
unfolding state_after
returns c =
    let put = rw c.in_ok-as_mut_array.ensures.cases.same at c.put_side.ensures.told in
    record {
      few = c.put_side.ensures.few;
      told = record {
        size = put.grows.size;
        most = put.grows.most;
        told = λ process f g laid spotted long. put.told process f g [] laid spotted none;
      };
    }
