-- `sides::Source::put_fixed` meets its contract.
-- The instance is that of the equation with the fixed point's number.
use Rattle.sides.proofs.SidesTold.{fixed_told}
use Rattle.sides.proofs.Source.put_fixed.Goals as goal

pub returns : goal.returns
returns c =
    record { few = c.put_instance.ensures.few; told = fixed_told c.equation_number.ensures c.put_instance.ensures.told }
