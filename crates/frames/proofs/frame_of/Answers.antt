-- `frames::frame_of` meets its contract.
-- The tests of the code are those of the definition, in its order.
use mathlib.Core.Path.{refl}
use Rattle.frames.specs.Lines.{line_refusal}
use Rattle.frames.proofs.frame_of.Goals as goal

pub returns-then-not-all_digits : goal.returns-then-not-all_digits
unfolding line_refusal
returns-then-not-all_digits c end = rw (← c.all_digits.ensures, c.if-not-all_digits.true) refl

pub returns-then-not-is_valid_line : goal.returns-then-not-is_valid_line
unfolding line_refusal
returns-then-not-is_valid_line c end =
    rw (← c.all_digits.ensures, c.if-not-all_digits.false, ← c.is_valid_line.ensures, c.if-not-is_valid_line.true) refl

pub returns : goal.returns
unfolding line_refusal
returns c end =
    rw (
      ← c.all_digits.ensures,
      c.if-not-all_digits.false,
      ← c.is_valid_line.ensures,
      c.if-not-is_valid_line.false,
      c.bytes.ensures,
    ) refl
