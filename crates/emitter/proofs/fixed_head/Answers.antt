-- `emitter::fixed_head` meets its contract.
-- The fixed point stands where it is found: its first byte is its sign, and behind it stands what is inside.
use Prim.Native.Nat.{ℕ, ◌+◌}
use native.Mathlib.Omega.{arith}
use mathlib.Core.Path.{◌≡◌, refl, ap, ◌∙◌}
use mathlib.Core.Bool.{Bool, true, false}
use mathlib.Core.List.{List, ◌∷◌}
use lib.Dec.{eqb}
use lib.ListN.{get_or}
use Rattle.std.specs.Int.{from_bool}
use Rattle.spelling.specs.Spelled.{either_code}
use Rattle.spelling.specs.Stands.{Stands, first, after_one, moved}
use Rattle.translation.specs.Modal.{Modal, fixed_point}
use Rattle.inputs.specs.InputFrames.{spelled_modal}
use Rattle.scans.specs.FixedPoints.{fixed_in, no_fixed}
use Rattle.sides.proofs.Spots.{begins_inside, same_byte, no_byte}
use Rattle.emitter.proofs.SheetHeads.{formula_stands}
use Rattle.emitter.proofs.fixed_head.Goals as goal

-- ---- what is found, taken apart
module _ (sheet : List ℕ) (at : ℕ) (greatest : Bool) (inner : Modal)
    (found : Stands sheet (4352 + at) (spelled_modal (fixed_point greatest inner))) where
  spelled_so : Stands sheet (4352 + at) (either_code greatest 0x33 0x32 ∷ spelled_modal inner)
  unfolding spelled_modal
  spelled_so = found

  sign_byte : get_or sheet (4352 + at) 0 ≡ either_code greatest 0x33 0x32
  sign_byte = first sheet (4352 + at) _ _ spelled_so

  inner_stands : Stands sheet (4352 + (at + 1)) (spelled_modal inner)
  inner_stands = moved sheet (4352 + at + 1) (4352 + (at + 1)) _ (omega arith) (after_one sheet (4352 + at) _ _ spelled_so)

-- `01` for a greatest one
code_sign : (greatest : Bool) → from_bool (eqb (either_code greatest 0x33 0x32) 0x33) ≡ either_code greatest 1 0
unfolding either_code
code_sign true = refl
code_sign false = refl

sign_of : (greatest : Bool) (b : ℕ) → b ≡ either_code greatest 0x33 0x32 → from_bool (eqb b 0x33) ≡ either_code greatest 1 0
sign_of greatest b e = ap (λ (x : ℕ). from_bool (eqb x 0x33)) e ∙ code_sign greatest

pub returns-in_err-at : goal.returns-in_err-at
returns-in_err-at c =
    rw c.from_residual.ensures (record {
      told = λ process f g l.
          let there = c.in_err-at.ensures.found.found f g.sheet_is.size (formula_stands g) l in
          absurd (omega (arith, begins_inside _ 256 _ g.sheet_is.size there));
    })

pub returns-in_err-ok : goal.returns-in_err-ok
returns-in_err-ok c =
    let far = no_byte c.try_from.result c.try_from.ensures c.in_err-ok.ensures.variant in
    rw c.from_residual-in_err-ok.ensures (record {
      told = λ process f g l.
          let there = c.in_ok-at.ensures.found.found f g.sheet_is.size (formula_stands g) l in
          let inside = inner_stands _ c.in_ok-at.at _ _ there in
          absurd (omega (arith, far, begins_inside _ (c.in_ok-at.at + 1) _ g.sheet_is.size inside));
    })

pub returns : goal.returns
returns c =
    let place = same_byte c.try_from.result c.try_from.ensures c.in_ok-ok.ensures.value in
    record {
      told = λ process f g l.
          let fixed = get_or (fixed_in f) c.args.number no_fixed in
          let there = c.in_ok-at.ensures.found.found f g.sheet_is.size (formula_stands g) l in
          let byte = c.element-greatest.ensures ∙ sign_byte _ c.in_ok-at.at fixed.greatest fixed.inner there in
          record {
            sign = c.from.ensures ∙ sign_of fixed.greatest _ byte;
            named = refl;
            stands = rw place (inner_stands _ c.in_ok-at.at fixed.greatest fixed.inner there);
          };
    }
