-- `emitter::head_of` meets its contract.
-- Where the formula begins with a fixed point, equation e is that of fixed point e; where not, of the one before.
use Prim.Native.Nat.{ℕ, suc, ◌+◌, ◌-◌, ◌<◌}
use native.Mathlib.Omega.{arith}
use mathlib.Core.Path.{◌≡◌, refl, sym, ap, ◌∙◌}
use mathlib.Core.Bool.{true, false}
use mathlib.Core.List.{List}
use lib.ListN.{get_or}
use Rattle.std.specs.Prelude.{Option, Some, None, IsSomeAnd}
use Rattle.spelling.specs.Spelled.{either_code}
use Rattle.translation.specs.RuleLaws.{input_formula}
use Rattle.translation.specs.Translation.{translated}
use Rattle.scans.specs.FixedPoints.{fixed_in, no_fixed}
use Rattle.scans.specs.Formulas.{is_fixed}
use Rattle.emitter.specs.declared.Head.{Head}
use Rattle.emitter.specs.Built.{FixedTold, HeadTold, no_equation}
use Rattle.emitter.proofs.Heads.{nth_inner, whole_inner, count_begun, count_enclosed}
use Rattle.emitter.proofs.Heads.{nth_begun, nth_enclosed, first_enclosed}
use Rattle.emitter.proofs.SheetHeads.{formula_stands, begins_fixed}
use Rattle.emitter.proofs.head_of.Goals as goal

-- what is told of a value, told otherwise
some_as : {A : Type 0} {P Q : A → Type 0} (r : Option A) → IsSomeAnd r P → ((a : A) → P a → Q a) → IsSomeAnd r Q
some_as (Some a) p f = f a p
some_as None p f = p

module _ {sheet : List ℕ} {code : ℕ} (code_is : code ≡ get_or sheet 4353 0) where
  begun : {e : ℕ} {r : Option Head} → true ≡ is_fixed code → FixedTold sheet e r → HeadTold sheet e r
  begun {e} {r} t fixed = record {
    told = λ process f g few inside.
        let b = begins_fixed g code_is t in
        let count = count_begun process f b in
        some_as r (fixed.told process f g (omega arith)) (λ h head. record {
          greatest = (get_or (fixed_in f) e no_fixed).greatest;
          inner = (get_or (fixed_in f) e no_fixed).inner;
          number = e + 1;
          equation = nth_begun process f b e (omega arith);
          head = head;
          keeps = nth_inner f (input_formula process f g.formed) e (omega arith) (omega arith);
        });
  }

  whole : false ≡ is_fixed code → HeadTold sheet 0 (Some (record { sign = 1; at = 1; number = 0 }))
  unfolding either_code
  whole t = record {
    told = λ process f g few inside.
        let b = begins_fixed g code_is t in
        let count = count_enclosed process f b in
        record {
          greatest = true;
          inner = f;
          number = 0;
          equation = first_enclosed process f b;
          head = record { sign = refl; named = refl; stands = formula_stands g };
          keeps = whole_inner f (input_formula process f g.formed) (omega arith);
        };
  }

  behind : (e : ℕ) {r : Option Head} → false ≡ is_fixed code → 0 < e → FixedTold sheet (e - 1) r → HeadTold sheet e r
  behind e {r} t some fixed = record {
    told = λ process f g few inside.
        let b = begins_fixed g code_is t in
        let count = count_enclosed process f b in
        let n : e ≡ suc (e - 1) = omega arith in
        some_as r (fixed.told process f g (omega arith)) (λ h head. record {
          greatest = (get_or (fixed_in f) (e - 1) no_fixed).greatest;
          inner = (get_or (fixed_in f) (e - 1) no_fixed).inner;
          number = e - 1 + 1;
          equation =
              ap (λ (i : ℕ). get_or (translated process f) i no_equation) n ∙ nth_enclosed process f b (e - 1) (omega arith);
          head = head;
          keeps = nth_inner f (input_formula process f g.formed) (e - 1) (omega arith) (omega arith);
        });
  }

pub returns-then-is_fixed : goal.returns-then-is_fixed
returns-then-is_fixed c =
    begun c.element.ensures (sym c.if-is_fixed.true ∙ c.is_fixed.ensures)
    c.fixed_head.ensures

pub returns-then-e-eq0 : goal.returns-then-e-eq0
returns-then-e-eq0 c =
    rw c.if-e-eq0.true
    (whole c.element.ensures (sym c.if-is_fixed.false ∙ c.is_fixed.ensures))

pub returns : goal.returns
returns c =
    behind c.element.ensures _ (sym c.if-is_fixed.false ∙ c.is_fixed.ensures)
    (omega arith) c.fixed_head-2.ensures
