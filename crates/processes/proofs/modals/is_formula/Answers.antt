-- `processes::is_formula` meets its contract.
-- Where the formula ends says whether one was read up to the end; it then stands there as it is spelled.
use Prim.Native.Nat.{ℕ}
use native.Mathlib.Omega.{arith}
use mathlib.Core.Path.{◌≡◌, refl, sym, ap, ◌∙◌}
use mathlib.Core.Bool.{Bool, true, false, ◌&&◌, false≢true}
use mathlib.Core.List.{List, []}
use lib.Dec.{eqb}
use lib.ListN.{length}
use borrow.Author.Tests.{eqb-true}
use Rattle.std.specs.Prelude.{Option, Some}
use Rattle.std.specs.Option.{option_eq}
use Rattle.formulas.specs.Decode.{Parsed, none, some}
use Rattle.formulas.specs.Bodies.{ends}
use Rattle.translation.specs.Modal.{Modal, truth}
use Rattle.translation.specs.Rules.{well_formed_formula}
use Rattle.inputs.specs.Modals.{modal_at}
use Rattle.inputs.specs.Inputs.{read_or, is_formula}
use Rattle.inputs.specs.ModalRead.{modal_spelled}
use Rattle.processes.specs.Ends.{end_of, ModalEnds, WellFormedTold}
use Rattle.processes.proofs.modals.is_formula.Goals as goal

ended : {A : Type 0} (n : ℕ) (p : Parsed A) → option_eq eqb (end_of p) (Some n) ≡ ends n p
ended n none = refl
ended n (some a e) = refl

module _ (s : List ℕ) {end : Option ℕ} {whole : Bool} (h : ModalEnds s 1 end)
    (e : whole ≡ option_eq eqb end (Some (length s))) where
  abbrev formed : Parsed Modal → Bool
  formed p = well_formed_formula [] 0 (read_or (truth false) p)

  read_whole : whole ≡ ends (length s) (modal_at (length s) s 1)
  read_whole =
      e ∙ ap (λ (o : Option ℕ). option_eq eqb o (Some (length s))) (h.ended (length s) (omega arith)) ∙
      ended (length s) (modal_at (length s) s 1)

  not_whole : whole ≡ false → whole ≡ is_formula s
  unfolding is_formula
  not_whole x = x ∙ sym (ap (λ (b : Bool). b && formed (modal_at (length s) s 1)) (sym read_whole ∙ x))

  -- what was read up to the end
  module _ {r : Bool} (t : WellFormedTold s r) where
    as_read : (p : Parsed Modal) → modal_at (length s) s 1 ≡ p → ends (length s) p ≡ true
        → r ≡ ends (length s) p && formed p
    as_read none q x = absurd (false≢true x)
    as_read (some f m) q x =
        let last : m ≡ length s = eqb-true m (length s) x in
        let there = modal_spelled (length s) s 1 f m q (omega (arith, last)) in
        rw x (t.told f there.0 (sym last ∙ there.1))

    is_whole : whole ≡ true → r ≡ is_formula s
    unfolding is_formula
    is_whole x = as_read _ refl (sym read_whole ∙ x)

pub returns-then-eq : goal.returns-then-eq
returns-then-eq c = is_whole _ c.modal_end.ensures c.eq.ensures c.is_well_formed.ensures c.if-eq.true

pub returns-else-eq : goal.returns-else-eq
returns-else-eq c = not_whole _ c.modal_end.ensures c.eq.ensures c.if-eq.false
