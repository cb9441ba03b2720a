-- `emitter::put_equation` meets its contract.
-- What the frame begins with, and then the right side, are the frame.
use Prim.Native.Nat.{ℕ}
use native.Mathlib.Omega.{arith}
use mathlib.Core.Path.{◌≡◌, refl, sym, subst, ◌∙◌}
use mathlib.Core.Bool.{true, false}
use borrow.Author.Rules.{rules}
use Rattle.std.specs.Prelude.{Option, Some, None}
use mathlib.Core.List.{List, ◌++◌}
use lib.ListN.{length, take}
use Rattle.meaning.specs.Logic.{Is}
use Rattle.meaning.specs.Formulas.{Formula}
use Rattle.meaning.specs.Models.{ModelEquation}
use Rattle.spelling.specs.Spelled.{either_code, spelled, equation_frame}
use Rattle.translation.specs.Processes.{Process}
use Rattle.translation.specs.Modal.{Modal}
use Rattle.translation.specs.Rules.{well_formed_formula}
use Rattle.translation.specs.Translation.{right_side, variables_from, equation_of}
use Rattle.scans.specs.Summands.{Placed}
use Rattle.sides.specs.Emitted.{Counted, count_of}
use Rattle.sides.specs.Told.{before_of, Spotted, EmitsFormula, RightSide}
use Rattle.emitter.specs.declared.Head.{Head}
use Rattle.emitter.specs.Limits.{equation_fits}
use Rattle.emitter.specs.Built.{Given, Headed, HeadTold, HeadPut, EquationPut, head_bytes}
use Rattle.emitter.proofs.EquationLaws.{frame_whole, frame_over}
use Rattle.emitter.proofs.put_equation.Goals as goal

-- what is promised of an equation, whichever it is
abbrev PutAs : ModelEquation → List ℕ → Option ℕ → Type 0
PutAs equation left r =
    (equation_fits equation ≡ true → (r ≡ Some (length (equation_frame equation)))
    × (take (length (equation_frame equation)) left ≡ equation_frame equation))
    × (equation_fits equation ≡ false → r ≡ None)

in_parts : (equation : ModelEquation) (sign : ℕ) → sign ≡ either_code equation.greatest 1 0
    → equation_frame equation ≡ head_bytes equation.ranges sign ++ spelled equation.body
unfolding equation_frame
in_parts equation sign e = rw e refl

module _ {sheet places : List ℕ} {e : ℕ} {head : Head} {frame between left : List ℕ} {count : ℕ} {r : Option ℕ}
    (size : length frame ≡ 256) (begun : HeadPut sheet head.sign frame between count)
    (side : Counted r (RightSide sheet places head.at head.number between count left)) where
  module _ {process : Process} {f : Modal} (g : Given process f sheet) (placed : Placed process places)
      (h : Headed process f sheet e head) where
    abbrev equation : ModelEquation
    equation = equation_of process (before_of f) h.greatest h.inner h.number

    spotted : Spotted sheet (record { at = head.at; number = head.number; depth = 0; q = 0 }) h.inner
    spotted = record {
      stands = h.head.stands;
      around = h.keeps.around;
      formed =
          subst (λ (n : ℕ). Is (well_formed_formula h.keeps.around n h.inner)) (sym h.head.named)
          h.keeps.formed;
      below = h.keeps.below;
      few = omega (arith, h.head.named, h.keeps.few);
      four = omega arith;
    }

    abbrev body_from : ℕ → Formula
    body_from n = right_side process (before_of f) h.inner n (variables_from 0 process.ranges) 0

    emitted : EmitsFormula 0 equation.body between count left (count_of r)
    emitted =
        subst (λ (n : ℕ). EmitsFormula 0 (body_from n) between count left (count_of r)) h.head.named
        (side.told.told process f h.inner (record { sheet_is = g.sheet_is; formed = g.formed; placed = placed }) spotted
        (begun.size ∙ size))

    put_as : PutAs equation left r
    put_as =
        let bytes = head_bytes process.ranges head.sign in
        let body = spelled equation.body in
        let put = begun.told process f g in
        rw (in_parts equation head.sign h.head.sign) (
          frame_whole bytes body frame _ size put side.few emitted,
          frame_over bytes body frame _ size put side.few emitted,
        )

  frame_put : HeadTold sheet e (Some head) → EquationPut sheet places e left r
  frame_put headed = record {
    size = side.told.size ∙ begun.size ∙ size;
    few = side.few;
    told = λ process f g placed few inside.
        let h = headed.told process f g few inside in
        subst (λ (x : ModelEquation). PutAs x left r) (sym h.equation) (put_as g placed h);
  }

pub returns-in_err-head : goal.returns-in_err-head
returns-in_err-head c =
    rw c.from_residual.ensures (record {
      size = search rules;
      few = tt;
      told = λ process f g placed few inside. absurd (c.in_err-head.ensures.told process f g few inside);
    })

pub returns : goal.returns
returns c =
    let long : length c.args.frame.now ≡ 256 = search rules in
    frame_put long c.put_head-count.ensures c.put_right_side.ensures c.in_ok-head.ensures
