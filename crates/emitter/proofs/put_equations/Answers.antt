-- `emitter::put_equations` meets its contract.
-- Before turn e the lines of the first e equations are put; where one does not fit, not all of them fit.
use Prim.Native.Nat.{ℕ, ◌+◌, ◌≤◌, ◌<◌}
use native.Mathlib.Omega.{arith}
use native.Mathlib.Numerals.{add-one}
use mathlib.Core.Path.{◌≡◌, refl, sym, ap, ◌∙◌}
use mathlib.Core.Bool.{true, false, false≢true}
use Rattle.std.specs.Prelude.{Some, None}
use mathlib.Core.List.{List}
use lib.ListN.{length, get_or, take, replicate, length-replicate}
use lib.Seq.{sets, take_all}
use borrow.Author.Rules.{rules}
use Rattle.meaning.specs.Logic.{cases}
use Rattle.meaning.specs.Models.{Model}
use Rattle.frames.specs.PutLine.{LinePut}
use Rattle.spelling.specs.Spelled.{equation_frame}
use Rattle.translation.specs.Translation.{translated}
use Rattle.emitter.specs.Limits.{equation_fits, each_fits}
use Rattle.emitter.specs.Built.{EquationPut, EquationsPut, no_equation, lines_for}
use Rattle.emitter.proofs.LinesLaws.{lines_none, lines_turn, one_misfit}
use Rattle.emitter.proofs.put_equations.Invariants.{Putting}
use Rattle.emitter.proofs.put_equations.Goals as goal

-- ---- the equation of a turn fits, or not
module _ {sheet places : List ℕ} {count : ℕ} {text : List ℕ} {at e : ℕ} (p : Putting sheet places count text at e)
    (more : e < count) {frame : List ℕ} where
  not_all : EquationPut sheet places e frame None → EquationsPut sheet places count text None
  not_all put = record {
    size = p.long;
    told = λ process f g placed n.
        let told = put.told process f g placed (omega (arith, p.few)) (omega arith) in
        let equation = get_or (translated process f) e no_equation in
        let one : equation_fits equation ≡ false =
        cases (equation_fits equation) (λ t. absurd (let large = (told.0 t).0 in cc)) (λ t. t) in
        let none = one_misfit (translated process f) e (omega arith) one in
        (λ t. absurd (false≢true (sym none ∙ t)), λ t. refl);
  }

  one_more : {size : ℕ} {left : List ℕ} {r : ℕ} → EquationPut sheet places e frame (Some size) → length left ≡ 4117
      → LinePut text at (take size frame) r left → Putting sheet places count left r (e + 1)
  one_more {size} {left} {r} put long line = record {
    few = p.few;
    near = omega arith;
    long = long;
    lines = λ process f g placed n.
        let told = put.told process f g placed (omega (arith, p.few)) (omega arith) in
        let equation = get_or (translated process f) e no_equation in
        let fits : equation_fits equation ≡ true =
        cases (equation_fits equation) (λ t. t) (λ t. absurd (let none = told.1 t in cc)) in
        let whole = told.0 fits in
        let bytes : size ≡ length (equation_frame equation) = let is = whole.0 in cc in
        rw (add-one e) (lines_turn (p.lines process f g placed n) (omega arith) (omega (arith, p.few)) fits
        (ap (λ (k : ℕ). take k frame) bytes ∙ whole.1) line);
  }

all_put : {sheet places : List ℕ} {count : ℕ} {text : List ℕ} {at e : ℕ} → Putting sheet places count text at e
    → count ≤ e → EquationsPut sheet places count text (Some at)
all_put {sheet} {places} {count} {text} {at} {e} p done = record {
  size = p.long;
  told = λ process f g placed n.
      let lines = p.lines process f g placed n in
      let model = translated process f in
      let whole = take_all e model (omega arith) in (
        λ t. (
          ap Some (lines.place ∙ ap (λ (m : Model). length (lines_for m)) whole),
          lines.written ∙ ap (λ (m : Model). sets (replicate 4117 0) 0 (lines_for m)) whole,
        ),
        λ t. absurd (false≢true (sym t ∙ ap each_fits (sym whole) ∙ lines.fit)),
      );
}

-- ---- the needs
none_put : {sheet places : List ℕ} {count : ℕ} {text : List ℕ} → count ≤ 8 → text ≡ replicate 4117 0
    → Putting sheet places count text 0 0
none_put few zeros = record {
  few = few;
  near = omega arith;
  long = ap length zeros ∙ length-replicate {A = ℕ} 4117 0;
  lines = λ process f g placed n. rw zeros (lines_none (translated process f));
}

-- the text is as long as it was
lent_long : {sheet places : List ℕ} {count : ℕ} {text : List ℕ} {at e : ℕ} {text₀ : List ℕ}
    → Putting sheet places count text at e → text₀ ≡ replicate 4117 0 → length text ≡ length text₀
lent_long p zeros = p.long ∙ sym (length-replicate {A = ℕ} 4117 0) ∙ ap length (sym zeros)

pub loop-e-init : goal.loop-e-init
loop-e-init c = let pre = c.requires in none_put pre.0 pre.1

pub returns-in_err-size : goal.returns-in_err-size
returns-in_err-size c =
    rw c.from_residual.ensures (not_all c.loop-e.invariant c.loop-e-test.true c.in_err-size.ensures)

pub loop-e-preserved : goal.loop-e-preserved
loop-e-preserved c =
    let kept : length c.put_line-at.new.out ≡ length c.loop-e.text = search rules in
    one_more c.loop-e.invariant c.loop-e-test.true c.in_ok-size.ensures (kept ∙ c.loop-e.invariant.long)
    c.put_line-at.ensures
