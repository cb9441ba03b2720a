-- `truth::count` meets its contract: the ones of the words passed are the count of the bits below their end.
-- Each word adds its own ones.
use mathlib.Core.Path.{◌≡◌, refl, sym, ap, ◌∙◌}
use lib.ListN.{get_or}
use lib.Count.{ones, ones-le}
use Rattle.truth.proofs.Bits.{count_word}
use Prim.Native.Nat.{ℕ, ◌≤◌, ◌+◌, ◌*◌}
use native.Mathlib.Omega.{arith}
use Rattle.truth.specs.Bits.{bit_of, count_below}
use Rattle.truth.proofs.count.Goals as goal

word_ones : (c : goal.In-loop-word) → ones (get_or c.args.t c.loop-word.word-index 0) ≤ 64
word_ones c = ones-le 64 _ c.loop-word-test.element_fits.fits

pub loop-word-preserved : goal.loop-word-preserved
loop-word-preserved c =
    let i = c.loop-word.word-index in
    let t = c.args.t in (
      ap (λ (k : ℕ). k + ones (get_or t i 0)) c.loop-word.invariant.0
          ∙ sym (count_word t i c.loop-word-test.element_fits.fits),
      omega (arith, word_ones c),
    )

pub returns : goal.returns
returns c =
    let e : c.loop-word.word-index ≡ 8 = omega arith in
    (c.loop-word.invariant.0 ∙ ap (λ (k : ℕ). count_below (k * 64) (bit_of c.args.t)) e, omega arith)

pub loop-word-init : goal.loop-word-init
unfolding count_below
loop-word-init c = (refl, omega arith)

pub overflow_cast-n : goal.overflow_cast-n
overflow_cast-n c = omega (arith, word_ones c)

pub overflow_add-n : goal.overflow_add-n
overflow_add-n c = omega (arith, word_ones c)
