-- `printing::put_instances` meets its contract.
-- The lines still to be written from the place on, over what is there, are all lines over what was there.
use Prim.Native.Nat.{ℕ, ◌≤◌, ◌<◌, ◌+◌}
use mathlib.Core.Path.{◌≡◌, refl, sym, ◌∙◌, ap}
use mathlib.Core.List.{List, [], ◌++◌}
use native.Mathlib.Nat.{add-zero}
use lib.ListN.{length, get_or, length-take}
use lib.Seq.{sets, drop-length}
use Rattle.formulas.specs.declared.Equation.{Equation}
use Rattle.truth.specs.Bits.{bit_of}
use Rattle.frames.specs.Frames.{line_of}
use Rattle.frames.specs.PutLine.{Puts}
use Rattle.printing.specs.Lines.{word_frame, word_lines, Readable}
use Rattle.frames.proofs.Written.{line_length}
use Rattle.frames.proofs.Stores.{line_then}
use Rattle.printing.proofs.Stores.{lines_more}
use native.Mathlib.Omega.{arith}
use Rattle.printing.proofs.put_instances.Invariants.{Before, lines_from}
use Rattle.printing.proofs.put_instances.Goals as goal

module _ {equations : List Equation} {truth words out₀ out : List ℕ} {at j : ℕ}
    (b : Before equations truth words out₀ out at j) where
  -- a turn writes the line of a frame of at most seven bytes
  turn : {out' f : List ℕ} {at' : ℕ} → j < length words → f ≡ word_frame equations (get_or words j 0) (bit_of truth j)
      → length f ≤ 7 → length out' ≡ length out → Puts out at (line_of f) at' out'
      → Before equations truth words out₀ out' at' (j + 1)
  turn {out'} {f} {at'} less is short long e =
      let rest = lines_from equations truth words (j + 1) in
      let written = line_then out out' at at' (line_of f) rest e in
      let joined = ap (λ (g : List ℕ). line_of g ++ rest) is ∙ sym (lines_more equations truth j words less) in
      record {
        within = omega arith;
        near = omega (arith, e.0, line_length f, b.near);
        long = long ∙ b.long;
        left = written.0 ∙ ap (sets out at) joined ∙ b.left;
        place = written.1 ∙ ap (λ (l : List ℕ). at + length l) joined ∙ b.place;
      }

  done : length words ≤ j → Puts out₀ 0 (word_lines equations truth 0 words) at out
  unfolding word_lines
  done h =
      let e : j ≡ length words = omega arith in
      let none : lines_from equations truth words j ≡ [] = rw (e, drop-length) refl in
      (sym (add-zero at) ∙ rw none at b.place, rw none at b.left)

pub put-at-requires : goal.put-at-requires
unfolding Readable
put-at-requires c =
    let read = c.requires.0 c.loop-j.j c.loop-j-test.true in
    let count = c.of_word.ensures.1 in
    (omega (arith, read, count), omega (arith, read, count, c.loop-j.invariant.near, c.loop-j.invariant.long, c.requires.1))

pub loop-j-preserved : goal.loop-j-preserved
unfolding Readable
loop-j-preserved c =
    let w : ℕ = get_or c.args.words.now c.loop-j.j 0 in
    let read = c.requires.0 c.loop-j.j c.loop-j-test.true in
    let frame = c.of_word in
    let short = length-take frame.result.count frame.result.bytes in
    let is = frame.ensures.0 ∙ ap (word_frame c.args.equations w) c.has.ensures in
    turn c.loop-j.invariant c.loop-j-test.true is (omega (arith, read, frame.ensures.1, short)) c.put-at.auto.out
    c.put-at.ensures

pub loop-j-init : goal.loop-j-init
loop-j-init c =
    record { within = omega arith; near = omega arith; long = refl; left = refl; place = omega arith }

pub of_word-requires : goal.of_word-requires
unfolding Readable
of_word-requires c = c.requires.0 c.loop-j.j c.loop-j-test.true

pub returns : goal.returns
returns c = done c.loop-j.invariant (omega (arith, c.loop-j-test.false))
