-- The lines from a place of a text on are the line that begins there and the lines after its end.
-- By induction on the text.
use Prim.Native.Nat.{ℕ, suc, ◌+◌, ◌≤◌, ◌<◌}
use native.Mathlib.Omega.{arith}
use mathlib.Core.Path.{◌≡◌, refl, ◌∙◌}
use mathlib.Core.Bool.{Bool, true, false}
use mathlib.Core.List.{List, [], ◌∷◌}
use lib.ListN.{length, drop, length-drop, drop_of_length-le}
use lib.Seq.{drop-drop}
use lib.Dec.{eqb, leb-suc-suc}
use borrow.Author.Tests.{lt-ltb}
use Rattle.frames.specs.Lines.{Line, lines_of}
use Rattle.frames.specs.FrameAt.{first_length, first_line, line_at, end_at}

-- the lines that come after the first
abbrev others : List ℕ → List Line
others s = lines_of (drop (first_length s + 1) s)

last_line : (c : ℕ) (b : Bool) → eqb c 10 ≡ b → lines_of (c ∷ []) ≡ first_line (c ∷ []) ∷ others (c ∷ [])
unfolding lines_of first_length
last_line c true h = rw h refl
last_line c false h = rw h refl

one_more : (c : ℕ) (s : List ℕ) (b : Bool) → eqb c 10 ≡ b → lines_of s ≡ first_line s ∷ others s
    → lines_of (c ∷ s) ≡ first_line (c ∷ s) ∷ others (c ∷ s)
unfolding lines_of first_length
one_more c s true h e = rw (h, lt-ltb 0 (suc (length s)) (omega arith)) refl
one_more c s false h e =
    let x : suc (first_length s) + 1 ≡ suc (first_length s + 1) = omega arith in
    rw (h, e, x, leb-suc-suc (suc (first_length s)) (length s)) refl

lines_first : (c : ℕ) (s : List ℕ) → lines_of (c ∷ s) ≡ first_line (c ∷ s) ∷ others (c ∷ s)
lines_first c [] = last_line c (eqb c 10) refl
lines_first c (d ∷ s) = one_more c (d ∷ s) (eqb c 10) refl (lines_first d s)

lines_some : (s : List ℕ) → 0 < length s → lines_of s ≡ first_line s ∷ others s
lines_some [] h = absurd (omega arith)
lines_some (c ∷ s) h = lines_first c s

module _ (t : List ℕ) (at : ℕ) where
  pub lines_at : at < length t → lines_of (drop at t) ≡ line_at t at ∷ lines_of (drop (end_at t at + 1) t)
  lines_at h =
      let n : at + (first_length (drop at t) + 1) ≡ end_at t at + 1 = omega arith in
      lines_some (drop at t) (omega (arith, length-drop at t)) ∙
      rw (drop-drop (first_length (drop at t) + 1) at t, n) refl

  pub lines_past : length t ≤ at → lines_of (drop at t) ≡ []
  unfolding lines_of
  lines_past h = rw (drop_of_length-le t h) refl
