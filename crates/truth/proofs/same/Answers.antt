-- `truth::same` meets its contract: equal words are one list, and two lists that differ differ in a bit below 512.
-- Two words that differ in no bit are one number.
use Prim.Native.Nat.{ℕ}
use mathlib.Core.Path.{◌∙◌}
use borrow.Author.Rules.{rules}
use mir.Syntax.{w64}
use mir.Val.{Fits}
use lib.ListN.{get_or}
use Rattle.truth.proofs.Bits.{Eight, same_words}
use Rattle.truth.proofs.same.Goals as goal

pub returns : goal.returns
returns c =
    let a = c.args in
    let fits_a : (i : ℕ) → Fits w64 (get_or a.a i 0) = λ i. search rules in
    let fits_b : (i : ℕ) → Fits w64 (get_or a.b i 0) = λ i. search rules in
    let words_a : Eight a.a = record { eight = search rules; fits = λ i l. (fits_a i).fits } in
    let words_b : Eight a.b = record { eight = search rules; fits = λ i l. (fits_b i).fits } in
    c.eq.ensures ∙ same_words words_a words_b
