-- What the command `replace` prints: nothing for wrong words, else the resulting text or the refusal's line.
-- A number over 7 names no equation, and a right side of 16,385 bytes makes every text too long: what is printed
-- hangs on no more of them.
use Prim.Native.Nat.{ℕ, ◌/◌, ◌≤◌, ◌<◌, min}
use native.Mathlib.Omega.{arith}
use native.Mathlib.Decide.{dec_le}
use mathlib.Core.Path.{◌≡◌, refl, sym, ap, subst, ◌∙◌}
use mathlib.Core.Bool.{true, false, ◌&&◌}
use mathlib.Core.List.{List}
use lib.ListN.{length, take}
use lib.Seq.{length-take-le, take_all}
use borrow.Author.Tests.{ne_eqb, le-leb}
use Rattle.meaning.specs.Logic.{cases}
use Rattle.digits.specs.Digits.{bytes_of}
use Rattle.digits.proofs.Pairs.{length_bytes}
use Rattle.frames.specs.Frames.{frames}
use Rattle.frames.proofs.Whole.{text_right}
use Rattle.reading.specs.Models.{equations_in}
use Rattle.reading.specs.Reading.{Refusal, refused, text_refusal}
use Rattle.reading.proofs.LineNumbers.{long_text_one}
use Rattle.reading.proofs.WellFormed.{text_passed}
use Rattle.writing.specs.declared.Writing.{Writing}
use Rattle.writing.specs.Printed.{printed, Shows}
use Rattle.writing.proofs.Shown.{printed_short, prints}
use Rattle.replacer.specs.Replaced.{replaced_text, replacement_refusal, Replaces}
use Rattle.replacer.specs.Order.{Due, old_text, not_there, new_text, no_room, none}
use Rattle.replacer.proofs.Order.{due_given, every_refusal}
use Rattle.replacer.proofs.Standing.{standing, frames_read}
use Rattle.replacer.proofs.Result.{result_length, reaches}
use Rattle.replacer.specs.Printed.{is_number, is_bytes, decimal, longest_text, printed_replacement, PrintsReplacement}

-- ---- what is printed of a refusal hangs on the refusal alone
printed_same : {r r' : Refusal} (x y : List ℕ) → r ≡ r' → (r.number ≡ 0 → ⊥) → printed r x ≡ printed r' y
unfolding printed
printed_same {r} {r'} x y e n = rw (← e, ne_eqb r.number 0 n) refl

-- what is due of one is due of the other, and it is a refusal
record Both (t : List ℕ) (e : ℕ) (side : List ℕ) (room : ℕ) (r : Refusal) : Type 0 where
  due : Due t e side room r
  refused : r.number ≡ 0 → ⊥

abbrev shown : List ℕ → ℕ → List ℕ → ℕ → List ℕ
shown t e side room = printed (replacement_refusal t e side room) (replaced_text t e side)

shown_same : (t : List ℕ) (e e' : ℕ) (side side' : List ℕ) (room : ℕ)
    → Both t e' side' room (replacement_refusal t e side room) → shown t e side room ≡ shown t e' side' room
shown_same t e e' side side' room b = printed_same _ _ (sym (due_given b.due)) b.refused

-- ---- a number over 7
few : (t : List ℕ) → (text_refusal t).number ≡ 0 → length (equations_in (frames t).all) ≤ 8
few t z = (text_passed t z).frames_kept.sound.few

module _ {t : List ℕ} {e e' : ℕ} {side : List ℕ} {room : ℕ} (far : 8 ≤ e) (far' : 8 ≤ e') where
  none_named : {r : Refusal} → Due t e side room r → Both t e' side room r
  none_named (old_text n) = record { due = old_text n; refused = n }
  none_named (not_there z c) =
      record { due = not_there z (omega (arith, few t z)); refused = λ y. omega arith }
  none_named (new_text z c n) = absurd (omega (arith, few t z))
  none_named (no_room z c y l) = absurd (omega (arith, few t z))
  none_named (none z c y l) = absurd (omega (arith, few t z))

named_same : (t : List ℕ) (n : ℕ) (side : List ℕ) (room : ℕ) → shown t (min n 8) side room ≡ shown t n side room
named_same t n side room = elim (dec_le n 8) [
  | yes h ↦ let e : min n 8 ≡ n = omega arith in rw e refl
  | no h ↦
      let e : min n 8 ≡ 8 = omega arith in
      rw e (shown_same t 8 n side side room (none_named (omega arith) (omega arith) (every_refusal t 8 side room)))
]

-- ---- a right side that is too long for every text
too_long : (t : List ℕ) (e : ℕ) (side : List ℕ) → 16385 ≤ length side → (text_refusal t).number ≡ 0
    → e < length (equations_in (frames t).all) → text_refusal (replaced_text t e side) ≡ refused 1 0
too_long t e side long z c =
    let s = standing t e z c in
    long_text_one (replaced_text t e side) (omega (arith, result_length s side, reaches s))

module _ {t : List ℕ} {e : ℕ} {side side' : List ℕ} {room : ℕ} (long : 16385 ≤ length side)
    (long' : 16385 ≤ length side') where
  both_long : {r : Refusal} → Due t e side room r → Both t e side' room r
  both_long (old_text n) = record { due = old_text n; refused = n }
  both_long (not_there z c) = record { due = not_there z c; refused = λ y. omega arith }
  both_long (new_text z c n) =
      let same = too_long t e side' long' z c ∙ sym (too_long t e side long z c) in
      record { due = subst (Due t e side' room) same (new_text z c (rw same n)); refused = n }
  both_long (no_room z c y l) = absurd (omega (arith, ap (λ (r : Refusal). r.number) (too_long t e side long z c)))
  both_long (none z c y l) = absurd (omega (arith, ap (λ (r : Refusal). r.number) (too_long t e side long z c)))

decoded_same : (t : List ℕ) (e : ℕ) (side : List ℕ) (room : ℕ)
    → shown t e (take (min (length side) 16385) side) room ≡ shown t e side room
decoded_same t e side room = elim (dec_le (length side) 16385) [
  | yes h ↦ rw (take_all (min (length side) 16385) side (omega arith)) refl
  | no h ↦
      let n = min (length side) 16385 in
      let long = length-take-le n side (omega arith) in
      shown_same t e e (take n side) side room
      (both_long (omega arith) (omega arith) (every_refusal t e (take n side) room))
]

-- ---- a buffer that has room for the longest text refuses as any other such buffer
result_short : (r : List ℕ) → (text_refusal r).number ≡ 0 → length r ≤ longest_text
result_short r z = (text_right r (frames_read r z)).short

module _ {t : List ℕ} {e : ℕ} {side : List ℕ} {room : ℕ} (enough : longest_text ≤ room) where
  with_longest : {r : Refusal} → Due t e side room r → Due t e side longest_text r
  with_longest (old_text n) = old_text n
  with_longest (not_there z c) = not_there z c
  with_longest (new_text z c n) = new_text z c n
  with_longest (no_room z c y l) = absurd (omega (arith, result_short (replaced_text t e side) y))
  with_longest (none z c y l) = none z c y (result_short (replaced_text t e side) y)

longest_same : (t : List ℕ) (e : ℕ) (side : List ℕ) (room : ℕ) → longest_text ≤ room
    → replacement_refusal t e side room ≡ replacement_refusal t e side longest_text
longest_same t e side room h = sym (due_given (with_longest h (every_refusal t e side room)))

shown_short : (t : List ℕ) (e : ℕ) (side : List ℕ) → length (shown t e side longest_text) ≤ longest_text
shown_short t e side =
    printed_short (replacement_refusal t e side longest_text) (replaced_text t e side) (omega arith)
    (λ z. written (every_refusal t e side longest_text) z)
  where
    written : {r : Refusal} → Due t e side longest_text r → r.number ≡ 0 → length (replaced_text t e side) ≤ longest_text
    written (old_text n) z = absurd (n z)
    written (not_there y c) z = absurd (omega arith)
    written (new_text y c n) z = absurd (n z)
    written (no_room y c x l) z = absurd (omega arith)
    written (none y c x l) z = l

-- ---- what the command promises
module _ (t number side : List ℕ) where
  words_right : is_number number ≡ true → is_bytes side ≡ true
      → printed_replacement t number side ≡ shown t (decimal number) (bytes_of side) longest_text
  unfolding printed_replacement
  words_right a b = rw (a, b) refl

  pub wrong_number : {out : List ℕ} → is_number number ≡ false → longest_text ≤ length out
      → PrintsReplacement t number side out 0 out
  unfolding printed_replacement
  wrong_number {out} a room =
      let enough = le-leb longest_text (length out) room in
      record { counted = rw (enough, a) refl; printed = rw (enough, a) refl }

  pub wrong_side : {out : List ℕ} → is_number number ≡ true → is_bytes side ≡ false → longest_text ≤ length out
      → PrintsReplacement t number side out 0 out
  unfolding printed_replacement
  wrong_side {out} a b room =
      let enough = le-leb longest_text (length out) room in
      record { counted = rw (enough, a, b) refl; printed = rw (enough, a, b) refl }

  pub replacement_shown : {out left left' bytes : List ℕ} {e n : ℕ} {w : Writing} → is_number number ≡ true
      → is_bytes side ≡ true → e ≡ min (decimal number) 8 → bytes ≡ take (min (length side / 2) 16385) (bytes_of side)
      → Replaces t e bytes out w left → Shows w left n left' → longest_text ≤ length out
      → PrintsReplacement t number side out n left'
  replacement_shown {out} {left} {left'} {bytes} {e} {n} a b number_is bytes_are p s room =
      let cut : min (length side / 2) 16385 ≡ min (length (bytes_of side)) 16385 =
      ap (λ (k : ℕ). min k 16385) (sym (length_bytes side)) in
      let same : shown t e bytes longest_text ≡ printed_replacement t number side =
      rw (number_is, bytes_are, cut) (
      named_same t (decimal number) (take (min (length (bytes_of side)) 16385) (bytes_of side)) longest_text ∙
      decoded_same t (decimal number) (bytes_of side) longest_text ∙ sym (words_right a b)
      ) in
      rw (← same) (prints p s (longest_same t e bytes (length out) room) room (shown_short t e bytes))

-- ---- what is printed lies within such a buffer
pub printed_replacement_short : (t number side : List ℕ) → length (printed_replacement t number side) ≤ longest_text
unfolding printed_replacement
printed_replacement_short t number side = cases (is_number number && is_bytes side)
    (λ e. rw e (shown_short t (decimal number) (bytes_of side))) (λ e. rw e (omega arith))
