-- What a command prints of a reply: the text that stands in the buffer, or the line of the refusal.
-- In a buffer that has room for the longest text the refusal is that of a buffer of just this length.
use Prim.Native.Nat.{ℕ, ◌+◌, ◌*◌, ◌≤◌, ◌<◌}
use native.Mathlib.Omega.{arith}
use mathlib.Core.Path.{◌≡◌, refl, sym, ap, ◌∙◌}
use mathlib.Core.Bool.{true}
use mathlib.Core.List.{List}
use lib.Dec.{eqb, leb}
use lib.ListN.{length, take}
use lib.Seq.{length-sets, length-take-le}
use borrow.Author.Tests.{eq-eqb, ne_eqb, eqb-true, eqb-false, le-leb, lt-leb, leb-true}
use Rattle.meaning.specs.Logic.{cases}
use Rattle.frames.specs.Frames.{line_of}
use Rattle.frames.specs.PutLine.{LinePut, Puts}
use Rattle.frames.proofs.Written.{line_length}
use Rattle.frames.proofs.Stores.{line_puts}
use Rattle.reading.specs.Reading.{Refusal}
use Rattle.writing.specs.declared.Writing.{Writing}
use Rattle.writing.specs.Writing.{Writes}
use Rattle.writing.specs.Printed.{refusal_shown, printed, Prints, refusal_told, Shows}
use Rattle.writing.proofs.Laws.{reply_told, text_written, out_stays}

-- ---- `show`, by the number of the reply
module _ {w : Writing} {out : List ℕ} where
  pub shows_text : w.number ≡ 0 → Shows w out w.length out
  shows_text z = let none = eq-eqb w.number 0 z in record { counted = rw none refl; shown = rw none refl }

  pub shows_refusal : {left : List ℕ} {n : ℕ} → (w.number ≡ 0 → ⊥) → LinePut out 0 (refusal_shown (refusal_told w)) n left
      → Shows w out n left
  shows_refusal z put =
      let refusal = ne_eqb w.number 0 z in
      record { counted = put.place ∙ rw refusal refl; shown = put.written ∙ rw refusal refl }

module _ {w : Writing} {out left : List ℕ} {n : ℕ} (s : Shows w out n left) where
  text_shown : w.number ≡ 0 → (n ≡ w.length) × (left ≡ out)
  text_shown z = let none = eq-eqb w.number 0 z in (s.counted ∙ rw none refl, s.shown ∙ rw none refl)

  refusal_put : (w.number ≡ 0 → ⊥) → LinePut out 0 (refusal_shown (refusal_told w)) n left
  refusal_put z =
      let refusal = ne_eqb w.number 0 z in
      record { place = s.counted ∙ rw refusal refl; written = s.shown ∙ rw refusal refl }

-- ---- what is printed, by the refusal
module _ (r : Refusal) (text : List ℕ) where
  printed_text : r.number ≡ 0 → printed r text ≡ text
  unfolding printed
  printed_text z = rw (eq-eqb r.number 0 z) refl

  printed_line : (r.number ≡ 0 → ⊥) → printed r text ≡ line_of (refusal_shown r)
  unfolding printed
  printed_line n = rw (ne_eqb r.number 0 n) refl

  -- a refusal's line has nine characters
  pub printed_short : {longest : ℕ} → 9 ≤ longest → (r.number ≡ 0 → length text ≤ longest) → length (printed r text) ≤ longest
  printed_short {longest} nine short =
      cases (eqb r.number 0)
      (λ e. let z = eqb-true _ 0 e in rw (printed_text z) (short z))
      (λ e. let n = eqb-false _ 0 e in rw (printed_line n) (omega (arith, line_length (refusal_shown r))))

-- ---- what the command promises

-- a buffer that is too small
pub small_buffer : {longest : ℕ} {shown out : List ℕ} → length out < longest → Prints longest shown out 0 out
small_buffer {longest} {shown} {out} l =
    let small = lt-leb longest (length out) l in
    record { counted = rw small refl; printed = rw small refl }

-- and one that is long enough
enough_room : {longest n : ℕ} {shown out left : List ℕ} → longest ≤ length out → Puts out 0 shown n left
    → Prints longest shown out n left
enough_room {longest} {n} {shown} {out} {left} room p =
    let enough = le-leb longest (length out) room in
    record { counted = p.0 ∙ rw enough (omega arith); printed = p.1 ∙ rw enough refl }

module _ {r : Refusal} {text out left left' : List ℕ} {w : Writing} {n : ℕ}
    (p : Writes r text out w left) (s : Shows w left n left') where
  number_told : w.number ≡ r.number
  number_told = ap (λ (x : Refusal). x.number) (reply_told p)

  text_there : r.number ≡ 0 → Puts out 0 (printed r text) n left'
  text_there z =
      let told = text_written p z in
      let shown = text_shown s (number_told ∙ z) in
      rw (printed_text r text z) (omega (arith, shown.0, told.0), shown.1 ∙ told.1)

  line_there : (r.number ≡ 0 → ⊥) → length (printed r text) ≤ length out → Puts out 0 (printed r text) n left'
  line_there refusal fits =
      let line = rw (reply_told p) at (refusal_put s (λ z. refusal (sym number_told ∙ z))) in
      let stays = out_stays p refusal in
      let long = ap length (printed_line r text refusal) in
      let room : 0 + (2 * 4 + 1) ≤ length left = rw stays (omega (arith, long, line_length (refusal_shown r))) in
      rw (printed_line r text refusal, ← stays) (line_puts left 0 (refusal_shown r) room line)

  -- where r is the refusal that a buffer of just that length gives, r'
  pub prints : {r' : Refusal} {longest : ℕ} → r ≡ r' → longest ≤ length out → length (printed r' text) ≤ longest
      → Prints longest (printed r' text) out n left'
  prints {r'} {longest} same room short =
      let fits : length (printed r text) ≤ length out = rw same (omega arith) in
      let there = cases (eqb r.number 0) (λ e. text_there (eqb-true _ 0 e)) (λ e. line_there (eqb-false _ 0 e) fits) in
      rw (← same) (enough_room room there)

-- ---- what is printed lies within the buffer
module _ {longest n : ℕ} {shown out left : List ℕ} (p : Prints longest shown out n left) where
  out_kept : leb longest (length out) ≡ true → length left ≡ length out
  out_kept e = ap length (rw e at p.printed) ∙ length-sets out 0 shown

  printed_within : length shown ≤ longest → n ≤ length left
  printed_within short =
      cases (leb longest (length out))
      (λ e. omega (arith, rw e at p.counted, leb-true longest (length out) e, out_kept e))
      (λ e. omega (arith, rw e at p.counted))

  -- so that it can be lent
  pub lendable : length shown ≤ longest → (n ≤ length left) × (n ≡ length (take n left))
  lendable short =
      let fits = printed_within short in
      (fits, sym (length-take-le n left fits))
