-- The reply of an operation that writes a text, the buffer after it, and bytes that are put.
-- Each definition is a test, so there is one law for each way that it goes.
use Prim.Native.Nat.{ℕ, ◌+◌, ◌-◌, ◌≤◌}
use native.Mathlib.Omega.{arith}
use mathlib.Core.Path.{◌≡◌, refl, sym, ap, ◌∙◌}
use mathlib.Core.Bool.{false}
use mathlib.Core.List.{List}
use lib.Dec.{leb}
use lib.ListN.{length, take}
use lib.Seq.{sets}
use borrow.Author.Tests.{eq-eqb, ne_eqb, le-leb}
use Rattle.frames.specs.PutLine.{Puts}
use Rattle.reading.specs.Reading.{Refusal, refused}
use Rattle.writing.specs.declared.Writing.{Writing}
use Rattle.writing.specs.Writing.{refusal_reply, reply_of, buffer_after, Writes, place_after, bytes_put, BytesPut}
use Rattle.writing.specs.Printed.{refusal_told}

-- ---- the reply: on a refusal the buffer stays, else the text is written
module _ {r : Refusal} (text out : List ℕ) where
  pub stays : (r.number ≡ 0 → ⊥) → Writes r text out (refusal_reply r.number r.line) out
  unfolding reply_of buffer_after
  stays n =
      let refusal = ne_eqb r.number 0 n in
      record { answered = rw refusal refl; written = rw refusal refl }

  pub writes : r ≡ refused 0 0 → Writes r text out (record { number = 0; line = 0; length = length text }) (sets out 0 text)
  unfolding reply_of buffer_after
  writes e = record { answered = rw e refl; written = rw e refl }

-- for who knows which refusal it is
pub refuses : {r x : Refusal} (text out : List ℕ) → r ≡ x → (x.number ≡ 0 → ⊥)
    → Writes r text out (refusal_reply x.number x.line) out
refuses {r} {x} text out e n = rw e (stays text out n)

-- ---- what a reply says, read back
module _ {r : Refusal} {text out left : List ℕ} {w : Writing} (p : Writes r text out w left) where
  -- of the refusal: its number and its line
  pub reply_told : refusal_told w ≡ r
  unfolding reply_of
  reply_told = ap refusal_told p.answered

  -- a bound of the refusal's line is one of the reply's
  pub reply_low : {bound : ℕ} → r.line ≤ bound → w.line ≤ bound
  reply_low low = omega (arith, ap (λ (x : Refusal). x.line) reply_told)

  -- where there is none: the text
  pub text_written : r.number ≡ 0 → (w.length ≡ length text) × (left ≡ sets out 0 text)
  unfolding reply_of buffer_after
  text_written z =
      let none = eq-eqb r.number 0 z in
      (ap (λ (x : Writing). x.length) p.answered ∙ rw none refl, p.written ∙ rw none refl)

  -- where there is one: the buffer as it was
  pub out_stays : (r.number ≡ 0 → ⊥) → left ≡ out
  unfolding buffer_after
  out_stays n = p.written ∙ rw (ne_eqb r.number 0 n) refl

-- ---- bytes put: where there is no room, and where there is
module _ (out : List ℕ) (at : ℕ) (bytes : List ℕ) where
  pub no_room : leb (at + length bytes) (length out) ≡ false → BytesPut out at bytes at out
  unfolding place_after bytes_put
  no_room f = record { place = rw f refl; written = rw f refl }

module _ {out left bytes : List ℕ} {at n : ℕ} where
  pub with_room : at + length bytes ≤ length out → Puts out at bytes n left → BytesPut out at bytes n left
  unfolding place_after bytes_put
  with_room room p =
      let enough = le-leb (at + length bytes) (length out) room in
      record { place = p.0 ∙ rw enough refl; written = p.1 ∙ rw enough refl }

  -- for who knows that there is room
  pub puts : BytesPut out at bytes n left → at + length bytes ≤ length out → Puts out at bytes n left
  unfolding place_after bytes_put
  puts p room =
      let enough = le-leb (at + length bytes) (length out) room in
      (p.place ∙ rw enough refl, p.written ∙ rw enough refl)

-- an operation that puts its text as a whole
pub writes_put : {r : Refusal} {text out left : List ℕ} {n : ℕ} → r ≡ refused 0 0 → length text ≤ length out
    → BytesPut out 0 text n left → Writes r text out (record { number = 0; line = 0; length = n }) left
writes_put {r} {text} {out} {left} {n} e room put =
    let p = puts put (omega arith) in
    let long : n ≡ length text = omega (arith, p.0) in
    rw (long, p.1) (writes text out e)
