-- A line written into a buffer byte by byte.
-- What is still to be written from the place on, over what is there, is the whole line over what was there.
use Prim.Native.Nat.{ℕ, suc, ◌+◌, ◌*◌, ◌≤◌, ◌<◌}
use native.Mathlib.Omega.{arith}
use native.Mathlib.Nat.{add-zero}
use native.Mathlib.Numerals.{add-one}
use mathlib.Core.Path.{◌≡◌, refl, sym, ap, ◌∙◌}
use mathlib.Core.Bool.{false}
use mathlib.Core.List.{List, [], ◌∷◌, ◌++◌}
use lib.Dec.{leb}
use lib.ListN.{length, get_or, set, drop, length-append, drop_of_length-le}
use lib.Seq.{sets, length-sets, drop-cons}
use borrow.Author.Tests.{le-leb}
use Rattle.digits.specs.Digits.{digits_of, characters}
use Rattle.frames.specs.Frames.{line_of}
use Rattle.frames.specs.PutLine.{place_after, line_put, LinePut, Puts}
use Rattle.frames.proofs.Written.{line_length}

-- ---- a run of stores, cut where one part of it ends

pub sets_append : (l : List ℕ) (i : ℕ) (u v : List ℕ) → sets l i (u ++ v) ≡ sets (sets l i u) (i + length u) v
sets_append l i [] v = rw add-zero
sets_append l i (a ∷ u) v =
    let e : suc i + length u ≡ i + suc (length u) = omega arith in
    sets_append (set l i a) (suc i) u v ∙ ap (λ (n : ℕ). sets (sets (set l i a) (suc i) u) n v) e

-- a line and what comes after it
pub line_then : (out out' : List ℕ) (at at' : ℕ) (line rest : List ℕ) → Puts out at line at' out'
    → (sets out' at' rest ≡ sets out at (line ++ rest)) × (at' + length rest ≡ at + length (line ++ rest))
line_then out out' at at' line rest e =
    (rw (e.1, e.0) (sym (sets_append out at line rest)), omega (arith, e.0, length-append line rest))

-- ---- as promised: where the line fits, and where not

module _ (out : List ℕ) (at : ℕ) (bytes : List ℕ) where
  pub no_room : leb (at + (2 * length bytes + 1)) (length out) ≡ false → LinePut out at bytes at out
  unfolding place_after line_put
  no_room f = record { place = rw (line_length, f) refl; written = rw (line_length, f) refl }

  module _ (room : at + (2 * length bytes + 1) ≤ length out) where
    with_room : (place_after (length out) at bytes ≡ at + length (line_of bytes))
        × (line_put out at bytes ≡ sets out at (line_of bytes))
    unfolding place_after line_put
    with_room =
        let f = le-leb (at + length (line_of bytes)) (length out) (omega (arith, line_length bytes)) in
        (rw f refl, rw f refl)

    written_in : {r : ℕ} {out' : List ℕ} → Puts out at (line_of bytes) r out' → LinePut out at bytes r out'
    written_in p = record { place = p.0 ∙ sym with_room.0; written = p.1 ∙ sym with_room.1 }

    -- for who knows that there is room
    pub line_puts : {r : ℕ} {out' : List ℕ} → LinePut out at bytes r out' → Puts out at (line_of bytes) r out'
    line_puts l = (l.place ∙ with_room.0, l.written ∙ with_room.1)

-- ---- the loop: before turn i

pub record Writing (out₀ : List ℕ) (at : ℕ) (bytes out : List ℕ) (place i : ℕ) : Type 0 where
  pub near : i ≤ length bytes
  pub there : place ≡ at + 2 * i
  pub long : length out ≡ length out₀
  pub room : at + (2 * length bytes + 1) ≤ length out₀
  pub left : sets out place (line_of (drop i bytes)) ≡ sets out₀ at (line_of bytes)

module _ {out₀ : List ℕ} {at : ℕ} {bytes out : List ℕ} {place i : ℕ} (w : Writing out₀ at bytes out place i) where
  pub writing_more : {out' : List ℕ} {b : ℕ} → i < length bytes → b ≡ get_or bytes i 0 → out' ≡ sets out place (digits_of b)
      → Writing out₀ at bytes out' (place + 2) (i + 1)
  unfolding line_of characters
  writing_more {out'} {b} h is e = record {
    near = omega arith;
    there = omega arith;
    long = ap length e ∙ length-sets out place (digits_of b) ∙ w.long;
    room = w.room;
    left =
        let n : place + 2 ≡ suc (suc place) = omega arith in
        rw (add-one i, e, n, is) (rw (drop-cons bytes i 0 h) at w.left);
  }

  pub writing_done : length bytes ≤ i → LinePut out₀ at bytes (place + 1) (set out place 0x0a)
  unfolding line_of characters
  writing_done h =
      written_in out₀ at bytes w.room (omega (arith, line_length bytes), rw (drop_of_length-le bytes h) at w.left)
