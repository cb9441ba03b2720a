-- Definitions that the theorems of `proofs/Samples` speak of.
-- Each stands alone; what follows from them is there.
use Rattle.std.specs.Prelude.{ℕ, cond, List, [], ◌∷◌, eqb, replicate}
use Prim.Native.String.{String}
use Rattle.reading.specs.Reading.{Refusal, refused}
use Rattle.answers.specs.Samples.{bytes}
use Rattle.replacer.specs.Replaced.{replaced_text, replacement_refusal}

-- a text, an equation's number, the bytes of a new right side and the buffer's length; the refusal, and what
-- is written where there is none
pub record Sample : Type 0 where
  pub text : String
  pub equation : ℕ
  pub side : List ℕ
  pub room : ℕ
  pub refusal : Refusal
  pub result : String

abbrev sample : Refusal → String → String → ℕ → List ℕ → ℕ → Sample
sample refusal result text equation side room =
    record { text = text; equation = equation; side = side; room = room; refusal = refusal; result = result }

abbrev written : String → ℕ → List ℕ → ℕ → String → Sample
written text equation side room result = sample (refused 0 0) result text equation side room

abbrev refusing : String → ℕ → List ℕ → ℕ → Refusal → Sample
refusing text equation side room refusal = sample refusal "" text equation side room

-- two equations, each named by the other, with notes before, between and behind them: 44 characters
abbrev noted : String
noted = "03aa\n0100001a0100\n03\n0101001a0000\n0200\n03bb\n"

abbrev pub samples : List Sample
samples =
    -- one right side, and nothing else; with the old one the same bytes, in a buffer of just that length
    written noted 1 (0x11 ∷ []) 100 "03aa\n0100001a0100\n03\n01010011\n0200\n03bb\n" ∷
    written noted 0 (0x1a ∷ 0x01 ∷ 0x00 ∷ []) 44 noted ∷
    -- small letters
    written "01000011\n0200\n" 0 (0x12 ∷ 0x1a ∷ 0x00 ∷ 0x00 ∷ 0x11 ∷ []) 100 "010000121a000011\n0200\n" ∷
    -- capitals stay elsewhere: "the writer writes only the new right side anew, in small letters"
    written "03aB\n0101001A0100\n0101001A0000\n0200\n" 0 (0x1a ∷ 0x01 ∷ 0x00 ∷ []) 100
    "03aB\n0101001a0100\n0101001A0000\n0200\n" ∷
    -- the old text first, then the equation's number, any number
    refusing "0200\n" 5 (0x11 ∷ []) 100 (refused 4 1) ∷
    refusing noted 2 [] 100 (refused 19 0) ∷
    refusing noted 8 (0x11 ∷ []) 0 (refused 19 0) ∷
    refusing noted 255 (0x1b ∷ []) 100 (refused 19 0) ∷
    -- then the resulting text: no right side, an unknown code, a byte left over; an instance of no equation;
    -- a frame of 257 bytes, whatever is in it, and one of 256
    refusing noted 0 [] 100 (refused 6 2) ∷
    refusing noted 1 (0x1b ∷ []) 100 (refused 6 4) ∷
    refusing noted 1 (0x11 ∷ 0x11 ∷ []) 0 (refused 6 4) ∷
    refusing noted 1 (0x1a ∷ 0x02 ∷ 0x00 ∷ []) 100 (refused 7 4) ∷
    refusing noted 0 (replicate 254 0x11) 1000 (refused 3 2) ∷
    refusing noted 0 (replicate 253 0x11) 1000 (refused 6 2) ∷
    -- last the buffer
    refusing noted 0 (0x1a ∷ 0x01 ∷ 0x00 ∷ []) 43 (refused 10 0) ∷
    []

abbrev pub outcome : Sample → Refusal × List ℕ
outcome s =
    let r = replacement_refusal (bytes s.text) s.equation s.side s.room in
    (r, cond (eqb r.number 0) (replaced_text (bytes s.text) s.equation s.side) [])

abbrev pub expected : Sample → Refusal × List ℕ
expected s = (s.refusal, bytes s.result)
