-- Definitions that the theorems of `proofs/RoundTrip` speak of.
-- Each stands alone; what follows from them is there.
use Rattle.std.specs.Prelude.{ℕ, ◌+◌, ◌≤◌, ◌<◌, List, [], ◌∷◌, map, length, get_or}
use Rattle.frames.specs.Frames.{Frame, Frames}

-- some bytes that a line can hold: at least one and, as "over 512 digits" is refused, at most 256
pub record Writable (bytes : List ℕ) : Type 0 where
  pub some : 1 ≤ length bytes
  pub most : length bytes ≤ 256
  pub small : (i : ℕ) → get_or bytes i 0 < 256

abbrev pub AllWritable : List (List ℕ) → Type 0
AllWritable fs = (i : ℕ) → i < length fs → Writable (get_or fs i [])

-- the frames of these bytes, in lines that count from i
unfoldable pub numbered : ℕ → List (List ℕ) → List Frame
numbered i [] = []
numbered i (f ∷ fs) = record { line = i; bytes = f } ∷ numbered (i + 1) fs

-- all of them, none refused
abbrev pub all_read : List (List ℕ) → Frames
all_read fs = record { all = numbered 1 fs; number = 0; line = length fs + 1 }

abbrev pub bytes_of_all : Frames → List (List ℕ)
bytes_of_all fs = map (λ (f : Frame). f.bytes) fs.all
