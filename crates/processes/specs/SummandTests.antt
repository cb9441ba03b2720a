-- What the contracts of the functions that read a summand say; no word of the documents is defined here.
-- A place is where the condition ends.
use Rattle.std.specs.Prelude.{ℕ, ◌+◌, ◌≤◌, min, ◌≡◌, Bool, false, ◌&&◌, List, eqb, ltb, leb, length, get_or}
use Rattle.std.specs.Prelude.{Option, None, Some}
use Rattle.std.specs.Option.{option_eq}
use Rattle.formulas.specs.Contract.{part}
use Rattle.formulas.specs.Ends.{terms_place}
use Rattle.inputs.specs.Inputs.{count_of, ranges_of, is_summand}

-- the bytes that stand behind the count of a `09` or `07`, as many as it says; a byte past the end reads 0
abbrev pub counted_bytes : List ℕ → List ℕ
counted_bytes f = part f 2 (count_of f)

-- the bytes behind these, as many again
abbrev pub following_bytes : List ℕ → List ℕ
following_bytes f = part f (2 + count_of f) (count_of f)

-- of those behind the count, at most four
abbrev pub four_bytes : List ℕ → List ℕ
four_bytes f = part f 2 (min (count_of f) 4)

-- an action and the next-state terms stand from a place on, up to the end of all bytes
unfoldable pub is_step : List ℕ → ℕ → List ℕ → List ℕ → Bool
is_step f at scope rs =
    (ltb 0 at && ltb at (length f))
    && (leb (get_or f at 0) 15 && option_eq eqb (terms_place f (at + 1) scope rs) (Some (length f)))

-- where the condition ends, if there is one
abbrev pub is_step_behind : List ℕ → Option ℕ → List ℕ → List ℕ → Bool
is_step_behind f None scope rs = false
is_step_behind f (Some at) scope rs = is_step f at scope rs

-- whether a frame is a summand of the process whose frame some bytes begin with
pub record SummandJudged (process f : List ℕ) (r : Bool) : Type 0 where
  pub judged : count_of process ≤ 4 → 6 ≤ length process → r ≡ is_summand (ranges_of process) f
