-- DEFINITIONS: from the frames `09`, `07` and `08` of a text to a process and a formula, and when the text is
-- refused. Request 2026-10.
-- "Refusals: 1, then 2 and 3 by line as in 01; then 14 with the first line that breaks these frame rules".
use Rattle.std.specs.Prelude.{ℕ, ◌+◌, Bool, true, false, not, cond, ◌&&◌, List, [], ◌∷◌, ◌++◌, map, length}
use Rattle.std.specs.Prelude.{get_or, take, drop, eqb, leb}
use Rattle.meaning.specs.Formulas.{Term, Formula, constant}
use Rattle.meaning.specs.Ranges.{within, all_ranges}
use Rattle.frames.specs.Frames.{Frame, frames}
use Rattle.formulas.specs.Decode.{Parsed, none, some, then, formula_at, terms_at}
use Rattle.formulas.specs.Bodies.{ends}
use Rattle.reading.specs.Reading.{Refusal, refused}
use Rattle.translation.specs.Processes.{Summand, Process}
use Rattle.translation.specs.Modal.{Modal, truth}
use Rattle.translation.specs.Rules.{well_formed_summand, well_formed_formula}
use Rattle.inputs.specs.Modals.{modal_at}

-- ---- what a frame says; f is the list of its bytes, and a byte past its end reads 0

-- the count of a `09` or `07`, and the ranges that follow it
abbrev pub count_of : List ℕ → ℕ
count_of f = get_or f 1 0

abbrev pub ranges_of : List ℕ → List ℕ
ranges_of f = take (count_of f) (drop 2 f)

-- `09`: the values that follow the ranges
abbrev pub initial_of : List ℕ → List ℕ
initial_of f = take (count_of f) (drop (2 + count_of f) f)

-- `09`: "parameter count 0 to 4, ranges, initial values below them"
unfoldable pub is_process : List ℕ → Bool
is_process f =
    leb (count_of f) 4
    && (eqb (length f) (2 + count_of f + count_of f)
    && (all_ranges (ranges_of f) && within (initial_of f) (ranges_of f)))

-- `07`, where the parameters have the ranges rs: "count of own variables .., their ranges, condition ..,
-- action .., a next-state term per parameter .. variables are the parameters, then its own"; the condition
-- ends at e
abbrev pub summand_from : List ℕ → Formula → ℕ → List Term → Summand
summand_from f c e ts = record { own = ranges_of f; condition = c; action = get_or f e 0; next = ts }

unfoldable pub summand_at : List ℕ → List ℕ → Parsed Summand
summand_at rs f =
    then (formula_at (length f) f (length rs + count_of f) 0 (2 + count_of f)) (λ c e.
    then (terms_at (length f) (length rs) f (length rs + count_of f) (e + 1)) (λ ts end.
    some (summand_from f c e ts) end))

-- what was read; something else where nothing was
abbrev pub read_or : {A : Type 0} → A → Parsed A → A
read_or a none = a
read_or a (some b e) = b

abbrev pub no_summand : Summand
no_summand = record { own = []; condition = constant false; action = 0; next = [] }

abbrev pub summand_in : List ℕ → List ℕ → Summand
summand_in rs f = read_or no_summand (summand_at rs f)

unfoldable pub is_summand : List ℕ → List ℕ → Bool
is_summand rs f = ends (length f) (summand_at rs f) && well_formed_summand rs (summand_in rs f)

-- `08`: "a formula"
abbrev pub modal_in : List ℕ → Modal
modal_in f = read_or (truth false) (modal_at (length f) f 1)

unfoldable pub is_formula : List ℕ → Bool
is_formula f = ends (length f) (modal_at (length f) f 1) && well_formed_formula [] 0 (modal_in f)

-- ---- the process and the formula of some frames, notes left out

unfoldable pub with_code : ℕ → List (List ℕ) → List (List ℕ)
with_code code [] = []
with_code code (f ∷ fs) = cond (eqb (get_or f 0 0) code) (f ∷ with_code code fs) (with_code code fs)

-- the first of some; where there is none, one with no byte
abbrev pub first_frame : List (List ℕ) → List ℕ
first_frame [] = []
first_frame (f ∷ fs) = f

unfoldable pub process_in : List (List ℕ) → Process
process_in fs = record {
  ranges = ranges_of (first_frame fs);
  initial = initial_of (first_frame fs);
  summands = map (summand_in (ranges_of (first_frame fs))) (with_code 0x07 fs);
}

unfoldable pub formula_in : List (List ℕ) → Modal
formula_in fs = modal_in (first_frame (with_code 0x08 fs))

-- ---- 14: "one frame `09` .., up to sixteen `07`, then one `08`, notes anywhere"

abbrev pub is_none : List (List ℕ) → Bool
is_none [] = true
is_none (f ∷ fs) = false

-- after a `09`, and before the `08`
abbrev pub is_open : List (List ℕ) → Bool
is_open done = not (is_none done) && is_none (with_code 0x08 done)

-- the frame f, after those of `done`, which are no notes
unfoldable pub keeps_rules : List (List ℕ) → List ℕ → Bool
keeps_rules done f =
    cond (eqb (get_or f 0 0) 0x03) true
    (cond (eqb (get_or f 0 0) 0x09) (is_none done && is_process f)
    (cond (eqb (get_or f 0 0) 0x07)
    (is_open done && (leb (length done) 16 && is_summand (ranges_of (first_frame done)) f))
    (cond (eqb (get_or f 0 0) 0x08) (is_open done && is_formula f)
    false)))

-- those of `done`, and this frame, unless it is a note
abbrev pub and_frame : List (List ℕ) → List ℕ → List (List ℕ)
and_frame done f = cond (eqb (get_or f 0 0) 0x03) done (done ++ (f ∷ []))

-- what the frames that are left give after those of `done`: the frames that are no notes, and the refusal:
-- "the first line that breaks these frame rules (one past the last where `08` is missing)", which is `last`
pub record Judged : Type 0 where
  pub content : List (List ℕ)
  pub refusal : Refusal

unfoldable pub judged : List (List ℕ) → List Frame → ℕ → Judged
judged done [] last = record {
  content = done;
  refusal = cond (is_none (with_code 0x08 done)) (refused 14 last) (refused 0 0);
}
judged done (f ∷ fs) last =
    cond (keeps_rules done f.bytes) (judged (and_frame done f.bytes) fs last)
    (record { content = done; refusal = refused 14 f.line })

-- ---- the whole text: "1, then 2 and 3 by line as in 01; then 14"
abbrev pub all_judged : List ℕ → Judged
all_judged t = judged [] (frames t).all (frames t).line

unfoldable pub input_refusal : List ℕ → Refusal
input_refusal t =
    cond (eqb (frames t).number 0) (all_judged t).refusal (refused (frames t).number (frames t).line)

abbrev pub content_of : List ℕ → List (List ℕ)
content_of t = (all_judged t).content

-- "a process": that of a text which is not refused, and its formula
abbrev pub process_of : List ℕ → Process
process_of t = process_in (content_of t)

abbrev pub formula_of : List ℕ → Modal
formula_of t = formula_in (content_of t)
