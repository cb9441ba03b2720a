-- THEOREM: a frame `09`, `07` or `08` that keeps the rules is the frame of what was read of it.
-- Its parts stand there one after another, up to its end, so nothing else does.
use Rattle.std.specs.Prelude.{ℕ, ◌+◌, ◌≤◌, ◌≡◌, true, false, ◌&&◌, List, [], ◌∷◌, ◌++◌, drop, eqb, leb}
use Rattle.std.proofs.Common.{arith, sym, ap, length-drop, take-append-drop, length-take-le, eqb-true, leb-true}
use Rattle.std.proofs.Math.Path.{refl}
use Rattle.std.proofs.lemmas.Bool.{false≢true}
use Rattle.std.proofs.Math.ListN.{length, get_or, length-append}
use Rattle.meaning.specs.Logic.{Is, eq→Is}
use Rattle.meaning.specs.Ranges.{within, all_ranges}
use Rattle.formulas.specs.Decode.{Parsed, none, some, formula_at, terms_at}
use Rattle.formulas.specs.Bodies.{ends}
use Rattle.formulas.proofs.Decoded.{Every, every_then, every_last}
use Rattle.reading.proofs.Refusals.{&&-left, &&-right}
use Rattle.spelling.specs.Spelled.{spelled, spelled_terms}
use Rattle.spelling.specs.Stands.{Stands, moved, stands_from, stands_alone, before_one, both_parts}
use Rattle.spelling.proofs.SpelledThere.{read_there, formula_spelled, terms_spelled}
use Rattle.translation.specs.Processes.{Summand}
use Rattle.translation.specs.Modal.{truth}
use Rattle.translation.specs.Rules.{well_formed_summand, well_formed_formula}
use Rattle.inputs.specs.Modals.{modal_at}
use Rattle.inputs.specs.Inputs.{count_of, ranges_of, initial_of, is_process, summand_at}
use Rattle.inputs.specs.Inputs.{read_or, no_summand, summand_in, is_summand, modal_in, is_formula}
use Rattle.inputs.specs.InputFrames.{spelled_modal, process_frame, summand_frame, formula_frame}
use Rattle.inputs.specs.ModalRead.{read_as, modal_spelled}
use Rattle.inputs.specs.FramesSpelled.{ProcessFits, SummandThere, after_head}

-- what was read to a place
ended : {A : Type 0} (a : A) (p : Parsed A) (z : ℕ) → ends z p ≡ true → p ≡ some (read_or a p) z
ended a none z h = absurd (false≢true h)
ended a (some b m) z h = ap (some b) (eqb-true m z h)

-- ---- the head of a `09` or `07`: its code, a count and as many ranges
module _ (f : List ℕ) where
  pub ranges_count : 2 + count_of f ≤ length f → length (ranges_of f) ≡ count_of f
  ranges_count l = length-take-le (count_of f) (drop 2 f) (omega (arith, length-drop 2 f))

  -- and w up to the end
  with_head : (code : ℕ) (w : List ℕ) → get_or f 0 0 ≡ code → Stands f (2 + count_of f) w →
      length f ≡ 2 + count_of f + length w → f ≡ code ∷ length (ranges_of f) ∷ (ranges_of f ++ w)
  with_head code w h there long =
      let rs = ranges_of f in
      let count = ranges_count (omega arith) in
      let first = stands_from f 2 rs (drop (count_of f) (drop 2 f)) (omega arith)
      (sym (take-append-drop (count_of f) (drop 2 f))) in
      let next = moved f (2 + count_of f) (2 + length rs) w (omega (arith, count)) there in
      let both = both_parts f 2 rs w first next in
      let one = before_one f 1 (length rs) (rs ++ w) (sym count) both in
      stands_alone f (code ∷ length rs ∷ (rs ++ w)) (before_one f 0 code (length rs ∷ (rs ++ w)) h one)
      (omega (arith, count, length-append rs w))

pub process_fits : (f : List ℕ) → is_process f ≡ true → ProcessFits f
unfolding is_process
process_fits f h =
    let few = leb (count_of f) 4 in
    let size = eqb (length f) (2 + count_of f + count_of f) in
    let ranges = all_ranges (ranges_of f) in
    let values = within (initial_of f) (ranges_of f) in
    let second = &&-right few (size && (ranges && values)) h in
    let third = &&-right size (ranges && values) second in
    record {
      few = leb-true (count_of f) 4 (&&-left few (size && (ranges && values)) h);
      size = eqb-true (length f) (2 + count_of f + count_of f) (&&-left size (ranges && values) second);
      ranges = eq→Is (&&-left ranges values third);
      values = eq→Is (&&-right ranges values third);
    }

pub process_spelled : (f : List ℕ) (ss : List Summand) → is_process f ≡ true → get_or f 0 0 ≡ 0x09 →
    f ≡ process_frame (record { ranges = ranges_of f; initial = initial_of f; summands = ss })
unfolding process_frame
process_spelled f ss h code =
    let long = (process_fits f h).size in
    let rest = drop (2 + count_of f) f in
    let there = stands_from f (2 + count_of f) (initial_of f) (drop (count_of f) rest) (omega arith)
    (sym (take-append-drop (count_of f) rest)) in
    let count = length-take-le (count_of f) rest (omega (arith, length-drop (2 + count_of f) f)) in
    with_head f 0x09 (initial_of f) code there (omega (arith, count))

module _ (rs f : List ℕ) where
  every_summand : Every (λ s e. e ≡ length f → SummandThere f s) (summand_at rs f)
  unfolding summand_at
  every_summand =
      let k = length rs + count_of f in
      every_then _ (read_as (formula_at (length f) f k 0 (2 + count_of f))) (λ c e read_c.
      every_last _ (read_as (terms_at (length f) (length rs) f k (e + 1))) (λ ts end read_ts o.
      let terms = terms_spelled (length f) f k (e + 1) end (length rs) ts read_ts (omega arith) in
      let inside : e ≤ length f = omega (arith, terms.1) in
      let condition = formula_spelled (length f) f k (2 + count_of f) e 0 c read_c inside in
      let action = before_one f e (get_or f e 0) (spelled_terms ts) refl terms.0 in
      let w = get_or f e 0 ∷ spelled_terms ts in
      record {
        own = refl;
        stands = both_parts f (2 + count_of f) (spelled c) w condition.0
            (moved f e (2 + count_of f + length (spelled c)) w condition.1 action);
        size = omega (arith, terms.1, condition.1, length-append (spelled c) w);
      }))

module _ (rs f : List ℕ) (h : is_summand rs f ≡ true) where
  pub summand_there : SummandThere f (summand_in rs f)
  unfolding is_summand
  summand_there =
      let all = ended no_summand (summand_at rs f) (length f) (&&-left _ _ h) in
      read_there (every_summand rs f) all refl

  pub summand_formed : Is (well_formed_summand rs (summand_in rs f))
  unfolding is_summand
  summand_formed = eq→Is (&&-right (ends (length f) (summand_at rs f)) _ h)

  pub summand_spelled : get_or f 0 0 ≡ 0x07 → f ≡ summand_frame (summand_in rs f)
  unfolding summand_frame
  summand_spelled code =
      let there = summand_there in
      let spelled_out = with_head f 0x07 (after_head (summand_in rs f)) code there.stands there.size in
      rw there.own spelled_out

-- ---- `08`
module _ (f : List ℕ) (h : is_formula f ≡ true) where
  pub formula_formed : Is (well_formed_formula [] 0 (modal_in f))
  unfolding is_formula
  formula_formed = eq→Is (&&-right (ends (length f) (modal_at (length f) f 1)) _ h)

  pub formula_spelled_frame : get_or f 0 0 ≡ 0x08 → f ≡ formula_frame (modal_in f)
  unfolding is_formula formula_frame
  formula_spelled_frame code =
      let p = modal_at (length f) f 1 in
      let all = ended (truth false) p (length f) (&&-left (ends (length f) p) _ h) in
      let there = modal_spelled (length f) f 1 (modal_in f) (length f) all (omega arith) in
      stands_alone f (0x08 ∷ spelled_modal (modal_in f))
      (before_one f 0 0x08 (spelled_modal (modal_in f)) code there.0) (omega (arith, there.1))
