-- A text that is not refused gives a well-formed model and start, each body one formula that was read whole.
-- Frame by frame: what each refusal leaves is kept, `Kept`; then what 7 and 8 leave.
use Prim.Native.Nat.{ℕ, zero, suc, ◌+◌, ◌≤◌, ◌<◌}
use native.Mathlib.Omega.{arith}
use mathlib.Core.Path.{◌≡◌, refl}
use mathlib.Core.Bool.{true, false, ◌&&◌}
use mathlib.Core.List.{List, [], ◌∷◌, ◌++◌, map, append_assoc, append-nil}
use lib.Dec.{eqb, leb}
use lib.ListN.{length, get_or, take, length-map}
use lib.Seq.{length-take-le}
use borrow.Author.Tests.{le-leb, leb-true, eqb-true, eqb-false}
use Rattle.meaning.specs.Logic.{Is, is, and_i, and_l, and_r, eq→Is, cases}
use Rattle.meaning.specs.Ranges.{is_range, all_ranges, typed, signatures, well_formed_equation, well_formed_equations}
use Rattle.meaning.specs.Ranges.{well_formed}
use Rattle.frames.specs.Lines.{line_place}
use Rattle.frames.specs.Frames.{Frame, frames}
use Rattle.formulas.specs.Bodies.{is_fitting}
use Rattle.formulas.proofs.Decoded.{body_sound}
use Rattle.reading.specs.Equations.{four_ranges, ranges_in, body_in, is_valid_head, equation_of}
use Rattle.reading.specs.Models.{equations_in, starts_in, is_none, model_of, start_in}
use Rattle.reading.specs.Reading.{Refusal, instances_judged, start_judged, finished, frames_judged, text_refusal}
use Rattle.reading.specs.Records.{kept, reading}
use Rattle.reading.proofs.Refusals.{&&-left, &&-right, passed}
use Rattle.reading.proofs.Drafts.{EquationSound, Kept, Drafted, goes, refusal_after, kept_none, kept_more}
use Rattle.reading.proofs.Drafts.{no_frame}

-- what 7 and 8 leave beside
pub record Passed (fs : List Frame) : Type 0 where
  pub frames_kept : Kept fs
  pub started : is_none (starts_in fs) ≡ false
  pub fit : (j : ℕ) → j < length (equations_in fs) → let f = (get_or (equations_in fs) j no_frame).bytes in
      is_fitting (signatures (model_of fs)) (body_in f) (ranges_in f) ≡ true
  pub starts : typed (signatures (model_of fs)) (start_in fs) ≡ true

-- ---- where nothing is refused, each test holds
abbrev number_of : Refusal → ℕ
number_of r = r.number

instances_passed : (sigs : List (List ℕ)) (es : List Frame) (others : Refusal) → (instances_judged sigs es others).number ≡ 0
    → ((j : ℕ) → j < length es → let f = (get_or es j no_frame).bytes in is_fitting sigs (body_in f) (ranges_in f) ≡ true)
    × (others.number ≡ 0)
unfolding instances_judged
instances_passed sigs [] others e = ((λ j h. absurd (omega arith)), e)
instances_passed sigs (f ∷ es) others e =
    let here = passed number_of (is_fitting sigs (body_in f.bytes) (ranges_in f.bytes)) e (omega arith) in
    let more = instances_passed sigs es others here.1 in (
      λ j. elim j as (λ k. k < length (f ∷ es) → let g = (get_or (f ∷ es) k no_frame).bytes in
          is_fitting sigs (body_in g) (ranges_in g) ≡ true)
          [ zero ↦ λ h. here.0 | suc j ↦ λ h. more.0 j (omega arith) ],
      more.1,
    )

finished_passed : (fs : List Frame) (i : ℕ) → Kept fs → (finished fs i).number ≡ 0 → Passed fs
unfolding finished start_judged
finished_passed fs i k e = cases (is_none (starts_in fs)) (λ b. absurd (omega (arith, rw b at e))) begun
  where
    begun : is_none (starts_in fs) ≡ false → Passed fs
    begun b =
        let seven = instances_passed (signatures (model_of fs)) (equations_in fs) _ (rw b at e) in
        let eight = passed number_of (typed (signatures (model_of fs)) (start_in fs)) seven.1 (omega arith) in
        record { frames_kept = k; started = b; fit = seven.0; starts = eight.0 }

frames_passed : (done fs : List Frame) (end : Refusal) → Kept done → (frames_judged done fs end).number ≡ 0 → Passed (done ++ fs)
unfolding frames_judged
frames_passed done [] end k e = cases (eqb end.number 0)
    (λ b. rw (append-nil done) (finished_passed done end.line k (rw b at e)))
    (λ b. absurd (eqb-false end.number 0 b (rw b at e)))
frames_passed done (f ∷ fs) end k e = cases (eqb (refusal_after done f.bytes) 0)
    (λ b. rw (append_assoc done (f ∷ []) fs) at
    (frames_passed (done ++ (f ∷ [])) fs end (kept_more (goes done f (eqb-true _ 0 b)) k) (rw b at e)))
    (λ b. absurd (eqb-false _ 0 b (rw b at e)))

pub text_passed : (t : List ℕ) → (text_refusal t).number ≡ 0 → Passed (frames t).all
unfolding text_refusal
text_passed t e = frames_passed [] (frames t).all _ kept_none e

-- ---- so the model is well-formed
-- what 5 leaves of a head
head_parts : (f : List ℕ) → is_valid_head f ≡ true → (get_or f 2 0 ≤ 4) × (all_ranges (four_ranges f) ≡ true)
unfolding is_valid_head
head_parts f h =
    let ranges = all_ranges (four_ranges f) in
    let few = leb (get_or f 2 0) 4 in
    let tail = &&-right (leb (get_or f 1 0) 1) (few && ranges) (&&-right (leb (3 + get_or f 2 0) (length f)) _ h) in
    (leb-true (get_or f 2 0) 4 (&&-left few ranges tail), &&-right few ranges tail)

-- as many parameters as k says
pub parameters : {f : List ℕ} → EquationSound f → (get_or f 2 0 ≤ 4) × (length (ranges_in f) ≡ get_or f 2 0)
parameters {f} s =
    let k = (head_parts f s.head).0 in
    (k, length-take-le (get_or f 2 0) (four_ranges f) k)

ranges_first : (k : ℕ) (l : List ℕ) → Is (all_ranges l) → Is (all_ranges (take k l))
unfolding all_ranges
ranges_first zero l h = is
ranges_first (suc k) [] h = is
ranges_first (suc k) (r ∷ l) h = and_i (and_l (is_range r) (all_ranges l) h)
    (ranges_first k l (and_r (is_range r) (all_ranges l) h))

equation_well_formed : (sigs : List (List ℕ)) (f : List ℕ) → EquationSound f → is_fitting sigs (body_in f) (ranges_in f) ≡ true
    → Is (well_formed_equation sigs (equation_of f))
unfolding well_formed_equation is_fitting
equation_well_formed sigs f s h =
    let p = parameters s in
    and_i (and_i (and_i
    (eq→Is (le-leb (length (ranges_in f)) 4 (omega (arith, p.0, p.1))))
    (ranges_first (get_or f 2 0) (four_ranges f) (eq→Is (head_parts f s.head).1)))
    (body_sound (body_in f) (ranges_in f) s.body))
    (eq→Is h)

equations_well_formed : (sigs : List (List ℕ)) (es : List Frame)
    → ((j : ℕ) → j < length es → Is (well_formed_equation sigs (equation_of (get_or es j no_frame).bytes)))
    → Is (well_formed_equations sigs (map (λ f. equation_of f.bytes) es))
unfolding well_formed_equations
equations_well_formed sigs [] f = is
equations_well_formed sigs (e ∷ es) f = and_i (f 0 (omega arith)) (equations_well_formed sigs es (λ j h. f (suc j) (omega arith)))

pub reading_well_formed : (t : List ℕ) → (text_refusal t).number ≡ 0
    → Is (well_formed (model_of (frames t).all) (start_in (frames t).all))
unfolding well_formed model_of
reading_well_formed t h =
    let p = text_passed t h in
    let es = equations_in (frames t).all in
    let k = p.frames_kept.sound in
    and_i (and_i
    (eq→Is (le-leb (length (map (λ f. equation_of f.bytes) es)) 8
    (omega (arith, length-map es (λ f. equation_of f.bytes), k.few))))
    (equations_well_formed (signatures (model_of (frames t).all)) es
    (λ j l. equation_well_formed (signatures (model_of (frames t).all)) _ (k.each j l) (p.fit j l))))
    (eq→Is p.starts)

-- ---- the structs of every reading hold the frames that are kept
pub reading_drafted : (t : List ℕ) → Drafted (line_place t) (kept t) (reading t).model (reading t).bodies
unfolding reading
reading_drafted t = record {
  model = refl;
  stored = refl;
  kept = cases (eqb (text_refusal t).number 0) (λ e. rw e (text_passed t (eqb-true _ 0 e)).frames_kept) (λ e. rw e kept_none);
}
