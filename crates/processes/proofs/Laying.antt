-- The frames read so far, laid out on the sheet: they keep the rules, and the sheet begins with the process.
-- A frame that keeps the rules and is no note comes behind the others: one part of the sheet is written.
use Prim.Native.Nat.{ℕ, suc, ◌+◌, ◌*◌, ◌≤◌}
use native.Mathlib.Omega.{arith}
use mathlib.Core.Path.{◌≡◌, refl, sym, ap, ◌∙◌}
use mathlib.Core.Bool.{Bool, true, false, not, true≢false, not-not}
use mathlib.Core.List.{List, [], ◌∷◌, ◌++◌}
use lib.Dec.{eqb, leb}
use lib.ListN.{length, get_or, take, replicate, length-append, length-replicate}
use lib.Seq.{sets, get_or-take}
use borrow.Author.Tests.{eq-eqb, le-leb, ne_eqb}
use Rattle.meaning.specs.Logic.{cases}
use Rattle.reading.proofs.Refusals.{&&-right}
use Rattle.spelling.specs.Stands.{Stands, after_one}
use Rattle.spelling.specs.Stands as stands
use Rattle.inputs.specs.Inputs.{count_of, ranges_of, is_process, with_code, first_frame, is_none}
use Rattle.inputs.specs.Inputs.{keeps_rules, and_frame}
use Rattle.inputs.specs.Sheet.{slot_of, sheet_over, sheet_of}
use Rattle.inputs.proofs.FramesSpelled.{process_fits}
use Rattle.inputs.specs.Content.{Stage, nothing, begun, whole, Next, a_note, a_process, a_summand, a_formula}
use Rattle.inputs.proofs.Content.{code_more}
use Rattle.inputs.proofs.Content.{next_frame, next_stage}
use Rattle.inputs.proofs.SheetLaws.{sheet_more, sheet_first, first_ranges}
use Rattle.processes.specs.Contract.{is_next}

-- ---- a sheet that begins with a process
first_count : (sheet f : List ℕ) → Stands sheet 0 f → 2 ≤ length f → count_of (take 256 sheet) ≡ count_of f
first_count sheet [] there h = absurd (omega arith)
first_count sheet (a ∷ []) there h = absurd (omega arith)
first_count sheet (a ∷ c ∷ f) there h =
    get_or-take 256 sheet 1 0 (omega arith) ∙ stands.first sheet 1 c f (after_one sheet 0 a (c ∷ f) there)

-- the first 256 bytes tell the same ranges as the frame
abbrev Head : List ℕ → List ℕ → Type 0
Head sheet f = (count_of (take 256 sheet) ≤ 4) × (ranges_of (take 256 sheet) ≡ ranges_of f)

head : (f : List ℕ) (fs : List (List ℕ)) → get_or f 0 0 ≡ 9 → is_process f ≡ true → Head (sheet_of (f ∷ fs)) f
head f fs c p =
    let fits = process_fits f p in
    let short : length f ≤ 256 = omega (arith, fits.few, fits.size) in
    let there = sheet_first f fs (replicate 4608 0) (rw c refl) short (length-replicate {A = ℕ} 4608 0) in (
      rw (first_count _ f there (omega (arith, fits.size))) fits.few,
      first_ranges _ f there (omega (arith, fits.size)) short,
    )

-- zeros stand where there is no process yet
stage_head : (done : List (List ℕ)) → Stage done → Head (sheet_of done) (first_frame done)
unfolding sheet_over
stage_head done (nothing e) = rw e (omega arith, refl)
stage_head done (begun b) = rw b.all (head b.first b.others b.opened.code b.opened.process)
stage_head done (whole w) =
    rw w.all (head w.first (w.others ++ (w.last ∷ [])) w.opened.code w.opened.process)

-- ---- the frames that are done, as the code has them
pub record Laid (done : List (List ℕ)) (sheet : List ℕ) (count : ℕ) (whole : Bool) : Type 0 where
  pub stage : Stage done
  pub sheet_is : sheet ≡ sheet_of done
  pub counted : count ≡ length done
  pub ended : whole ≡ not (is_none (with_code 0x08 done))

pub laid_none : {sheet : List ℕ} → sheet ≡ replicate 4608 0 → Laid [] sheet 0 false
unfolding sheet_over with_code
laid_none e = record { stage = nothing refl; sheet_is = e; counted = refl; ended = refl }

module _ {done : List (List ℕ)} {sheet : List ℕ} {count : ℕ} {whole : Bool} (l : Laid done sheet count whole) where
  pub laid_head : Head sheet (first_frame done)
  laid_head = rw l.sheet_is (stage_head done l.stage)

-- what the code asks of a frame is whether it keeps the rules
none_counted : (fs : List (List ℕ)) → eqb (length fs) 0 ≡ is_none fs
none_counted [] = refl
none_counted (f ∷ fs) = ne_eqb (suc (length fs)) 0 (λ z. omega arith)

some_counted : (fs : List (List ℕ)) → leb 1 (length fs) ≡ not (is_none fs)
some_counted [] = refl
some_counted (f ∷ fs) = le-leb 1 (suc (length fs)) (omega arith)

pub next_is : {done : List (List ℕ)} {sheet : List ℕ} {count : ℕ} {whole : Bool} → Laid done sheet count whole
    → (f : List ℕ) → is_next sheet f count whole ≡ keeps_rules done f
unfolding is_next keeps_rules
next_is {done} l f =
    let formed = not-not (is_none (with_code 0x08 done)) in
    rw (l.counted, l.ended, (laid_head l).1, formed, none_counted done, some_counted done) refl

-- ---- one frame more: before it there was no formula, unless it is a note
no_frame : (fs : List (List ℕ)) → is_none fs ≡ true → fs ≡ []
no_frame [] h = refl
no_frame (f ∷ fs) h = absurd (true≢false (sym h))

unended : (done : List (List ℕ)) (f : List ℕ) → eqb (get_or f 0 0) 3 ≡ false → Next done f → with_code 0x08 done ≡ []
unfolding with_code
unended done f n (a_note h) = absurd (true≢false (sym h ∙ n))
unended done f n (a_process c h k) = rw (no_frame done h) refl
unended done f n (a_summand c h few k) = no_frame _ (&&-right (not (is_none done)) _ h)
unended done f n (a_formula c h k) = no_frame _ (&&-right (not (is_none done)) _ h)

module _ {done : List (List ℕ)} {sheet : List ℕ} {count : ℕ} {whole : Bool} (l : Laid done sheet count whole)
    (f : List ℕ) where
  abbrev place : ℕ
  place = 256 * slot_of (get_or f 0 0) count

  -- a note leaves all as it is
  laid_note : get_or f 0 0 ≡ 3 → Laid (and_frame done f) sheet count whole
  laid_note n = rw (eq-eqb _ 3 n) l

  laid_more : (get_or f 0 0 ≡ 3 → ⊥) → keeps_rules done f ≡ true
      → Laid (and_frame done f) (sets sheet place f) (count + 1) (eqb (get_or f 0 0) 8)
  unfolding with_code
  laid_more x k =
      let n = ne_eqb _ 3 x in
      let next = next_frame done f k in
      let m : 0 + length done ≡ count = omega (arith, l.counted) in
      let alone : with_code 0x08 (done ++ (f ∷ [])) ≡ with_code 0x08 (f ∷ []) =
      code_more 8 done (f ∷ []) ∙ ap (λ (l : List (List ℕ)). l ++ with_code 0x08 (f ∷ [])) (unended done f n next) in
      let one : not (is_none (with_code 0x08 (f ∷ []))) ≡ eqb (get_or f 0 0) 8 =
      cases (eqb (get_or f 0 0) 8) (λ e. rw e refl) (λ e. rw e refl) in
      let stage = next_stage done f l.stage next in
      rw n (record {
        stage = rw n at stage;
        sheet_is = ap (λ (s : List ℕ). sets s place f) l.sheet_is ∙ sym (rw m at (sheet_more 0 done f (replicate 4608 0)));
        counted = omega (arith, l.counted, length-append done (f ∷ []));
        ended = sym (ap (λ (l : List (List ℕ)). not (is_none l)) alone ∙ one);
      })

  -- as the code says it, with the frame's first byte and the place that it found
  module _ {code : ℕ} (c : code ≡ get_or f 0 0) where
    pub note_kept : {s : List ℕ} {n : ℕ} {w : Bool} → code ≡ 3 → s ≡ sheet → n ≡ count → w ≡ whole
        → Laid (and_frame done f) s n w
    note_kept e s n w = rw (s, n, w) (laid_note (sym c ∙ e))

    pub frame_kept : {slot : ℕ} {s : List ℕ} {n : ℕ} {w : Bool} → (code ≡ 3 → ⊥) → keeps_rules done f ≡ true
        → slot ≡ slot_of code count → s ≡ sets sheet (256 * slot) f → n ≡ count + 1 → w ≡ eqb code 8
        → Laid (and_frame done f) s n w
    frame_kept x k p s n w = rw (s, n, w, p, c) (laid_more (λ e. x (c ∙ e)) k)

pub slot_near : (code count : ℕ) {slot : ℕ} → slot ≡ slot_of code count → slot ≤ 17
slot_near code count p = rw p (cases (eqb code 8) (λ e. rw e (omega arith)) (λ e. rw e (omega arith)))
