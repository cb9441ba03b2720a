-- THEOREM: the frames of a text that is not refused are those of its process and formula, well-formed both.
-- The frames that were judged so far are none, a `09` and some `07`, or those and an `08`.
use Rattle.std.specs.Prelude.{ℕ, zero, suc, ◌<◌, ◌≡◌, true, false, not, cond, ◌&&◌, length, get_or, eqb, leb}
use Rattle.std.proofs.Common.{arith, sym, ap, ◌∙◌, length-append}
use Rattle.std.proofs.Math.Path.{refl, ap₂}
use Rattle.std.proofs.lemmas.Bool.{false≢true}
use mathlib.Core.List.{List, [], ◌∷◌, ◌++◌, map, append-nil}
use Rattle.std.proofs.Math.ListN.{length-map}
use borrow.Author.Tests.{eqb-true, leb-true, le-leb}
use Rattle.meaning.specs.Logic.{Is, is, and_i, eq→Is, cases}
use Rattle.frames.specs.Frames.{Frame, frames}
use Rattle.frames.specs.RoundTrip.{Writable}
use Rattle.frames.proofs.RoundTrip.{read_writable}
use Rattle.reading.specs.Reading.{refused}
use Rattle.reading.proofs.Refusals.{&&-left, &&-right}
use Rattle.translation.specs.Processes.{Process}
use Rattle.translation.specs.Rules.{well_formed_summands, well_formed_process, well_formed_input}
use Rattle.inputs.specs.Inputs.{ranges_of, initial_of, is_process, summand_in, is_summand}
use Rattle.inputs.specs.Inputs.{modal_in, is_formula, with_code, first_frame, process_in, formula_in}
use Rattle.inputs.specs.Inputs.{is_none, is_open, keeps_rules, and_frame, judged}
use Rattle.inputs.specs.Inputs.{input_refusal, content_of, process_of, formula_of}
use Rattle.inputs.specs.InputFrames.{summand_frame, input_frames}
use Rattle.inputs.proofs.FramesSpelled.{process_fits, process_spelled, ranges_count}
use Rattle.inputs.proofs.FramesSpelled.{summand_formed, summand_spelled}
use Rattle.inputs.proofs.FramesSpelled.{formula_formed, formula_spelled_frame}
use Rattle.inputs.specs.Content.{Begun, Next, Opened, Stage, Summands, Whole, a_formula, a_note, a_process, a_summand, begun}
use Rattle.inputs.specs.Content.{no_more, nothing, one_more, whole}

-- ---- frames by their first byte
pub code_more : (code : ℕ) (fs gs : List (List ℕ)) →
    with_code code (fs ++ gs) ≡ with_code code fs ++ with_code code gs
unfolding with_code
code_more code [] gs = refl
code_more code (f ∷ fs) gs =
    let more = code_more code fs gs in
    cases (eqb (get_or f 0 0) code) (λ h. rw h (ap (λ (l : List (List ℕ)). f ∷ l) more)) (λ h. rw h more)

and_last : {rs : List ℕ} {fs : List (List ℕ)} (f : List ℕ) → get_or f 0 0 ≡ 0x07 → is_summand rs f ≡ true →
    Summands rs fs → Summands rs (fs ++ (f ∷ []))
and_last f c h no_more = one_more c h no_more
and_last f c h (one_more d g rest) = one_more d g (and_last f c h rest)

module _ {rs : List ℕ} where
  all_summands : {fs : List (List ℕ)} → Summands rs fs → with_code 0x07 fs ≡ fs
  unfolding with_code
  all_summands no_more = refl
  all_summands (one_more {f} {fs} c h rest) = rw c (ap (λ (l : List (List ℕ)). f ∷ l) (all_summands rest))

  no_formula : {fs : List (List ℕ)} → Summands rs fs → with_code 0x08 fs ≡ []
  unfolding with_code
  no_formula no_more = refl
  no_formula (one_more c h rest) = rw c (no_formula rest)

  summands_spelled : {fs : List (List ℕ)} → Summands rs fs → fs ≡ map summand_frame (map (summand_in rs) fs)
  summands_spelled no_more = refl
  summands_spelled (one_more {f} {fs} c h rest) = ap₂ ◌∷◌ (summand_spelled rs f h c) (summands_spelled rest)

  summands_formed : {fs : List (List ℕ)} → Summands rs fs →
      Is (well_formed_summands rs (map (summand_in rs) fs))
  unfolding well_formed_summands
  summands_formed no_more = is
  summands_formed (one_more {f} c h rest) = and_i (summand_formed rs f h) (summands_formed rest)

-- ---- which frames of them have which code
module _ {p : List ℕ} {fs : List (List ℕ)} (o : Opened p fs) where
  pub opened_no_formula : with_code 0x08 (p ∷ fs) ≡ []
  unfolding with_code
  opened_no_formula = rw o.code (no_formula o.summands)

  opened_summands : (l : List ℕ) → get_or l 0 0 ≡ 0x08 → with_code 0x07 (p ∷ (fs ++ (l ∷ []))) ≡ fs
  unfolding with_code
  opened_summands l c =
      rw o.code (code_more 0x07 fs (l ∷ []) ∙ rw c (append-nil _) ∙ all_summands o.summands)

  opened_formula : (l : List ℕ) → get_or l 0 0 ≡ 0x08 → with_code 0x08 (p ∷ (fs ++ (l ∷ []))) ≡ l ∷ []
  unfolding with_code
  opened_formula l c = rw o.code (code_more 0x08 fs (l ∷ []) ∙ rw (c, no_formula o.summands) refl)

module _ {content : List (List ℕ)} (w : Whole content) where
  pub whole_formula : with_code 0x08 content ≡ w.last ∷ []
  whole_formula = ap (with_code 0x08) w.all ∙ opened_formula w.opened w.last w.code

  whole_summands : with_code 0x07 content ≡ w.others
  whole_summands = ap (with_code 0x07) w.all ∙ opened_summands w.opened w.last w.code

pub next_frame : (done : List (List ℕ)) (f : List ℕ) → keeps_rules done f ≡ true → Next done f
unfolding keeps_rules
next_frame done f k =
    let c = get_or f 0 0 in
    let few = leb (length done) 16 in
    let fits = is_summand (ranges_of (first_frame done)) f in
    cases (eqb c 0x03) a_note (λ n3. let k3 = rw n3 at k in
    cases (eqb c 0x09) (λ h. let k9 = rw h at k3 in
    a_process (eqb-true c 0x09 h) (&&-left (is_none done) (is_process f) k9)
    (&&-right (is_none done) (is_process f) k9))
    (λ n9. let k9 = rw n9 at k3 in
    cases (eqb c 0x07) (λ h. let k7 = rw h at k9 in
    let r = &&-right (is_open done) (few && fits) k7 in
    a_summand (eqb-true c 0x07 h) (&&-left (is_open done) (few && fits) k7)
    (leb-true (length done) 16 (&&-left few fits r)) (&&-right few fits r))
    (λ n7. let k7 = rw n7 at k9 in
    cases (eqb c 0x08) (λ h. let k8 = rw h at k7 in
    a_formula (eqb-true c 0x08 h) (&&-left (is_open done) (is_formula f) k8)
    (&&-right (is_open done) (is_formula f) k8))
    (λ n8. absurd (false≢true (rw n8 at k7))))))

pub is_begun : {done : List (List ℕ)} → Stage done → is_open done ≡ true → Begun done
is_begun (nothing e) h = absurd (false≢true (rw e at h))
is_begun (begun b) h = b
is_begun {done} (whole w) h =
    let none = &&-right (not (is_none done)) (is_none (with_code 0x08 done)) h in
    absurd (false≢true (rw (whole_formula w) at none))

is_nothing : (done : List (List ℕ)) → is_none done ≡ true → done ≡ []
is_nothing [] h = refl
is_nothing (f ∷ fs) h = absurd (false≢true h)

other_code : {c : ℕ} (n : ℕ) → eqb n 0x03 ≡ false → c ≡ n → eqb c 0x03 ≡ false
other_code n h e = rw e h

module _ (done : List (List ℕ)) (f : List ℕ) (stage : Stage done) where
  pub next_stage : Next done f → Stage (and_frame done f)
  next_stage (a_note h) = rw h stage
  next_stage (a_process c h k) =
      rw (other_code 0x09 refl c, is_nothing done h) (begun (record {
        first = f;
        others = [];
        opened = record { code = c; process = k; few = omega arith; summands = no_more };
        all = refl;
      }))
  next_stage (a_summand c h few k) =
      let b = is_begun stage h in
      let fits = ap (λ (l : List (List ℕ)). is_summand (ranges_of (first_frame l)) f) (sym b.all) ∙ k in
      rw (other_code 0x07 refl c) (begun (record {
        first = b.first;
        others = b.others ++ (f ∷ []);
        opened = record {
          code = b.opened.code;
          process = b.opened.process;
          few = omega (arith, few, ap length b.all, length-append b.others (f ∷ []));
          summands = and_last f c fits b.opened.summands;
        };
        all = ap (λ (l : List (List ℕ)). l ++ (f ∷ [])) b.all;
      }))
  next_stage (a_formula c h k) =
      let b = is_begun stage h in
      rw (other_code 0x08 refl c) (whole (record {
        first = b.first;
        others = b.others;
        last = f;
        opened = b.opened;
        code = c;
        formula = k;
        all = ap (λ (l : List (List ℕ)). l ++ (f ∷ [])) b.all;
      }))

-- ---- all frames
not_missing : {done : List (List ℕ)} (last : ℕ) → Stage done →
    (cond (is_none (with_code 0x08 done)) (refused 14 last) (refused 0 0)).number ≡ 0 → Whole done
unfolding with_code
not_missing last (nothing e) h = absurd (omega (arith, rw e at h))
not_missing last (begun b) h =
    absurd (omega (arith, rw (ap (with_code 0x08) b.all ∙ opened_no_formula b.opened) at h))
not_missing last (whole w) h = w

judged_whole : (done : List (List ℕ)) (fs : List Frame) (last : ℕ) → Stage done →
    (judged done fs last).refusal.number ≡ 0 → Whole (judged done fs last).content
unfolding judged
judged_whole done [] last stage h = not_missing last stage h
judged_whole done (f ∷ fs) last stage h =
    cases (keeps_rules done f.bytes) (λ k.
    let next = next_stage done f.bytes stage (next_frame done f.bytes k) in
    rw k (judged_whole (and_frame done f.bytes) fs last next (rw k at h)))
    (λ k. absurd (omega (arith, rw k at h)))

-- ---- what they say
module _ {content : List (List ℕ)} (w : Whole content) where
  whole_process : Process
  whole_process = record {
    ranges = ranges_of w.first;
    initial = initial_of w.first;
    summands = map (summand_in (ranges_of w.first)) w.others;
  }

  said_process : process_in content ≡ whole_process
  unfolding process_in whole_process
  said_process = rw (whole_summands w, w.all) refl

  said_formula : formula_in content ≡ modal_in w.last
  unfolding formula_in
  said_formula = rw (whole_formula w) refl

  pub whole_spelled : content ≡ input_frames (process_in content) (formula_in content)
  unfolding input_frames whole_process
  whole_spelled =
      let ss = map (summand_in (ranges_of w.first)) w.others in
      let one = process_spelled w.first ss w.opened.process w.opened.code in
      let more = summands_spelled w.opened.summands in
      let last = formula_spelled_frame w.last w.formula w.code in
      rw (said_process, said_formula) (w.all ∙ ap₂ ◌∷◌ one
      (ap₂ (λ (l : List (List ℕ)) (f : List ℕ). l ++ (f ∷ [])) more last))

  pub whole_formed : Is (well_formed_input (process_in content) (formula_in content))
  unfolding well_formed_input well_formed_process whole_process
  whole_formed =
      let fits = process_fits w.first w.opened.process in
      let few = le-leb (length (ranges_of w.first)) 4
      (omega (arith, fits.few, ranges_count w.first (omega (arith, fits.size)))) in
      let sixteen = le-leb (length whole_process.summands) 16
      (omega (arith, w.opened.few, length-map w.others (summand_in (ranges_of w.first)))) in
      rw (said_process, said_formula) (and_i (and_i (and_i (and_i (and_i
      (eq→Is few) fits.ranges) fits.values) (eq→Is sixteen)) (summands_formed w.opened.summands))
      (formula_formed w.last w.formula))

-- ---- what holds of each frame of a text holds of those that are left when the notes are
module _ (P : List ℕ → Type 0) where
  abbrev pub Each : List (List ℕ) → Type 0
  Each fs = (i : ℕ) → i < length fs → P (get_or fs i [])

  and_one : (done : List (List ℕ)) (f : List ℕ) → Each done → P f → Each (done ++ (f ∷ []))
  and_one [] f all one zero h = one
  and_one [] f all one (suc i) h = absurd (omega arith)
  and_one (g ∷ done) f all one zero h = all 0 (omega arith)
  and_one (g ∷ done) f all one (suc i) h =
      and_one done f (λ j l. all (suc j) (omega arith)) one i (omega arith)

  judged_each : (done : List (List ℕ)) (fs : List Frame) (last : ℕ) → Each done →
      Each (map (λ (f : Frame). f.bytes) fs) → Each (judged done fs last).content
  unfolding judged
  judged_each done [] last all each = all
  judged_each done (f ∷ fs) last all each =
      let rest : Each (map (λ (g : Frame). g.bytes) fs) = λ i h. each (suc i) (omega arith) in
      let next : Each (and_frame done f.bytes) = cases (eqb (get_or f.bytes 0 0) 0x03) (λ n. rw n all)
      (λ n. rw n (and_one done f.bytes all (each 0 (omega arith)))) in
      let on = judged_each (and_frame done f.bytes) fs last next rest in
      cases (keeps_rules done f.bytes) (λ k. rw k on) (λ k. rw k all)

-- ---- a text that is not refused
pub frames_read : (t : List ℕ) → (input_refusal t).number ≡ 0 → (frames t).number ≡ 0
unfolding input_refusal
frames_read t h = cases (eqb (frames t).number 0) (λ e. eqb-true (frames t).number 0 e) (λ e. rw e at h)

module _ (t : List ℕ) (h : (input_refusal t).number ≡ 0) where
  pub content_whole : Whole (content_of t)
  unfolding input_refusal
  content_whole =
      let read = frames_read t h in
      judged_whole [] (frames t).all (frames t).line (nothing refl) (rw read at h)

  -- THEOREM: its frames are those of its process and its formula
  pub content_spelled : content_of t ≡ input_frames (process_of t) (formula_of t)
  content_spelled = whole_spelled content_whole

  -- THEOREM: which are well-formed
  pub content_formed : Is (well_formed_input (process_of t) (formula_of t))
  content_formed = whole_formed content_whole

  -- each has 1 to 256 bytes
  pub content_writable : Each Writable (content_of t)
  content_writable =
      judged_each Writable [] (frames t).all (frames t).line (λ i h. absurd (omega arith))
      (read_writable t (frames_read t h))
