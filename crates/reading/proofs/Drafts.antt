-- The structs of the code hold the frames read so far: their records, their bodies, and what 4, 5 and 6 leave of them.
-- A frame that is not refused comes behind the others: one store in each list.
use Prim.Native.Nat.{ℕ, zero, suc, ◌+◌, ◌-◌, ◌*◌, ◌≤◌, ◌<◌}
use native.Mathlib.Omega.{arith}
use native.Mathlib.Decide.{dec_lt}
use mathlib.Core.Path.{◌≡◌, refl, sym, ap, ap₂, ◌∙◌}
use mathlib.Core.Bool.{Bool, true, false, not, ◌&&◌, true≢false, not-not}
use mathlib.Core.List.{List, [], ◌∷◌, ◌++◌, map, map-append, append_assoc, append-nil}
use lib.Dec.{eqb, ltb, leb}
use lib.ListN.{length, get_or, take, drop, set, replicate, length-append, length-map, get_or-append}
use lib.Seq.{sets, set_at, take-set-le, drop-set-add, drop_at, length-take-le, take-append_seam, length-sets, sets-eq}
use lib.Seq.{get_or-append-add}
use borrow.Author.Tests.{eqb-true, eq-eqb, ltb-true, leb-true}
use Rattle.meaning.specs.Logic.{cases}
use Rattle.frames.specs.Frames.{Frame}
use Rattle.formulas.specs.declared.Equation.{Equation}
use Rattle.formulas.specs.Bodies.{is_body}
use Rattle.reading.specs.Contract.{with_equation, with_start, with_frame, body_kept}
use Rattle.reading.specs.Equations.{ranges_in, body_in, is_valid_head}
use Rattle.reading.specs.Models.{code_of, frames_with, equations_in, starts_in, is_none, first_of}
use Rattle.reading.specs.Reading.{equation_refusal, start_refusal, frame_refusal}
use Rattle.reading.specs.Records.{equation_record, start_record, no_equation, eight, ModelRecord, model_record, bodies_over}
use Rattle.reading.specs.Records.{bodies_of}
use Rattle.reading.proofs.Refusals.{&&-left, &&-right, passed}

-- ---- what 5 and 6 leave of an equation's frame
pub record EquationSound (f : List ℕ) : Type 0 where
  pub head : is_valid_head f ≡ true
  pub body : is_body (body_in f) (ranges_in f) ≡ true

abbrev pub no_frame : Frame
no_frame = first_of []

abbrev pub frame_of : ℕ → List ℕ → Frame
frame_of line f = record { line = line; bytes = f }

-- at most eight equations, each sound
pub record Sound (es : List Frame) : Type 0 where
  pub few : length es ≤ 8
  pub each : (j : ℕ) → j < length es → EquationSound (get_or es j no_frame).bytes

-- what 4, 5 and 6 leave of some frames: equations that are sound, and a start with at least its equation's number
pub record Kept (fs : List Frame) : Type 0 where
  pub sound : Sound (equations_in fs)
  pub begun : is_none (starts_in fs) ≡ false → 2 ≤ length (first_of (starts_in fs)).bytes

-- the records and the bodies are those of these frames
pub record Drafted (place : ℕ → ℕ) (fs : List Frame) (m : ModelRecord) (bodies : List ℕ) : Type 0 where
  pub model : m ≡ model_record place (equations_in fs) (starts_in fs)
  pub stored : bodies ≡ bodies_of (equations_in fs)
  pub kept : Kept fs

pub drafted_as : {place : ℕ → ℕ} {fs : List Frame} {m n : ModelRecord} {bodies others : List ℕ} → n ≡ m → others ≡ bodies
    → Drafted place fs m bodies → Drafted place fs n others
drafted_as e b d = record { model = e ∙ d.model; stored = b ∙ d.stored; kept = d.kept }

-- ---- the frames with a first byte, of some and of others behind them
pub frames_more : (code : ℕ) (fs gs : List Frame) → frames_with code (fs ++ gs) ≡ frames_with code fs ++ frames_with code gs
unfolding frames_with
frames_more code [] gs = refl
frames_more code (g ∷ fs) gs =
    let more = frames_more code fs gs in
    cases (eqb (code_of g) code) (λ e. rw e (ap (λ (l : List Frame). g ∷ l) more)) (λ e. rw e more)

module _ (code : ℕ) (fs : List Frame) (f : Frame) where
  frames_one : code_of f ≡ code → frames_with code (fs ++ (f ∷ [])) ≡ frames_with code fs ++ (f ∷ [])
  unfolding frames_with
  frames_one e = frames_more code fs (f ∷ []) ∙ rw (eq-eqb _ _ e) refl

  frames_other : eqb (code_of f) code ≡ false → frames_with code (fs ++ (f ∷ [])) ≡ frames_with code fs
  unfolding frames_with
  frames_other e = frames_more code fs (f ∷ []) ∙ rw e (append-nil _)

-- ---- one more of eight
eight_more : {A : Type 0} (x : A) (l : List A) (a : A) → length l < 8 → set (eight x l) (length l) a ≡ eight x (l ++ (a ∷ []))
eight_more x l a h =
    let e : 8 - length l ≡ suc (8 - length (l ++ (a ∷ []))) = omega (arith, length-append l (a ∷ [])) in
    rw e (set_at l x _ a (length l) refl ∙ sym (append_assoc l (a ∷ []) _))

-- ---- the bodies
bodies_more : (j : ℕ) (fs : List Frame) (f : Frame) (there : List ℕ)
    → bodies_over j (fs ++ (f ∷ [])) there ≡ sets (bodies_over j fs there) (256 * (j + length fs)) (body_in f.bytes)
unfolding bodies_over
bodies_more j [] f there = let e : j + 0 ≡ j = omega arith in rw e refl
bodies_more j (g ∷ fs) f there =
    let e : suc j + length fs ≡ j + suc (length fs) = omega arith in
    rw (← e) (bodies_more (suc j) fs f (sets there (256 * j) (body_in g.bytes)))

pub length_bodies : (j : ℕ) (fs : List Frame) (there : List ℕ) → length (bodies_over j fs there) ≡ length there
unfolding bodies_over
length_bodies j [] there = refl
length_bodies j (f ∷ fs) there =
    length_bodies (suc j) fs (sets there (256 * j) (body_in f.bytes)) ∙ length-sets there (256 * j) (body_in f.bytes)

-- a part that ends before a store is as it was
part_set : (n p q : ℕ) (l : List ℕ) (a : ℕ) → p + n ≤ q → take n (drop p (set l q a)) ≡ take n (drop p l)
part_set n p q l a h =
    let e : q ≡ p + (q - p) = omega arith in
    rw e (ap (take n) (drop-set-add p l (q - p) a) ∙ take-set-le n (drop p l) (q - p) a (omega arith))

part_sets : (n p q : ℕ) (l w : List ℕ) → p + n ≤ q → take n (drop p (sets l q w)) ≡ take n (drop p l)
part_sets n p q l [] h = refl
part_sets n p q l (a ∷ w) h = part_sets n p (suc q) (set l q a) w (omega arith) ∙ part_set n p q l a h

part_bodies : (n p j : ℕ) (fs : List Frame) (there : List ℕ) → p + n ≤ 256 * j
    → take n (drop p (bodies_over j fs there)) ≡ take n (drop p there)
unfolding bodies_over
part_bodies n p j [] there h = refl
part_bodies n p j (f ∷ fs) there h =
    part_bodies n p (suc j) fs (sets there (256 * j) (body_in f.bytes)) (omega arith) ∙
    part_sets n p (256 * j) there (body_in f.bytes) h

-- what was stored stands where it was stored
stored_part : (l w : List ℕ) (q : ℕ) → q + length w ≤ length l → take (length w) (drop q (sets l q w)) ≡ w
stored_part l w q h =
    let first = length-take-le q l (omega arith) in
    rw (sets-eq w l q h, append_assoc (take q l) w (drop (q + length w) l), drop_at (take q l) _ q first)
    (take-append_seam w _)

pub body_stored : (j : ℕ) (fs : List Frame) (there : List ℕ) (i : ℕ) → i < length fs
    → ((k : ℕ) → k < length fs → length (body_in (get_or fs k no_frame).bytes) ≤ 256)
    → 256 * (j + length fs) ≤ length there
    → take (length (body_in (get_or fs i no_frame).bytes)) (drop (256 * (j + i)) (bodies_over j fs there))
    ≡ body_in (get_or fs i no_frame).bytes
unfolding bodies_over
body_stored j [] there i l short room = absurd (omega arith)
body_stored j (f ∷ fs) there zero l short room =
    let e : j + 0 ≡ j = omega arith in
    let body = body_in f.bytes in
    rw e (part_bodies (length body) (256 * j) (suc j) fs (sets there (256 * j) body) (omega (arith, short 0 (omega arith))) ∙
    stored_part there body (256 * j) (omega (arith, short 0 (omega arith))))
body_stored j (f ∷ fs) there (suc i) l short room =
    let e : j + suc i ≡ suc j + i = omega arith in
    rw e (body_stored (suc j) fs (sets there (256 * j) (body_in f.bytes)) i (omega arith) (λ k m. short (suc k) (omega arith))
    (omega (arith, length-sets there (256 * j) (body_in f.bytes))))

-- ---- nothing read yet
pub kept_none : Kept []
unfolding frames_with
kept_none = record {
  sound = record { few = omega arith; each = λ j h. absurd (omega arith) };
  begun = λ h. absurd (true≢false h);
}

pub drafted_none : (place : ℕ → ℕ) {m : ModelRecord} {bodies : List ℕ} → m ≡ model_record place [] [] → bodies ≡ replicate 2048 0
    → Drafted place [] m bodies
unfolding bodies_over frames_with
drafted_none place e b = record { model = e; stored = b; kept = kept_none }

-- ---- what a frame that is not refused is
-- an equation: before the start, not the ninth, sound
pub equation_passed : (n : ℕ) (u : Bool) (f : List ℕ) → equation_refusal n u f ≡ 0 → (u ≡ true) × (n < 8) × EquationSound f
unfolding equation_refusal
equation_passed n u f e =
    let four = passed (λ n. n) (u && ltb n 8) e (omega arith) in
    let five = passed (λ n. n) (is_valid_head f) four.1 (omega arith) in
    let six = passed (λ n. n) (is_body (body_in f) (ranges_in f)) five.1 (omega arith) in
    (&&-left _ _ four.0, ltb-true n 8 (&&-right u _ four.0), record { head = five.0; body = six.0 })

pub start_passed : (n : ℕ) (u : Bool) (f : List ℕ) → start_refusal n u f ≡ 0 → (u ≡ true) × (0 < n) × (2 ≤ length f)
unfolding start_refusal
start_passed n u f e =
    let four = passed (λ n. n) (u && ltb 0 n) e (omega arith) in
    let five = passed (λ n. n) (leb 2 (length f)) four.1 (omega arith) in
    (&&-left _ _ four.0, ltb-true 0 n (&&-right u _ four.0), leb-true 2 (length f) five.0)

-- ---- one frame more
sound_more : (es : List Frame) (f : Frame) → Sound es → length es < 8 → EquationSound f.bytes → Sound (es ++ (f ∷ []))
sound_more es f s l e = record {
  few = omega (arith, length-append es (f ∷ []));
  each = λ j h. elim (dec_lt j (length es)) [
    | yes m ↦ rw (get_or-append es (f ∷ []) no_frame j m) (s.each j m)
    | no m ↦
        let k : j ≡ length es + 0 = omega (arith, length-append es (f ∷ [])) in
        rw (k, get_or-append-add es (f ∷ []) 0 no_frame) e
  ];
}

none_is : (fs : List Frame) → is_none fs ≡ true → fs ≡ []
none_is [] h = refl
none_is (f ∷ fs) h = absurd (true≢false (sym h))

-- a frame that is not refused is an equation that comes behind the others, the only start, or a note
pub data Goes (fs : List Frame) (f : Frame) : Type 0 where
  equation : code_of f ≡ 1 → length (equations_in fs) < 8 → EquationSound f.bytes
      → equations_in (fs ++ (f ∷ [])) ≡ equations_in fs ++ (f ∷ []) → starts_in (fs ++ (f ∷ [])) ≡ starts_in fs → Goes fs f
  start : eqb (code_of f) 1 ≡ false → code_of f ≡ 2 → 2 ≤ length f.bytes
      → equations_in (fs ++ (f ∷ [])) ≡ equations_in fs → starts_in (fs ++ (f ∷ [])) ≡ f ∷ [] → Goes fs f
  note : eqb (code_of f) 1 ≡ false → eqb (code_of f) 2 ≡ false
      → equations_in (fs ++ (f ∷ [])) ≡ equations_in fs → starts_in (fs ++ (f ∷ [])) ≡ starts_in fs → Goes fs f

abbrev pub refusal_after : List Frame → List ℕ → ℕ
refusal_after fs f = frame_refusal (length (equations_in fs)) (is_none (starts_in fs)) f

pub goes : (fs : List Frame) (f : Frame) → refusal_after fs f.bytes ≡ 0 → Goes fs f
unfolding frame_refusal
goes fs f e = cases (eqb (code_of f) 1) an_equation
    (λ o. cases (eqb (code_of f) 2) (a_start o) (λ c. note o c (frames_other 1 fs f o) (frames_other 2 fs f c)))
  where
    an_equation : eqb (code_of f) 1 ≡ true → Goes fs f
    an_equation c =
        let p = equation_passed _ _ f.bytes (rw c at e) in
        let one = eqb-true _ _ c in
        equation one p.1 p.2 (frames_one 1 fs f one) (frames_other 2 fs f (rw one refl))

    a_start : eqb (code_of f) 1 ≡ false → eqb (code_of f) 2 ≡ true → Goes fs f
    a_start o c =
        let p = start_passed _ _ f.bytes (rw (o, c) at e) in
        let two = eqb-true _ _ c in
        let alone = ap (λ (l : List Frame). l ++ (f ∷ [])) (none_is (starts_in fs) p.0) in
        start o two p.2 (frames_other 1 fs f o) (frames_one 2 fs f two ∙ alone)

pub kept_more : {fs : List Frame} {f : Frame} → Goes fs f → Kept fs → Kept (fs ++ (f ∷ []))
kept_more {fs} {f} (equation c l e es ss) k = record
    { sound = rw es (sound_more (equations_in fs) f k.sound l e); begun = rw ss k.begun }
kept_more {fs} {f} (start o c l es ss) k = record { sound = rw es k.sound; begun = rw ss (λ h. l) }
kept_more {fs} {f} (note o c es ss) k = record { sound = rw es k.sound; begun = rw ss k.begun }

map_more : {A B : Type 0} (g : A → B) (l : List A) (a : A) (x : B) → length l < 8
    → eight x (map g (l ++ (a ∷ []))) ≡ set (eight x (map g l)) (length l) (g a)
map_more g l a x h =
    rw (map-append g l (a ∷ []), ← eight_more x (map g l) (g a) (omega (arith, length-map l g)), length-map l g)

record_more : (place : ℕ → ℕ) (es ss : List Frame) (f : Frame) → length es < 8
    → model_record place (es ++ (f ∷ [])) ss
    ≡ with_equation (model_record place es ss) f.line (equation_record (place f.line) f.bytes)
unfolding model_record with_equation
record_more place es ss f h =
    let record_of : Frame → Equation = λ f. equation_record (place f.line) f.bytes in
    rw (length-append es (f ∷ []), map_more record_of es f no_equation h, map_more (λ f. f.line) es f 0 h) refl

record_start : (place : ℕ → ℕ) (es ss : List Frame) (f : Frame)
    → model_record place es (f ∷ []) ≡ with_start (model_record place es ss) (start_record f.line f.bytes)
unfolding model_record with_start
record_start place es ss f = refl

module _ {place : ℕ → ℕ} {fs : List Frame} {m : ModelRecord} {bodies : List ℕ} (d : Drafted place fs m bodies) where
  pub count_is : m.count ≡ length (equations_in fs)
  unfolding model_record
  count_is = ap (λ (m : ModelRecord). m.count) d.model

  pub unstarted_is : not m.started ≡ is_none (starts_in fs)
  unfolding model_record
  unstarted_is = ap (λ (m : ModelRecord). not m.started) d.model ∙ not-not (is_none (starts_in fs))

  module _ (line at : ℕ) (f : List ℕ) (p : place line ≡ at) where
    abbrev frame : Frame
    frame = frame_of line f

    model_more : Goes fs frame
        → with_frame m line at f ≡ model_record place (equations_in (fs ++ (frame ∷ []))) (starts_in (fs ++ (frame ∷ [])))
    model_more (equation c l e es ss) = rw c
        (ap (λ (x : ModelRecord). with_equation x line (equation_record at f)) d.model ∙ sym
        (ap₂ (model_record place) es ss ∙ rw (← p) (record_more place (equations_in fs) (starts_in fs) frame l)))
    model_more (start o c l es ss) = rw (o, c)
        (ap (λ (x : ModelRecord). with_start x (start_record line f)) d.model ∙ sym
        (ap₂ (model_record place) es ss ∙ record_start place (equations_in fs) (starts_in fs) frame))
    model_more (note o c es ss) = rw (o, c) (d.model ∙ sym (ap₂ (model_record place) es ss))

    stored_more : Goes fs frame → body_kept bodies m.count f ≡ bodies_of (equations_in (fs ++ (frame ∷ [])))
    stored_more (equation c l e es ss) =
        let number : m.count ≡ 0 + length (equations_in fs) = omega (arith, count_is) in
        rw c (ap₂ (λ (b : List ℕ) (n : ℕ). sets b (256 * n) (body_in f)) d.stored number ∙ sym
        (ap bodies_of es ∙ bodies_more 0 (equations_in fs) frame (replicate 2048 0)))
    stored_more (start o c l es ss) = rw o (d.stored ∙ sym (ap bodies_of es))
    stored_more (note o c es ss) = rw o (d.stored ∙ sym (ap bodies_of es))

    -- a frame that is not refused
    pub drafted_more : refusal_after fs f ≡ 0
        → Drafted place (fs ++ (frame ∷ [])) (with_frame m line at f) (body_kept bodies m.count f)
    drafted_more e =
        let g = goes fs frame e in
        record { model = model_more g; stored = stored_more g; kept = kept_more g d.kept }

    -- and it is not the ninth equation
    pub not_ninth : refusal_after fs f ≡ 0 → get_or f 0 0 ≡ 1 → m.count < 8
    unfolding frame_refusal
    not_ninth e c = rw count_is (equation_passed _ _ f (rw c at e)).1
