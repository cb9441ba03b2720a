-- THEOREM: the text of a well-formed model and start, with no frame over 256 bytes, is read as these.
-- Its lines are its frames; each equation's frame gives its equation back and passes every test, and so does
-- the start's.
use Rattle.std.specs.Prelude.{ℕ, zero, suc, ◌+◌, ◌*◌, ◌≤◌, ◌<◌, ◌≡◌, Bool, true, get_or}
use Rattle.std.proofs.Common.{arith, ap, ap₂, ◌∙◌, true≢false, length-append}
use Rattle.std.proofs.Math.Path.{refl}
use mathlib.Core.List.{List, [], ◌∷◌, ◌++◌, map, append_assoc}
use Rattle.std.proofs.Math.ListN.{length}
use borrow.Author.Tests.{le-leb, leb-true, ltb-true, lt-ltb}
use Rattle.meaning.specs.Logic.{Is, never, Is→eq, and_l, and_r}
use Rattle.meaning.specs.Formulas as meaning
use Rattle.meaning.specs.Formulas.{Term, number, variable, calculated}
use Rattle.meaning.specs.Formulas.{Formula, constant, joined, quantified, compared, instance}
use Rattle.meaning.specs.Models.{ModelEquation, Model}
use Rattle.meaning.specs.Reach.{Instance}
use Rattle.meaning.specs.Ranges.{is_range, sound_term, sound_terms, sound, fits, signatures, within, typed}
use Rattle.meaning.specs.Ranges.{all_ranges, well_formed_equation, well_formed_equations, well_formed}
use Rattle.meaning.proofs.Typed.{well_formed_start, well_formed_count, well_formed_all, signatures_length}
use Rattle.meaning.specs.Typed.{ranges_at}
use Rattle.meaning.proofs.Typed.{within_length, typed_equation, ranges_count, ranges_sound}
use Rattle.frames.specs.Frames.{Frame, frames}
use Rattle.frames.specs.Written.{text_size}
use Rattle.frames.proofs.Written.{text_length}
use Rattle.frames.specs.RoundTrip.{Writable, AllWritable, numbered, all_read}
use Rattle.frames.proofs.RoundTrip.{written_read}
use Rattle.formulas.specs.Bodies.{is_fitting}
use Rattle.reading.specs.Equations.{ranges_in, body_in, equation_of}
use Rattle.reading.specs.Models.{frames_with, equations_in, starts_in, is_none, model_of, start_in}
use Rattle.reading.specs.Reading.{equation_refusal, start_refusal, frame_refusal, Refusal, refused}
use Rattle.reading.specs.Reading.{instances_judged, start_judged, finished, frames_judged, text_refusal}
use Rattle.reading.proofs.Drafts as drafts
use Rattle.reading.proofs.Drafts.{EquationSound, frame_of, refusal_after, goes}
use Rattle.spelling.specs.Spelled.{either_code, test_code, spelled_term, spelled_terms, spelled}
use Rattle.spelling.specs.Spelled.{equation_frame, start_frame, model_frames}
use Rattle.spelling.proofs.ReadBack.{either_way, first_byte, start_byte, frame_length}
use Rattle.spelling.proofs.ReadBack.{equation_back, equation_passes}
use Rattle.spelling.specs.ModelText.{AllShort, StartRead, model_text}

-- ---- every byte of a frame is below 256
data Small : List ℕ → Type 0 where
  nothing : Small []
  byte : (b : ℕ) {w : List ℕ} → b < 256 → Small w → Small (b ∷ w)

small_at : {w : List ℕ} → Small w → (i : ℕ) → get_or w i 0 < 256
small_at nothing i = omega arith
small_at (byte b h f) zero = h
small_at (byte b h f) (suc i) = small_at f i

small_both : {u w : List ℕ} → Small u → Small w → Small (u ++ w)
small_both nothing g = g
small_both (byte b h f) g = byte b h (small_both f g)

either_small : (b : Bool) (t f : ℕ) → t < 256 → f < 256 → either_code b t f < 256
either_small = either_way (λ b c. c < 256)

test_small : (t : meaning.Test) → test_code t < 256
unfolding test_code
test_small meaning.equal = omega arith
test_small meaning.less = omega arith
test_small meaning.unequal = omega arith
test_small meaning.not_less = omega arith

range_small : (r : ℕ) → Is (is_range r) → r < 256
range_small r h = let most = leb-true r 16 (Is→eq (and_r _ _ h)) in omega arith

term_small : (k : ℕ) (t : Term) → k ≤ 8 → Is (sound_term k t) → Small (spelled_term t)
unfolding sound_term spelled_term
term_small k (number v) l h =
    let most = leb-true v 15 (Is→eq h) in
    byte 0x20 (omega arith) (byte v (omega arith) nothing)
term_small k (variable i) l h =
    let most = ltb-true i k (Is→eq h) in
    byte 0x21 (omega arith) (byte i (omega arith) nothing)
term_small k (calculated plus r a b) l h =
    byte _ (either_small plus 0x22 0x23 (omega arith) (omega arith))
    (byte r (range_small r (and_l _ _ (and_l _ _ h)))
    (small_both (term_small k a l (and_r _ _ (and_l _ _ h))) (term_small k b l (and_r _ _ h))))

terms_small : (k : ℕ) (ts : List Term) → k ≤ 8 → Is (sound_terms k ts) → Small (spelled_terms ts)
unfolding sound_terms spelled_terms
terms_small k [] l h = nothing
terms_small k (t ∷ ts) l h = small_both (term_small k t l (and_l _ _ h)) (terms_small k ts l (and_r _ _ h))

-- four parameters at most and a variable for each quantifier, four at most; eight equations at most
formula_small : (declared : List (List ℕ)) → length declared ≤ 8 → (f : Formula) (k q : ℕ) (rs : List ℕ) →
    k ≤ 4 + q → q ≤ 4 → Is (sound k q f) → Is (fits declared f rs) → Small (spelled f)
unfolding sound fits spelled
formula_small declared few (constant b) k q rs l m s t =
    byte _ (either_small b 0x11 0x10 (omega arith) (omega arith)) nothing
formula_small declared few (joined all f g) k q rs l m s t =
    byte _ (either_small all 0x12 0x13 (omega arith) (omega arith))
    (small_both (formula_small declared few f k q rs l m (and_l _ _ s) (and_l _ _ t))
    (formula_small declared few g k q rs l m (and_r _ _ s) (and_r _ _ t)))
formula_small declared few (quantified all r f) k q rs l m s t =
    let fewer = ltb-true q 4 (Is→eq (and_l _ _ (and_l _ _ s))) in
    let ranged = and_r _ _ (and_l _ _ s) in
    byte _ (either_small all 0x14 0x15 (omega arith) (omega arith)) (byte r (range_small r ranged)
    (formula_small declared few f (suc k) (suc q) (rs ++ (r ∷ [])) (omega arith) (omega arith) (and_r _ _ s)
    t))
formula_small declared few (compared t a b) k q rs l m s x =
    byte (test_code t) (test_small t)
    (small_both (term_small k a (omega arith) (and_l _ _ s)) (term_small k b (omega arith) (and_r _ _ s)))
formula_small declared few (instance e ts) k q rs l m s x =
    let named = ltb-true e (length declared) (Is→eq (and_l _ _ x)) in
    let count = leb-true (length ts) 4 (Is→eq (and_l _ _ s)) in
    byte 0x1a (omega arith) (byte e (omega arith) (byte (length ts) (omega arith)
    (terms_small k ts (omega arith) (and_r _ _ s))))

ranges_small : (rs : List ℕ) → Is (all_ranges rs) → Small rs
unfolding all_ranges
ranges_small [] h = nothing
ranges_small (r ∷ rs) h = byte r (range_small r (and_l _ _ h)) (ranges_small rs (and_r _ _ h))

within_small : (x : List ℕ) {rs : List ℕ} → Is (within x rs) → Small rs → Small x
unfolding within
within_small [] h f = nothing
within_small (a ∷ x) h nothing = never h
within_small (a ∷ x) h (byte r l f) =
    let below = ltb-true a r (Is→eq (and_l _ _ h)) in
    byte a (omega arith) (within_small x (and_r _ _ h) f)

equation_small : (declared : List (List ℕ)) → length declared ≤ 8 → (e : ModelEquation) →
    length e.ranges ≤ 4 → Is (all_ranges e.ranges) → Is (sound (length e.ranges) 0 e.body) →
    Is (fits declared e.body e.ranges) → Small (equation_frame e)
unfolding equation_frame
equation_small declared known e few ranged s t =
    let k = length e.ranges in
    let body = formula_small declared known e.body k 0 e.ranges (omega arith) (omega arith) s t in
    byte 0x01 (omega arith) (byte _ (either_small e.greatest 1 0 (omega arith) (omega arith))
    (byte k (omega arith) (small_both (ranges_small e.ranges ranged) body)))

-- ---- what is known of a well-formed equation with a short frame
pub record EquationRead (declared : List (List ℕ)) (e : ModelEquation) : Type 0 where
  pub passed : EquationSound (equation_frame e)
  pub same : equation_of (equation_frame e) ≡ e
  pub fit : is_fitting declared (body_in (equation_frame e)) (ranges_in (equation_frame e)) ≡ true
  pub writable : Writable (equation_frame e)

pub equation_read : (declared : List (List ℕ)) (e : ModelEquation) → length declared ≤ 8 →
    Is (well_formed_equation declared e) → length (equation_frame e) ≤ 256 → EquationRead declared e
unfolding well_formed_equation is_fitting
equation_read declared e known h short =
    let few = leb-true (length e.ranges) 4 (Is→eq (and_l _ _ (and_l _ _ (and_l _ _ h)))) in
    let ranged = and_r _ _ (and_l _ _ (and_l _ _ h)) in
    let sounds = and_r _ _ (and_l _ _ h) in
    let same = equation_back e few sounds short in
    record {
      passed = equation_passes e few sounds short ranged;
      same = same;
      fit = ap (λ (x : ModelEquation). fits declared x.body x.ranges) same ∙ Is→eq (and_r _ _ h);
      writable = record {
        some = omega (arith, frame_length e);
        most = short;
        small = small_at (equation_small declared known e few ranged sounds (and_r _ _ h));
      };
    }

-- ---- all of them
abbrev AllRead : List (List ℕ) → Model → Type 0
AllRead declared [] = Unit {0}
AllRead declared (e ∷ es) = EquationRead declared e × AllRead declared es

all_equations_read : (declared : List (List ℕ)) (es : Model) (start : Instance) → length declared ≤ 8 →
    Is (well_formed_equations declared es) → AllShort (model_frames es start) → AllRead declared es
unfolding well_formed_equations model_frames
all_equations_read declared [] start l h short = tt
all_equations_read declared (e ∷ es) start l h short = (
  equation_read declared e l (and_l _ _ h) (short 0 (omega arith)),
  all_equations_read declared es start l (and_r _ _ h) (λ i m. short (suc i) (omega arith)),
)

all_writable : (declared : List (List ℕ)) (es : Model) (start : Instance) → AllRead declared es →
    Writable (start_frame start) → AllWritable (model_frames es start)
unfolding model_frames
all_writable declared [] start r w zero l = w
all_writable declared [] start r w (suc i) l = absurd (omega arith)
all_writable declared (e ∷ es) start r w zero l = r.0.writable
all_writable declared (e ∷ es) start r w (suc i) l = all_writable declared es start r.1 w i (omega arith)

pub frames_count : (es : Model) (start : Instance) → length (model_frames es start) ≡ length es + 1
unfolding model_frames
frames_count [] start = refl
frames_count (e ∷ es) start = omega (arith, frames_count es start)

-- a line of at most 513 characters for each equation, then that of the start
text_short : (es : Model) (start : Instance) → AllShort (model_frames es start) →
    text_size (model_frames es start) ≤ 513 * length es + (2 * length (start_frame start) + 1)
unfolding text_size model_frames
text_short [] start short = omega arith
text_short (e ∷ es) start short =
    omega (arith, short 0 (omega arith), text_short es start (λ i l. short (suc i) (omega arith)))

-- ---- which of the frames are equations, and which is the start
equations_listed : (i : ℕ) (es : Model) (start : Instance) →
    equations_in (numbered i (model_frames es start)) ≡ numbered i (map equation_frame es)
unfolding frames_with numbered model_frames equation_frame start_frame
equations_listed i [] start = refl
equations_listed i (e ∷ es) start =
    ap (λ (l : List Frame). frame_of i (equation_frame e) ∷ l) (equations_listed (i + 1) es start)

starts_listed : (i : ℕ) (es : Model) (start : Instance) →
    starts_in (numbered i (model_frames es start)) ≡ frame_of (i + length es) (start_frame start) ∷ []
unfolding frames_with numbered model_frames equation_frame start_frame
starts_listed i [] start = let n : i + 0 ≡ i = omega arith in rw n refl
starts_listed i (e ∷ es) start =
    let n : i + 1 + length es ≡ i + suc (length es) = omega arith in
    starts_listed (i + 1) es start ∙ rw n refl

equations_back : (i : ℕ) (declared : List (List ℕ)) (es : Model) → AllRead declared es →
    map (λ f. equation_of f.bytes) (numbered i (map equation_frame es)) ≡ es
unfolding numbered
equations_back i declared [] r = refl
equations_back i declared (e ∷ es) r = ap₂ ◌∷◌ r.0.same (equations_back (i + 1) declared es r.1)

-- ---- no frame is refused
module _ (n : ℕ) (f : List ℕ) where
  equation_stays : get_or f 0 0 ≡ 0x01 → n < 8 → EquationSound f → frame_refusal n true f ≡ 0
  unfolding frame_refusal equation_refusal
  equation_stays c l s = rw (c, lt-ltb n 8 l, s.head, s.body) refl

  start_stays : get_or f 0 0 ≡ 0x02 → 0 < n → 2 ≤ length f → frame_refusal n true f ≡ 0
  unfolding frame_refusal start_refusal
  start_stays c l s = rw (c, lt-ltb 0 n l, le-leb 2 (length f) s) refl

-- an equation comes behind the others
abbrev Counted : List Frame → Frame → Type 0
Counted done f =
    (length (equations_in (done ++ (f ∷ []))) ≡ length (equations_in done) + 1)
    × (starts_in (done ++ (f ∷ [])) ≡ starts_in done)

counted : (done : List Frame) (f : Frame) → get_or f.bytes 0 0 ≡ 0x01 → drafts.Goes done f → Counted done f
counted done f c (drafts.equation o l e es ss) =
    (ap length es ∙ length-append (equations_in done) (f ∷ []), ss)
counted done f c (drafts.start o t l es ss) = absurd (true≢false (rw c at o))
counted done f c (drafts.note o t es ss) = absurd (true≢false (rw c at o))

frames_pass : (declared : List (List ℕ)) (start : Instance) → 2 ≤ length (start_frame start) → (es : Model) →
    AllRead declared es → (done : List Frame) (i line : ℕ) → is_none (starts_in done) ≡ true →
    length (equations_in done) + length es ≤ 8 → 0 < length (equations_in done) + length es →
    frames_judged done (numbered i (model_frames es start)) (refused 0 line)
    ≡ finished (done ++ numbered i (model_frames es start)) line
unfolding frames_judged numbered model_frames
frames_pass declared start two [] r done i line u l m =
    let f = start_frame start in
    let stays = start_stays (length (equations_in done)) f (start_byte start) (omega arith) two in
    rw (u, stays) refl
frames_pass declared start two (e ∷ es) r done i line u l m =
    let f = frame_of i (equation_frame e) in
    let n = length (equations_in done) in
    let stays = equation_stays n (equation_frame e) (first_byte e) (omega arith) r.0.passed in
    let unrefused : refusal_after done (equation_frame e) ≡ 0 = rw u stays in
    let more = counted done f (first_byte e) (goes done f unrefused) in
    let rest = numbered (i + 1) (model_frames es start) in
    let others = frames_pass declared start two es r.1 (done ++ (f ∷ [])) (i + 1) line (rw more.1 u)
    (omega (arith, more.0)) (omega (arith, more.0)) in
    rw (u, stays) (others ∙ ap (λ (l : List Frame). finished l line) (append_assoc done (f ∷ []) rest))

-- ---- and 7 and 8 refuse nothing
instances_pass : (i : ℕ) (declared : List (List ℕ)) (es : Model) (others : Refusal) → AllRead declared es →
    instances_judged declared (numbered i (map equation_frame es)) others ≡ others
unfolding instances_judged numbered
instances_pass i declared [] others r = refl
instances_pass i declared (e ∷ es) others r =
    rw r.0.fit (instances_pass (i + 1) declared es others r.1)

start_read : (model : Model) (start : Instance) → Is (well_formed model start) → (s : Instance) →
    Is (typed (signatures model) s) → StartRead model s
unfolding typed start_frame
start_read model start w [] t = never t
start_read model start w (e ∷ x) t =
    let named = typed_equation (signatures model) e x t in
    let ranges = ranges_small (ranges_at model e) (ranges_sound model start w e named) in
    let count = well_formed_count model start w in
    let known = signatures_length model in
    let arguments = within_length x (ranges_at model e) (and_r _ _ t) in
    record {
      some_equation = omega arith;
      long = omega arith;
      short = omega (arith, arguments, ranges_count model start w e named);
      small = small_at (byte 0x02 (omega arith) (byte e (omega arith) (within_small x (and_r _ _ t) ranges)));
    }

-- so it is the equations that must have short frames
frames_short : (es : Model) (start : Instance) → length (start_frame start) ≤ 256 →
    AllShort (map equation_frame es) → AllShort (model_frames es start)
unfolding model_frames
frames_short [] start h short zero l = h
frames_short [] start h short (suc i) l = absurd (omega arith)
frames_short (e ∷ es) start h short zero l = short 0 (omega arith)
frames_short (e ∷ es) start h short (suc i) l =
    frames_short es start h (λ j m. short (suc j) (omega arith)) i (omega arith)

pub model_frames_short : (model : Model) (start : Instance) → Is (well_formed model start) →
    AllShort (map equation_frame model) → AllShort (model_frames model start)
model_frames_short model start w short =
    let known = start_read model start w start (well_formed_start model start w) in
    frames_short model start (omega (arith, known.short)) short

-- two characters a byte and the end of the line, for each frame
pub model_text_length : (model : Model) (start : Instance) →
    length (model_text model start) ≡ text_size (model_frames model start)
model_text_length model start = text_length (model_frames model start)

module _ (model : Model) (start : Instance) (w : Is (well_formed model start))
    (short : AllShort (model_frames model start)) where
  abbrev declared : List (List ℕ)
  declared = signatures model

  known : StartRead model start
  known = start_read model start w start (well_formed_start model start w)

  equations_read : AllRead declared model
  equations_read =
      let count = well_formed_count model start w in
      let few : length declared ≤ 8 = omega (arith, signatures_length model) in
      all_equations_read declared model start few (well_formed_all model start w) short

  start_writable : Writable (start_frame start)
  start_writable = record {
    some = omega (arith, known.long);
    most = omega (arith, known.short);
    small = known.small;
  }

  -- at most eight lines of 513 characters, then one of 13
  pub model_text_short : length (model_text model start) ≤ 4117
  model_text_short =
      let most = text_short model start short in
      let count = well_formed_count model start w in
      omega (arith, most, count, known.short, model_text_length model start)

  -- its frames are those of the model, in lines from 1 on
  pub model_text_frames : frames (model_text model start) ≡ all_read (model_frames model start)
  model_text_frames =
      let writable = all_writable declared model start equations_read start_writable in
      written_read (model_frames model start) writable (omega (arith, model_text_short))

  abbrev read : List Frame
  read = numbered 1 (model_frames model start)

  read_model : model_of read ≡ model
  unfolding model_of
  read_model = rw (equations_listed 1 model start) (equations_back 1 declared model equations_read)

  read_start : start_in read ≡ start
  unfolding start_frame
  read_start = rw (starts_listed 1 model start) refl

  nothing_refused : (line : ℕ) → finished read line ≡ refused 0 0
  unfolding finished start_judged start_frame
  nothing_refused line = rw (
    read_model,
    equations_listed 1 model start,
    starts_listed 1 model start,
    instances_pass 1 declared model _ equations_read,
    Is→eq (well_formed_start model start w),
  ) refl

  -- THEOREM: the text is not refused
  pub model_text_read : text_refusal (model_text model start) ≡ refused 0 0
  unfolding text_refusal frames_with
  model_text_read =
      let count = well_formed_count model start w in
      let line = length (model_frames model start) + 1 in
      let passed = frames_pass declared start known.long model equations_read [] 1 line refl (omega arith)
      (omega (arith, known.some_equation)) in
      rw model_text_frames (passed ∙ nothing_refused line)

  -- THEOREM: and its model and its start are these
  pub model_text_model : model_of (frames (model_text model start)).all ≡ model
  model_text_model = rw model_text_frames read_model

  pub model_text_start : start_in (frames (model_text model start)).all ≡ start
  model_text_start = rw model_text_frames read_start
