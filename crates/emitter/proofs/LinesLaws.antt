-- The lines of the equations, put one after another from the first place of the text on.
-- After e of them: they fit, and what is written are the lines of the first e equations.
use Prim.Native.Nat.{ℕ, zero, suc, ◌+◌, ◌*◌, ◌≤◌, ◌<◌}
use native.Mathlib.Omega.{arith}
use mathlib.Core.Path.{◌≡◌, refl, sym, ap, ◌∙◌}
use mathlib.Core.Bool.{Bool, true, false, ◌&&◌, and-false, and-eq-true_iff}
use mathlib.Core.List.{List, [], ◌∷◌, ◌++◌, map, append-nil, append_assoc}
use lib.Dec.{leb}
use lib.ListN.{length, get_or, take, length-append, replicate, length-replicate}
use lib.Seq.{sets, length-sets, take-suc}
use borrow.Author.Tests.{le-leb, leb-true}
use Rattle.meaning.specs.Models.{ModelEquation, Model}
use Rattle.meaning.specs.Reach.{Instance}
use Rattle.frames.specs.Frames.{line_of, text_of}
use Rattle.frames.specs.PutLine.{place_after, line_put, LinePut}
use Rattle.frames.proofs.Written.{line_length}
use Rattle.spelling.specs.Spelled.{equation_frame, start_frame, model_frames}
use Rattle.translation.specs.Translation.{four_quantifiers}
use Rattle.emitter.proofs.EquationLaws.{sets_parts}
use Rattle.emitter.specs.Limits.{equation_fits, each_fits}
use Rattle.emitter.specs.Built.{lines_for, no_equation}

abbrev zeros : List ℕ
zeros = replicate 4117 0

-- ---- a line that has room is written
module _ {out left bytes : List ℕ} {at r : ℕ} where
  pub line_written : LinePut out at bytes r left → at + length (line_of bytes) ≤ length out
      → (r ≡ at + length (line_of bytes)) × (left ≡ sets out at (line_of bytes))
  unfolding place_after line_put
  line_written p room =
      let f = le-leb (at + length (line_of bytes)) (length out) room in
      (p.place ∙ rw f refl, p.written ∙ rw f refl)

-- ---- lines of lists of equations
text_append : (fs gs : List (List ℕ)) → text_of (fs ++ gs) ≡ text_of fs ++ text_of gs
unfolding text_of
text_append [] gs = refl
text_append (f ∷ fs) gs =
    ap (λ (l : List ℕ). line_of f ++ l) (text_append fs gs) ∙ sym (append_assoc (line_of f) (text_of fs) (text_of gs))

map-append : (es : Model) (e : ModelEquation) → map equation_frame (es ++ (e ∷ [])) ≡
    map equation_frame es ++ (equation_frame e ∷ [])
map-append [] e = refl
map-append (x ∷ es) e = ap (λ (l : List (List ℕ)). equation_frame x ∷ l) (map-append es e)

pub lines_more : (es : Model) (e : ModelEquation)
    → lines_for (es ++ (e ∷ [])) ≡ lines_for es ++ line_of (equation_frame e)
unfolding text_of
lines_more es e =
    ap text_of (map-append es e) ∙ text_append (map equation_frame es) (equation_frame e ∷ []) ∙
    ap (λ (l : List ℕ). lines_for es ++ l) (append-nil (line_of (equation_frame e)))

fits_more : (es : Model) (e : ModelEquation) → each_fits es ≡ true → equation_fits e ≡ true
    → each_fits (es ++ (e ∷ [])) ≡ true
unfolding each_fits
fits_more [] e h k = rw k refl
fits_more (x ∷ es) e h k =
    let p = (and-eq-true_iff (equation_fits x) (each_fits es)).0 h in
    rw p.0 (fits_more es e p.1 k)

-- the frame of one that fits
pub frame_small : (e : ModelEquation) → equation_fits e ≡ true → length (equation_frame e) ≤ 256
frame_small e h =
    let n = length (equation_frame e) in
    leb-true n 256 ((and-eq-true_iff (leb n 256) (four_quantifiers 0 e.body)).0 h).0

-- an equation that does not fit is one of those that do not all fit
pub one_misfit : (es : Model) (i : ℕ) → i < length es → equation_fits (get_or es i no_equation) ≡ false
    → each_fits es ≡ false
unfolding each_fits
one_misfit [] i l h = absurd (omega arith)
one_misfit (x ∷ es) zero l h = rw h refl
one_misfit (x ∷ es) (suc i) l h =
    ap (λ (b : Bool). equation_fits x && b) (one_misfit es i (omega arith) h) ∙ and-false (equation_fits x)

-- ---- after e turns
pub record Lines (model : Model) (e at : ℕ) (text : List ℕ) : Type 0 where
  pub fit : each_fits (take e model) ≡ true
  pub place : at ≡ length (lines_for (take e model))
  pub written : text ≡ sets zeros 0 (lines_for (take e model))
  pub short : at ≤ 513 * e

pub lines_none : (model : Model) → Lines model 0 0 zeros
unfolding each_fits text_of
lines_none model = record { fit = refl; place = refl; written = refl; short = omega arith }

module _ {model : Model} {e at r : ℕ} {text left bytes : List ℕ} where
  pub lines_turn : Lines model e at text → e < length model → e < 8
      → equation_fits (get_or model e no_equation) ≡ true → bytes ≡ equation_frame (get_or model e no_equation)
      → LinePut text at bytes r left → Lines model (suc e) r left
  lines_turn l inside few fits same put =
      let equation = get_or model e no_equation in
      let one = take-suc model e no_equation inside in
      let small = frame_small equation fits in
      let long = line_length bytes in
      let size : length bytes ≤ 256 = rw same small in
      let room : at + length (line_of bytes) ≤ length text =
      omega (
        arith,
        l.short,
        long,
        size,
        ap length l.written,
        length-sets zeros 0 (lines_for (take e model)),
        length-replicate {A = ℕ} 4117 0,
      ) in
      let w = line_written put room in
      let lines : lines_for (take (suc e) model) ≡ lines_for (take e model) ++ line_of bytes =
      ap lines_for one ∙ lines_more (take e model) equation ∙
      ap (λ (b : List ℕ). lines_for (take e model) ++ line_of b) (sym same) in
      record {
        fit = rw one (fits_more (take e model) equation l.fit fits);
        place = w.0 ∙ omega (arith, l.place, ap length lines, length-append (lines_for (take e model)) (line_of bytes));
        written = w.1 ∙ ap (λ (t : List ℕ). sets t at (line_of bytes)) l.written ∙
            ap (λ (n : ℕ). sets (sets zeros 0 (lines_for (take e model))) n (line_of bytes)) l.place ∙
            sym (sets_parts zeros (lines_for (take e model)) (line_of bytes)) ∙ ap (sets zeros 0) (sym lines);
        short = omega (arith, w.0, l.short, long, size);
      }

-- ---- the text of a model: the lines of its equations, then that of its start
pub frames_of : (model : Model) (start : Instance)
    → text_of (model_frames model start) ≡ lines_for model ++ line_of (start_frame start)
unfolding model_frames text_of
frames_of [] start = append-nil (line_of (start_frame start))
frames_of (e ∷ es) start =
    ap (λ (l : List ℕ). line_of (equation_frame e) ++ l) (frames_of es start) ∙
    sym (append_assoc (line_of (equation_frame e)) (lines_for es) (line_of (start_frame start)))
