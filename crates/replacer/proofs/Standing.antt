-- Where an equation stands in a text that is read: the lines before its own, its own, and those behind it.
-- The lines are gone through until so many equations are passed; what stands there is the equation's frame.
use Rattle.std.specs.Prelude.{ℕ, zero, suc, ◌+◌, ◌<◌, ◌≡◌, refl, Bool, true, false, cond, List, [], ◌∷◌, ◌++◌, eqb, length}
use Rattle.std.specs.Prelude.{get_or}
use Rattle.std.proofs.Common.{arith, sym, ap, subst, ◌∙◌, eqb-true}
use Rattle.std.proofs.lemmas.List.{get_or_at}
use Rattle.meaning.specs.Logic.{cases}
use Rattle.digits.specs.Digits.{bytes_of}
use Rattle.frames.specs.Lines.{Line, lines_of}
use Rattle.frames.specs.Frames.{Frame, Frames, frames}
use Rattle.frames.specs.Whole.{Each, and, Right, framed}
use Rattle.frames.proofs.Whole.{each_parted, framed_append, text_right, text_framed}
use Rattle.reading.specs.Equations.{is_valid_head}
use Rattle.reading.specs.Models.{frames_with, equations_in}
use Rattle.reading.specs.Reading.{refused, text_refusal}
use Rattle.reading.proofs.Drafts.{no_frame, frame_of}
use Rattle.reading.proofs.WellFormed.{text_passed}
use Rattle.replacer.proofs.Judging.{end_passed, equations_split}
use Rattle.replacer.specs.Standing.{Standing}

-- ---- equation e among lines that count from i
record Parted (i e : ℕ) (ls : List Line) : Type 0 where
  before : List Line
  line : Line
  after : List Line
  is : ls ≡ before ++ (line ∷ after)
  number : length (equations_in (framed i before)) ≡ e
  code : get_or (bytes_of line.characters) 0 0 ≡ 1

abbrev is_equation : Line → Bool
is_equation l = eqb (get_or (bytes_of l.characters) 0 0) 1

found_here : (i : ℕ) (l : Line) (ls : List Line) → is_equation l ≡ true → Parted i 0 (l ∷ ls)
unfolding framed frames_with
found_here i l ls e =
    record { before = []; line = l; after = ls; is = refl; number = refl; code = eqb-true _ 1 e }

-- one line more in front, an equation's or another's
counted : (b : Bool) (f : Frame) (fs : List Frame) (n : ℕ) → length fs ≡ n
    → length (cond b (f ∷ fs) fs) ≡ cond b (suc n) n
counted true f fs n q = ap suc q
counted false f fs n q = q

one_more : {i e : ℕ} (l : Line) {ls : List Line} (b : Bool) → is_equation l ≡ b → Parted (i + 1) e ls
    → Parted i (cond b (suc e) e) (l ∷ ls)
unfolding framed frames_with
one_more {i} {e} l b h p =
    let f = frame_of i (bytes_of l.characters) in
    let fs = equations_in (framed (i + 1) p.before) in
    record {
      before = l ∷ p.before;
      line = p.line;
      after = p.after;
      is = ap (λ (ls : List Line). l ∷ ls) p.is;
      number = rw h (counted b f fs e p.number);
      code = p.code;
    }

parted : (i e : ℕ) (ls : List Line) → e < length (equations_in (framed i ls)) → Parted i e ls
unfolding framed frames_with
parted i e [] h = absurd (omega arith)
parted i zero (l ∷ ls) h = cases (is_equation l) (found_here i l ls)
    (λ b. one_more l false b (parted (i + 1) zero ls (rw b at h)))
parted i (suc e) (l ∷ ls) h = cases (is_equation l)
    (λ b. one_more l true b (parted (i + 1) e ls (omega (arith, rw b at h))))
    (λ b. one_more l false b (parted (i + 1) (suc e) ls (rw b at h)))

pub frames_read : (t : List ℕ) → (text_refusal t).number ≡ 0 → (frames t).number ≡ 0
unfolding text_refusal
frames_read t z = end_passed [] (frames t).all (refused (frames t).number (frames t).line) z

all_framed : (t : List ℕ) → (text_refusal t).number ≡ 0 → (frames t).all ≡ framed 1 (lines_of t)
all_framed t z = ap (λ (r : Frames). r.all) (text_framed t (frames_read t z))

-- the frame of the line that is parted off
frame_parted : {e : ℕ} {ls : List Line} (p : Parted 1 e ls)
    → get_or (equations_in (framed 1 ls)) e no_frame
    ≡ frame_of (1 + length p.before) (bytes_of p.line.characters)
unfolding framed
frame_parted {e} {ls} p =
    let i = 1 + length p.before in
    let f = bytes_of p.line.characters in
    let all = ap (framed 1) p.is ∙ framed_append 1 p.before (p.line ∷ p.after) in
    let split = equations_split (framed 1 p.before) i f (framed (i + 1) p.after) p.code in
    ap (λ (fs : List Frame). get_or (equations_in fs) e no_frame) all ∙
    ap (λ (fs : List Frame). get_or fs e no_frame) split ∙
    get_or_at (equations_in (framed 1 p.before)) _ _ no_frame e p.number

pub standing : (t : List ℕ) (e : ℕ) → (text_refusal t).number ≡ 0 → e < length (equations_in (frames t).all)
    → Standing t e
standing t e z h =
    let all = all_framed t z in
    let p = parted 1 e (lines_of t) (rw all at h) in
    let right = text_right t (frames_read t z) in
    let rights = each_parted p.before (subst (Each Right) p.is right.right) in
    let sound = (text_passed t z).frames_kept.sound.each e h in
    let same = ap (λ (fs : List Frame). get_or (equations_in fs) e no_frame) all ∙ frame_parted p in
    record {
      before = p.before;
      line = p.line;
      after = p.after;
      is = p.is;
      number = p.number;
      code = p.code;
      valid = sym (ap (λ (g : Frame). is_valid_head g.bytes) same) ∙ sound.head;
      rights_before = rights.0;
      right = first rights.1;
      rights_after = others rights.1;
      short = right.short;
      frame_is = same;
      frames_are = all ∙ ap (framed 1) p.is;
      end_is = ap (λ (r : Frames). r.line) (text_framed t (frames_read t z)) ∙
          ap (λ (ls : List Line). 1 + length ls) p.is;
    }
  where
    first : {l : Line} {ls : List Line} → Each Right (l ∷ ls) → Right l
    first (and r rs) = r

    others : {l : Line} {ls : List Line} → Each Right (l ∷ ls) → Each Right ls
    others (and r rs) = rs
