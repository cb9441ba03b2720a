-- THEOREMS: the lines of a text that is not refused, the text of such lines, and their frames, one for each.
-- Line by line; a digit is no 0a, so a line ends where its end was put and nowhere before.
use Rattle.std.specs.Prelude.{ℕ, zero, suc, ◌+◌, ◌≤◌, ◌%◌, ◌≡◌, refl, Bool, true, false, cond, ◌&&◌, List, [], ◌∷◌, ◌++◌, eqb}
use Rattle.std.specs.Prelude.{leb, length, take}
use Rattle.std.proofs.Common.{arith, sym, ap, ◌∙◌, true≢false, append_assoc, append-nil, length-append, eqb-true, eq-eqb, le-leb}
use Rattle.std.proofs.Common.{leb-true}
use Rattle.std.proofs.Math.Bool.{and-eq-true_iff}
use Rattle.std.proofs.lemmas.Bool.{eqb-false}
use Rattle.meaning.specs.Logic.{cases}
use Rattle.digits.specs.Digits.{is_digit}
use Rattle.frames.specs.Lines.{Line, before, lines_of, joined, all_digits, line_refusal, place_of}
use Rattle.frames.specs.Frames.{frames_from, frames}
use Rattle.frames.specs.Whole.{Each, Right, Whole, and, behind, framed, none}

-- ---- some lines, and others behind them
pub each_parted : {P : Line → Type 0} (ls : List Line) {bs : List Line} → Each P (ls ++ bs)
    → Each P ls × Each P bs
each_parted [] e = (none, e)
each_parted (a ∷ ls) (and p e) = let parts = each_parted ls e in (and p parts.0, parts.1)

pub each_joined : {P : Line → Type 0} {ls bs : List Line} → Each P ls → Each P bs → Each P (ls ++ bs)
each_joined none e = e
each_joined (and p d) e = and p (each_joined d e)

pub rights_whole : {ls : List Line} → Each Right ls → Each Whole ls
rights_whole none = none
rights_whole (and r rs) = and (record { digits = r.digits; ended = r.ended }) (rights_whole rs)

pub framed_append : (i : ℕ) (ls bs : List Line)
    → framed i (ls ++ bs) ≡ framed i ls ++ framed (i + length ls) bs
unfolding framed
framed_append i [] bs = let n : i + 0 ≡ i = omega arith in rw n refl
framed_append i (a ∷ ls) bs =
    let n : (i + 1) + length ls ≡ i + suc (length ls) = omega arith in
    rw (framed_append (i + 1) ls bs, n) refl

-- ---- digits, and others behind them
pub digits_append : (s r : List ℕ) → all_digits s ≡ true → all_digits r ≡ true → all_digits (s ++ r) ≡ true
unfolding all_digits
digits_append [] r d e = e
digits_append (c ∷ s) r d e =
    let p = (and-eq-true_iff (is_digit c) (all_digits s)).0 d in
    (and-eq-true_iff (is_digit c) (all_digits (s ++ r))).1 (p.0, digits_append s r p.1 e)

pub digits_take : (n : ℕ) (s : List ℕ) → all_digits s ≡ true → all_digits (take n s) ≡ true
unfolding all_digits
digits_take zero s d = refl
digits_take (suc n) [] d = refl
digits_take (suc n) (c ∷ s) d =
    let p = (and-eq-true_iff (is_digit c) (all_digits s)).0 d in
    (and-eq-true_iff (is_digit c) (all_digits (take n s))).1 (p.0, digits_take n s p.1)

-- ---- a text and its lines tell each other
joined_before : (c : ℕ) (ls : List Line) → joined (before c ls) ≡ c ∷ joined ls
unfolding joined
joined_before c [] = refl
joined_before c (l ∷ ls) = refl

joined_in_front : (c : ℕ) (ls : List Line) (b : Bool) → eqb c 0x0a ≡ b
    → joined (cond b (record { characters = []; ended = true } ∷ ls) (before c ls)) ≡ c ∷ joined ls
unfolding joined
joined_in_front c ls true e = ap (λ (x : ℕ). x ∷ joined ls) (sym (eqb-true c 0x0a e))
joined_in_front c ls false e = joined_before c ls

-- the lines of a text, put together again, are the text
pub joined_lines : (t : List ℕ) → joined (lines_of t) ≡ t
unfolding lines_of joined
joined_lines [] = refl
joined_lines (c ∷ t) =
    joined_in_front c (lines_of t) (eqb c 0x0a) refl ∙ ap (λ (s : List ℕ). c ∷ s) (joined_lines t)

no_end : (c : ℕ) → is_digit c ≡ true → eqb c 0x0a ≡ false
no_end c d = cases (eqb c 0x0a)
    (λ e. absurd (true≢false (sym d ∙ ap is_digit (eqb-true c 0x0a e)))) (λ e. e)

one_line : (s rest : List ℕ) → all_digits s ≡ true
    → lines_of (s ++ (0x0a ∷ rest)) ≡ record { characters = s; ended = true } ∷ lines_of rest
unfolding lines_of all_digits
one_line [] rest d = refl
one_line (c ∷ s) rest d =
    let p = (and-eq-true_iff (is_digit c) (all_digits s)).0 d in
    rw (no_end c p.0, one_line s rest p.1) refl

whole_joined : {l : Line} → Whole l → (ls : List Line) → joined (l ∷ ls) ≡ l.characters ++ (0x0a ∷ joined ls)
unfolding joined
whole_joined w ls = rw w.ended refl

-- and the text of whole lines has these lines
pub lines_joined : {ls : List Line} → Each Whole ls → lines_of (joined ls) ≡ ls
unfolding lines_of joined
lines_joined none = refl
lines_joined (and {l} {ls} w ws) =
    ap lines_of (whole_joined w ls) ∙ one_line l.characters (joined ls) w.digits ∙
    rw (lines_joined ws, ← w.ended) refl

pub joined_append : {ls : List Line} → Each Whole ls → (bs : List Line)
    → joined (ls ++ bs) ≡ joined ls ++ joined bs
unfolding joined
joined_append none bs = refl
joined_append (and {l} {ls} w ws) bs =
    whole_joined w (ls ++ bs) ∙ rw (whole_joined w ls, joined_append ws bs)
    (sym (append_assoc l.characters (0x0a ∷ joined ls) (joined bs)))

-- the line behind some begins where their text ends
pub place_behind : {ls : List Line} → Each Whole ls → (bs : List Line)
    → place_of (length ls) (ls ++ bs) ≡ length (joined ls)
unfolding place_of joined
place_behind none bs = refl
place_behind (and {l} {ls} w ws) bs =
    omega (
      arith,
      place_behind ws bs,
      ap length (whole_joined w ls),
      length-append l.characters (0x0a ∷ joined ls),
    )

-- ---- the frames of right lines
all_passed : (a b c d e : Bool) → ◌≡◌ {A = ℕ} (cond a (cond ((b && c) && (d && e)) 0 3) 2) 0
    → (a ≡ true) × (b ≡ true) × (c ≡ true) × (d ≡ true) × (e ≡ true)
all_passed true true true true true z = (refl, refl, refl, refl, refl)
all_passed true true true true false z = absurd (omega arith)
all_passed true true true false e z = absurd (omega arith)
all_passed true true false d e z = absurd (omega arith)
all_passed true false c d e z = absurd (omega arith)
all_passed false b c d e z = absurd (omega arith)

right : (l : Line) → line_refusal l ≡ 0 → Right l
unfolding line_refusal
right l z =
    let p = all_passed _ _ _ _ _ z in
    record {
      digits = p.0;
      ended = p.1;
      some = leb-true _ _ p.2;
      most = leb-true _ _ p.3;
      even = eqb-true _ _ p.4;
    }

right_passes : {l : Line} → Right l → line_refusal l ≡ 0
unfolding line_refusal
right_passes {l} r =
    let n = length l.characters in
    rw (r.digits, r.ended, le-leb 1 n r.some, le-leb n 512 r.most, eq-eqb (n % 2) 0 r.even) refl

-- right lines give a frame each, and then comes what the lines behind them give
pub frames_behind : {ls : List Line} (i : ℕ) → Each Right ls → (bs : List Line)
    → frames_from i (ls ++ bs) ≡ behind (framed i ls) (frames_from (i + length ls) bs)
unfolding framed frames_from
frames_behind i none bs = let n : i + 0 ≡ i = omega arith in rw n refl
frames_behind i (and {l} {ls} r rs) bs =
    let n : (i + 1) + length ls ≡ i + suc (length ls) = omega arith in
    rw (right_passes r, frames_behind (i + 1) rs bs, n) refl

lines_right : (i : ℕ) (ls : List Line) → (frames_from i ls).number ≡ 0 → Each Right ls
unfolding frames_from
lines_right i [] z = none
lines_right i (l ∷ ls) z = cases (eqb (line_refusal l) 0)
    (λ e. and (right l (eqb-true _ _ e)) (lines_right (i + 1) ls (rw e at z)))
    (λ e. absurd (eqb-false _ _ e (rw e at z)))

-- ---- a text that is not refused is short, and its lines are right
pub record RightText (t : List ℕ) : Type 0 where
  pub short : length t ≤ 32768
  pub right : Each Right (lines_of t)

pub text_right : (t : List ℕ) → (frames t).number ≡ 0 → RightText t
unfolding frames
text_right t z = cases (leb (length t) 32768)
    (λ e. record { short = leb-true _ _ e; right = lines_right 1 (lines_of t) (rw e at z) })
    (λ e. absurd (omega (arith, rw e at z)))

-- such a text has a frame for each line
pub right_framed : {t : List ℕ} → RightText t
    → frames t ≡ record { all = framed 1 (lines_of t); number = 0; line = 1 + length (lines_of t) }
unfolding frames frames_from
right_framed {t} r =
    let all = frames_behind 1 r.right [] in
    rw (le-leb (length t) 32768 r.short)
    (ap (frames_from 1) (sym (append-nil (lines_of t))) ∙ all ∙ rw (append-nil (framed 1 (lines_of t))) refl)

pub text_framed : (t : List ℕ) (z : (frames t).number ≡ 0)
    → frames t ≡ record { all = framed 1 (lines_of t); number = 0; line = 1 + length (lines_of t) }
text_framed t z = right_framed (text_right t z)
