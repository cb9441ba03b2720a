-- THEOREMS: the case of its letters changes nothing that is read of a text, frames, refusals and places; and
-- what is written anew is in small letters.
-- Both cases of a digit are worth the same and neither ends a line: characters first, then lines.
use Rattle.std.specs.Prelude.{ℕ, zero, suc, ◌+◌, ◌-◌, ◌≤◌, ◌≡◌, refl, Bool, true, false, cond, ◌&&◌, List, [], ◌∷◌, ◌++◌, map}
use Rattle.std.specs.Prelude.{eqb, leb}
use Rattle.std.proofs.Common.{arith, sym, ap, ◌∙◌, ne_eqb, leb-true}
use Rattle.std.proofs.Math.Bool.{and-eq-true_iff}
use Rattle.std.proofs.lemmas.List.{map-append, length-map}
use Rattle.meaning.specs.Logic.{cases}
use Rattle.digits.specs.Digits.{small_letter, in_small_letters, characters}
use Rattle.digits.proofs.Letters.{small_letter_worth, bytes_in_small, characters_small, append_small}
use Rattle.frames.specs.Lines.{Line, before, in_front, lines_of, joined, all_digits, line_refusal}
use Rattle.frames.specs.Lines.{place_of, line_place}
use Rattle.frames.specs.Frames.{frames_from, frames, line_of, text_of}
use Rattle.frames.specs.Letters.{line_in_small}

-- ---- lines
same_end : (c : ℕ) → eqb (small_letter c) 0x0a ≡ eqb c 0x0a
same_end c = cases (leb 65 c && leb c 70)
    (λ e.
    let capital : 65 ≤ c = leb-true 65 c ((and-eq-true_iff (leb 65 c) (leb c 70)).0 e).0 in
    rw e (ne_eqb (c + 32) 0x0a (λ n. omega arith) ∙ sym (ne_eqb c 0x0a (λ n. omega arith))))
    (λ e. rw e refl)

abbrev empty : Line
empty = record { characters = []; ended = true }

in_front_small : (c : ℕ) (ls : List Line)
    → in_front (small_letter c) (map line_in_small ls) ≡ map line_in_small (in_front c ls)
in_front_small c ls = rw (same_end c) (each (eqb c 0x0a) ls)
  where
    each : (b : Bool) (ls : List Line)
        → cond b (empty ∷ map line_in_small ls) (before (small_letter c) (map line_in_small ls))
        ≡ map line_in_small (cond b (empty ∷ ls) (before c ls))
    each true ls = refl
    each false [] = refl
    each false (l ∷ ls) = refl

pub lines_in_small : (t : List ℕ) → lines_of (in_small_letters t) ≡ map line_in_small (lines_of t)
unfolding lines_of
lines_in_small [] = refl
lines_in_small (c ∷ t) = ap (in_front (small_letter c)) (lines_in_small t) ∙ in_front_small c (lines_of t)

pub joined_in_small : (ls : List Line) → joined (map line_in_small ls) ≡ in_small_letters (joined ls)
unfolding joined
joined_in_small [] = refl
joined_in_small (l ∷ ls) =
    let behind = cond l.ended (0x0a ∷ joined ls) (joined ls) in
    rw (joined_in_small ls, map-append small_letter l.characters behind) (
    ap (λ (s : List ℕ). in_small_letters l.characters ++ s) (each l.ended)
    )
  where
    each : (b : Bool) → cond b (0x0a ∷ in_small_letters (joined ls)) (in_small_letters (joined ls))
        ≡ in_small_letters (cond b (0x0a ∷ joined ls) (joined ls))
    each true = refl
    each false = refl

-- ---- frames
pub digits_in_small : (s : List ℕ) → all_digits (in_small_letters s) ≡ all_digits s
unfolding all_digits
digits_in_small [] = refl
digits_in_small (c ∷ s) = rw (small_letter_worth c, digits_in_small s) refl

refusal_in_small : (l : Line) → line_refusal (line_in_small l) ≡ line_refusal l
unfolding line_refusal
refusal_in_small l = rw (digits_in_small l.characters, length-map l.characters small_letter) refl

lines_framed : (i : ℕ) (ls : List Line) → frames_from i (map line_in_small ls) ≡ frames_from i ls
unfolding frames_from
lines_framed i [] = refl
lines_framed i (l ∷ ls) =
    rw (refusal_in_small l, bytes_in_small l.characters, lines_framed (i + 1) ls) refl

-- THEOREM: "Accept both cases, also mixed within a byte": a text has the frames, and the refusal, that it has
-- in small letters
pub frames_in_small : (t : List ℕ) → frames (in_small_letters t) ≡ frames t
unfolding frames
frames_in_small t = rw (length-map t small_letter, lines_in_small t, lines_framed 1 (lines_of t)) refl

-- so two texts that differ in the case of letters alone have the same
pub same_frames : (t s : List ℕ) → in_small_letters t ≡ in_small_letters s → frames t ≡ frames s
same_frames t s e = sym (frames_in_small t) ∙ ap frames e ∙ frames_in_small s

-- ---- places
same_place : (i : ℕ) (ls : List Line) → place_of i (map line_in_small ls) ≡ place_of i ls
unfolding place_of
same_place zero ls = refl
same_place (suc i) [] = refl
same_place (suc i) (l ∷ ls) = rw (length-map l.characters small_letter, same_place i ls) refl

-- and each line begins where it did
pub place_in_small : (t : List ℕ) (i : ℕ) → line_place (in_small_letters t) i ≡ line_place t i
place_in_small t i = ap (place_of (i - 1)) (lines_in_small t) ∙ same_place (i - 1) (lines_of t)

-- ---- written
pub line_small : (bytes : List ℕ) → in_small_letters (line_of bytes) ≡ line_of bytes
unfolding line_of
line_small bytes = append_small (characters bytes) (0x0a ∷ []) (characters_small bytes) refl

-- THEOREM: what is written anew is in small letters
pub text_small : (fs : List (List ℕ)) → in_small_letters (text_of fs) ≡ text_of fs
unfolding text_of
text_small [] = refl
text_small (f ∷ fs) = append_small (line_of f) (text_of fs) (line_small f) (text_small fs)
