-- THEOREMS: what is written with the old right side, which are the same bytes exactly where it is in small
-- letters, and reads as the same model always; and that the case of letters changes nothing else.
-- Both texts are parted where the right side begins and ends; lines, and then frames, differ in case alone.
use Rattle.std.specs.Prelude.{ℕ, ◌+◌, ◌-◌, ◌*◌, ◌≤◌, ◌<◌, ◌≡◌, length, take, drop, set}
use Rattle.std.proofs.Common.{arith, sym, ap₂, ◌∙◌, take_at, drop_at}
use Rattle.std.proofs.Math.Path.{refl, ap}
use mathlib.Core.List.{List, ◌∷◌, ◌++◌, map, map-append}
use Rattle.std.proofs.Math.ListN.{length-map, get_or-map}
use Rattle.std.proofs.lemmas.List.{get_or_at}
use Rattle.std.proofs.Math.Seq.{append_snoc}
use Rattle.meaning.specs.Mapped.{map_take, map_drop, map_set}
use Rattle.digits.specs.Digits.{characters, small_letter, in_small_letters}
use Rattle.digits.proofs.Written.{characters_drop}
use Rattle.digits.proofs.Letters.{bytes_in_small, characters_small, small_once}
use Rattle.frames.specs.Lines.{Line, lines_of, joined}
use Rattle.frames.specs.Frames.{Frame, Frames, frames, line_of}
use Rattle.frames.proofs.RoundTrip.{characters_read}
use Rattle.frames.specs.Letters.{line_in_small}
use Rattle.frames.proofs.Letters.{lines_in_small, joined_in_small, digits_in_small}
use Rattle.frames.proofs.Letters.{frames_in_small, same_frames}
use Rattle.reading.specs.Equations.{body_in}
use Rattle.reading.specs.Models.{equations_in, model_of, start_in}
use Rattle.reading.specs.Reading.{refused, text_refusal}
use Rattle.reading.specs.Letters.{refusal_in_small}
use Rattle.answers.specs.Answers.{the_model, the_start}
use Rattle.answers.specs.Demand1.{◌exactly_when◌}
use Rattle.replacer.specs.Replaced.{equation_frame, head_size, with_side, line_with, lines_replaced}
use Rattle.replacer.specs.Replaced.{replaced_text, old_side, replacement_refusal}
use Rattle.replacer.specs.Printed.{printed_replacement}
use Rattle.replacer.specs.Order.{none}
use Rattle.replacer.proofs.Order.{due_given}
use Rattle.replacer.specs.Standing.{Standing}
use Rattle.replacer.proofs.Standing.{standing}
use Rattle.replacer.proofs.Result.{bytes_there, head_there, first_part, old_parts, new_parts}
use Rattle.replacer.specs.Letters.{WithOwn}

parts_small : (a s b : List ℕ)
    → in_small_letters (a ++ (s ++ b)) ≡ in_small_letters a ++ (in_small_letters s ++ in_small_letters b)
parts_small a s b =
    map-append small_letter a (s ++ b) ∙
    ap (λ (l : List ℕ). in_small_letters a ++ l) (map-append small_letter s b)

-- with a part made small, some characters are in small letters what they were
part_small : (a s b : List ℕ)
    → in_small_letters (a ++ (in_small_letters s ++ b)) ≡ in_small_letters (a ++ (s ++ b))
part_small a s b =
    parts_small a (in_small_letters s) b ∙
    ap (λ (l : List ℕ). in_small_letters a ++ (l ++ in_small_letters b)) (small_once s) ∙
    sym (parts_small a s b)

module _ (t : List ℕ) (e : ℕ) (z : (text_refusal t).number ≡ 0) (h : e < length (equations_in (frames t).all))
  where
    there : Standing t e
    there = standing t e z h

    abbrev digits_there : List ℕ
    digits_there = drop (2 * head_there there) there.line.characters

    side_is : old_side t e ≡ digits_there
    side_is =
        let n = length there.before in
        let i : 1 + n - 1 ≡ n = omega arith in
        let line = get_or_at there.before there.line there.after _ n refl in
        rw (there.frame_is, there.is, i)
        (ap (λ (l : Line). drop (2 * head_there there) l.characters) line)

    body_written : characters (body_in (bytes_there there)) ≡ in_small_letters digits_there
    body_written =
        let n = 2 * head_there there in
        let cs = there.line.characters in
        characters_drop (head_there there) (bytes_there there) ∙
        ap (drop n) (characters_read cs there.right.digits there.right.even) ∙
        sym (map_drop small_letter n cs)

    -- THEOREM: what is written is the text with that right side in small letters
    pub with_own : WithOwn t e
    unfolding line_of
    with_own =
        let behind = joined there.after in
        let body = body_in (bytes_there there) in
        record {
          before = first_part there;
          after = 0x0a ∷ behind;
          text = rw side_is (old_parts there);
          result = rw side_is (
              ap (λ (g : Frame). replaced_text t e (body_in g.bytes)) there.frame_is ∙
              new_parts there body ∙
              ap (λ (l : List ℕ). first_part there ++ l) (append_snoc (characters body) 0x0a behind) ∙
              ap (λ (l : List ℕ). first_part there ++ (l ++ (0x0a ∷ behind))) body_written
              );
        }

    abbrev with_old : List ℕ
    with_old = replaced_text t e (body_in (equation_frame t e).bytes)

    -- THEOREM: "its \"same bytes\" now holds for right sides in small letters", and for no others
    pub same_bytes : (with_old ≡ t) exactly_when (in_small_letters (old_side t e) ≡ old_side t e)
    same_bytes = (
      λ same. between_same with_own.before _ _ with_own.after (length-map (old_side t e) small_letter)
          (sym with_own.result ∙ same ∙ with_own.text),
      λ small. with_own.result ∙
          ap (λ (s : List ℕ). with_own.before ++ (s ++ with_own.after)) small ∙ sym with_own.text,
    )
      where
        between_same : (a s r b : List ℕ) → length s ≡ length r → a ++ (s ++ b) ≡ a ++ (r ++ b) → s ≡ r
        between_same a s r b long same =
            let rest = sym (drop_at a (s ++ b) (length a) refl) ∙ ap (drop (length a)) same ∙
            drop_at a (r ++ b) (length a) refl in
            sym (take_at s b (length r) long) ∙ ap (take (length r)) rest ∙ take_at r b (length r) refl

    same_letters : in_small_letters with_old ≡ in_small_letters t
    same_letters =
        ap in_small_letters with_own.result ∙
        part_small with_own.before (old_side t e) with_own.after ∙
        ap in_small_letters (sym with_own.text)

    -- THEOREM: "for others the written text reads as the same model": all of its frames are the same
    pub same_read : frames with_old ≡ frames t
    same_read = same_frames with_old t same_letters

    pub same_model : (the_model with_old ≡ the_model t) × (the_start with_old ≡ the_start t)
    same_model = (
      ap (λ (fs : Frames). model_of fs.all) same_read,
      ap (λ (fs : Frames). start_in fs.all) same_read,
    )

    -- and it is written, into every buffer that is long enough
    pub own_written : (room : ℕ) → length t ≤ room
        → replacement_refusal t e (body_in (equation_frame t e).bytes) room ≡ refused 0 0
    own_written room enough =
        let read : text_refusal with_old ≡ text_refusal t =
        sym (refusal_in_small with_old) ∙ ap text_refusal same_letters ∙ refusal_in_small t in
        let long : length with_old ≡ length t =
        sym (length-map with_old small_letter) ∙ ap length same_letters ∙ length-map t small_letter in
        due_given (none z h (rw read z) (rw long enough))

-- ---- any right side
side_in_small : (head : ℕ) (side : List ℕ) (l : Line)
    → with_side head side (line_in_small l) ≡ line_in_small (with_side head side l)
side_in_small head side l =
    let h = take (2 * head) l.characters in
    let with_characters : List ℕ → Line = λ s. record { characters = s; ended = l.ended } in
    ap with_characters (
    ap₂ (λ (s r : List ℕ). s ++ r) (sym (map_take small_letter (2 * head) l.characters))
    (sym (characters_small side)) ∙
    sym (map-append small_letter h (characters side))
    )

lines_small : (f : Frame) (side : List ℕ) (ls : List Line)
    → lines_replaced f side (map line_in_small ls) ≡ map line_in_small (lines_replaced f side ls)
lines_small f side ls =
    let head = head_size f.bytes in
    let i = f.line - 1 in
    let l = line_with f ls in
    ap (λ (x : Line). set (map line_in_small ls) i (with_side head side x))
    (get_or-map line_in_small ls i _) ∙
    ap (set (map line_in_small ls) i) (side_in_small head side l) ∙
    sym (map_set line_in_small ls i (with_side head side l))

module _ (t : List ℕ) (e : ℕ) (side : List ℕ) where
  -- THEOREM: the result is the same text in small letters, and refused for the same
  pub replaced_in_small : replaced_text (in_small_letters t) e side
      ≡ in_small_letters (replaced_text t e side)
  unfolding replaced_text
  replaced_in_small =
      rw (frames_in_small t, lines_in_small t) (
      ap joined (lines_small (equation_frame t e) side (lines_of t)) ∙
      joined_in_small (lines_replaced (equation_frame t e) side (lines_of t))
      )

  pub replacement_in_small : (room : ℕ)
      → replacement_refusal (in_small_letters t) e side room ≡ replacement_refusal t e side room
  unfolding replacement_refusal
  replacement_in_small room =
      let result = replaced_text t e side in
      rw (
        refusal_in_small t,
        frames_in_small t,
        replaced_in_small,
        refusal_in_small result,
        length-map result small_letter,
      ) refl

-- the command's SIDE too is read in both cases
pub side_read : (t number side : List ℕ)
    → printed_replacement t number (in_small_letters side) ≡ printed_replacement t number side
unfolding printed_replacement
side_read t number side =
    rw (digits_in_small side, length-map side small_letter, bytes_in_small side) refl
