-- What the resulting text is: its lines, its length, the places of its lines, and how the old text is cut.
-- The lines before the equation's and those behind it are as they were; a text is its lines, put together.
use Prim.Native.Nat.{ℕ, zero, suc, ◌+◌, ◌-◌, ◌*◌, ◌≤◌, ◌<◌}
use Rattle.std.proofs.Common.{arith, ap₂, ◌∙◌, length-append, length-drop, take-append-drop, length-take-le, take_at, drop_at}
use Rattle.std.proofs.Common.{drop-drop}
use Rattle.std.specs.Prelude.{◌≡◌, true, set}
use Rattle.std.proofs.Math.Path.{refl, sym, ap}
use mathlib.Core.List.{List, [], ◌∷◌, ◌++◌, append_assoc}
use Rattle.std.proofs.Math.ListN.{length, take, drop}
use Rattle.std.proofs.lemmas.List.{set_at, get_or_at}
use Rattle.std.proofs.Math.Seq.{append_snoc}
use borrow.Author.Tests.{le-leb, lt-leb}
use Rattle.digits.specs.Digits.{bytes_of, characters}
use Rattle.digits.proofs.Pairs.{length_bytes, bytes_append, bytes_take}
use Rattle.digits.proofs.Written.{bytes_read, length_characters}
use Rattle.frames.specs.Lines.{Line, lines_of, joined, all_digits, line_refusal, place_of, line_place}
use Rattle.frames.specs.Frames.{line_of}
use Rattle.frames.proofs.Written.{line_length}
use Rattle.frames.specs.Whole.{Each, and, Whole, Right}
use Rattle.frames.proofs.Whole.{each_joined, rights_whole, digits_append}
use Rattle.frames.proofs.Whole.{digits_take}
use Rattle.frames.proofs.Whole.{joined_lines, lines_joined, joined_append, place_behind}
use Rattle.frames.proofs.RoundTrip.{digits_written}
use Rattle.reading.specs.Equations.{body_in}
use Rattle.reading.proofs.Drafts.{frame_of}
use Rattle.replacer.specs.Replaced.{head_size, with_side, lines_replaced, replaced_text}
use Rattle.replacer.specs.Heads.{frame_with}
use Rattle.replacer.proofs.Heads.{head_whole}
use Rattle.replacer.specs.Standing.{Standing}
use Rattle.replacer.specs.Result.{Small}

-- ---- where lines begin, when one of them is another: before it and at it as they did
pub places_before : (ls : List Line) (l l' : Line) (after : List Line) (k : ℕ) → k ≤ length ls
    → place_of k (ls ++ (l' ∷ after)) ≡ place_of k (ls ++ (l ∷ after))
unfolding place_of
places_before ls l l' after zero h = refl
places_before [] l l' after (suc k) h = absurd (omega arith)
places_before (x ∷ ls) l l' after (suc k) h =
    ap (λ (n : ℕ). suc (length x.characters) + n) (places_before ls l l' after k (omega arith))

-- and behind it farther by as much as it is longer
pub places_behind : (ls : List Line) (l l' : Line) (after : List Line) (k : ℕ) → length ls < k
    → place_of k (ls ++ (l' ∷ after)) + length l.characters
    ≡ place_of k (ls ++ (l ∷ after)) + length l'.characters
unfolding place_of
places_behind ls l l' after zero h = absurd (omega arith)
places_behind [] l l' after (suc k) h = omega arith
places_behind (x ∷ ls) l l' after (suc k) h = omega (arith, places_behind ls l l' after k (omega arith))

-- ---- among some lines the one of the frame f gets the new right side
pub line_replaced : (before : List Line) (l : Line) (after : List Line) (f side : List ℕ)
    → lines_replaced (frame_of (1 + length before) f) side (before ++ (l ∷ after))
    ≡ before ++ (with_side (head_size f) side l ∷ after)
line_replaced before l after f side =
    let n = length before in
    let i : 1 + n - 1 ≡ n = omega arith in
    let there = get_or_at before l after _ n refl in
    rw i (ap (λ (x : Line). set (before ++ (l ∷ after)) n (with_side (head_size f) side x)) there ∙
    set_at before l after (with_side (head_size f) side l) n refl)

module _ {t : List ℕ} {e : ℕ} (s : Standing t e) where
  -- the equation's frame, its line, and how many bytes its head has
  abbrev pub bytes_there : List ℕ
  bytes_there = bytes_of s.line.characters

  abbrev pub line_there : ℕ
  line_there = 1 + length s.before

  abbrev pub head_there : ℕ
  head_there = head_size bytes_there

  whole_head : head_there ≤ length bytes_there
  whole_head = head_whole bytes_there s.valid

  pub head_digits : length (take (2 * head_there) s.line.characters) ≡ 2 * head_there
  head_digits =
      length-take-le (2 * head_there) s.line.characters
      (omega (arith, whole_head, length_bytes s.line.characters))

  -- ---- the texts, parted where the right side begins: what stands before it, and on
  abbrev pub first_part : List ℕ
  first_part = joined s.before ++ take (2 * head_there) s.line.characters

  wholes : Each Whole s.before
  wholes = rights_whole s.rights_before

  pub old_parts : t
      ≡ first_part ++ (drop (2 * head_there) s.line.characters ++ (0x0a ∷ joined s.after))
  unfolding joined
  old_parts =
      let cs = s.line.characters in
      let rest : List ℕ = 0x0a ∷ joined s.after in
      let h = take (2 * head_there) cs in
      let d = drop (2 * head_there) cs in
      sym (joined_lines t) ∙ ap joined s.is ∙ joined_append wholes (s.line ∷ s.after) ∙
      rw s.right.ended (
      ap (λ (l : List ℕ). joined s.before ++ (l ++ rest)) (sym (take-append-drop (2 * head_there) cs)) ∙
      ap (λ (l : List ℕ). joined s.before ++ l) (append_assoc h d rest) ∙
      sym (append_assoc (joined s.before) h (d ++ rest))
      )

  -- where the right side begins, and how many bytes it has
  abbrev pub place_there : ℕ
  place_there = line_place t line_there + 2 * head_there

  abbrev pub size_there : ℕ
  size_there = length (body_in bytes_there)

  place_is : length first_part ≡ place_there
  place_is =
      let i : line_there - 1 ≡ length s.before = omega arith in
      let before : line_place t line_there ≡ length (joined s.before) =
      rw (i, s.is) (place_behind wholes (s.line ∷ s.after)) in
      length-append (joined s.before) (take (2 * head_there) s.line.characters) ∙
      rw (head_digits, ← before) refl

  old_digits : length (drop (2 * head_there) s.line.characters) ≡ 2 * size_there
  old_digits =
      let cs = s.line.characters in
      omega (
        arith,
        length-drop (2 * head_there) cs,
        length-drop head_there bytes_there,
        length_bytes cs,
        whole_head,
        s.right.even,
      )

  pub old_length : length s.line.characters ≡ 2 * (head_there + size_there)
  old_length =
      omega (
        arith,
        length-drop head_there bytes_there,
        length_bytes s.line.characters,
        whole_head,
        s.right.even,
      )

  -- the old text reaches to the next line
  pub reaches : place_there + (2 * size_there + 1) ≤ length t
  reaches =
      let d = drop (2 * head_there) s.line.characters in
      let rest = joined s.after in
      omega (
        arith,
        ap length old_parts,
        length-append first_part (d ++ (0x0a ∷ rest)),
        length-append d (0x0a ∷ rest),
        old_digits,
        place_is,
      )

  module _ (side : List ℕ) where
    -- its line with the new right side
    abbrev pub new_line : Line
    new_line = with_side head_there side s.line

    abbrev pub new_lines : List Line
    new_lines = s.before ++ (new_line ∷ s.after)

    pub result_joined : replaced_text t e side ≡ joined new_lines
    unfolding replaced_text
    result_joined =
        ap joined (rw (s.frame_is, s.is) (line_replaced s.before s.line s.after bytes_there side))

    pub new_length : length new_line.characters ≡ 2 * (head_there + length side)
    new_length =
        omega (
          arith,
          length-append (take (2 * head_there) s.line.characters) (characters side),
          head_digits,
          length_characters side,
        )

    pub new_parts : replaced_text t e side ≡ first_part ++ (line_of side ++ joined s.after)
    unfolding joined line_of
    new_parts =
        let rest = joined s.after in
        let h = take (2 * head_there) s.line.characters in
        result_joined ∙ joined_append wholes (new_line ∷ s.after) ∙
        rw s.right.ended (
        ap (λ (l : List ℕ). joined s.before ++ l) (append_assoc h (characters side) (0x0a ∷ rest)) ∙
        sym (append_assoc (joined s.before) h (characters side ++ (0x0a ∷ rest))) ∙
        ap (λ (l : List ℕ). first_part ++ l) (sym (append_snoc (characters side) 0x0a rest))
        )

    -- THEOREM: the text is the old one up to the right side, then the new one, then on from the next line
    pub result_cut : replaced_text t e side
        ≡ take place_there t ++ (line_of side ++ drop (place_there + (2 * size_there + 1)) t)
    result_cut =
        let d = drop (2 * head_there) s.line.characters in
        let rest = joined s.after in
        let long : length (d ++ (0x0a ∷ [])) ≡ 2 * size_there + 1 =
        length-append d (0x0a ∷ []) ∙ ap (λ (n : ℕ). n + 1) old_digits in
        let first : take place_there t ≡ first_part =
        ap (take place_there) old_parts ∙ take_at first_part _ place_there place_is in
        let behind : drop (place_there + (2 * size_there + 1)) t ≡ rest =
        sym (drop-drop (2 * size_there + 1) place_there t) ∙
        ap (λ (l : List ℕ). drop (2 * size_there + 1) (drop place_there l)) old_parts ∙
        ap (drop (2 * size_there + 1)) (drop_at first_part _ place_there place_is) ∙
        ap (drop (2 * size_there + 1)) (sym (append_snoc d 0x0a rest)) ∙
        drop_at (d ++ (0x0a ∷ [])) rest (2 * size_there + 1) long in
        new_parts ∙ rw (first, behind) refl

    -- how long it is
    pub result_length : length (replaced_text t e side) + 2 * size_there ≡ length t + 2 * length side
    result_length =
        let d = drop (2 * head_there) s.line.characters in
        let rest = joined s.after in
        omega (
          arith,
          ap length new_parts,
          ap length old_parts,
          length-append first_part (line_of side ++ rest),
          length-append (line_of side) rest,
          line_length side,
          length-append first_part (d ++ (0x0a ∷ rest)),
          length-append d (0x0a ∷ rest),
          old_digits,
        )

    -- ---- for bytes: which lines the text has, and how rules 2 and 3 judge the new one
    module _ (small : Small side) where
      new_digits : all_digits new_line.characters ≡ true
      new_digits =
          digits_append (take (2 * head_there) s.line.characters) (characters side)
          (digits_take (2 * head_there) s.line.characters s.right.digits) (digits_written side small)

      pub result_lines : lines_of (replaced_text t e side) ≡ new_lines
      result_lines =
          let new_whole : Whole new_line = record { digits = new_digits; ended = s.right.ended } in
          ap lines_of result_joined ∙ lines_joined
          (each_joined wholes (and new_whole (rights_whole s.rights_after)))

      pub new_bytes : bytes_of new_line.characters ≡ frame_with bytes_there side
      new_bytes =
          let h = take (2 * head_there) s.line.characters in
          bytes_append h (characters side) (omega (arith, head_digits)) ∙
          ap₂ (λ (a b : List ℕ). a ++ b) (bytes_take head_there s.line.characters) (bytes_read side small)

      pub new_right : head_there + length side ≤ 256 → Right new_line
      new_right h =
          let n = new_length in
          record {
            digits = new_digits;
            ended = s.right.ended;
            some = omega arith;
            most = omega arith;
            even = omega arith;
          }

      pub new_too_long : 256 < head_there + length side → line_refusal new_line ≡ 3
      unfolding line_refusal
      new_too_long h =
          let n = length new_line.characters in
          rw (
            new_digits,
            s.right.ended,
            le-leb 1 n (omega (arith, new_length)),
            lt-leb n 512 (omega (arith, new_length)),
          ) refl
