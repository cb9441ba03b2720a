-- DEMAND 1: which number is given, when, and in which order; and what the lent table holds after each answer.
-- `every_answer` goes through the tests of the definitions in their order; the rest is read off its four
-- cases.
use Rattle.std.specs.Prelude.{ℕ, ◌≤◌, ◌<◌, ◌≡◌, Bool, cond, List, ◌++◌, map, eqb, ltb, take, drop}
use native.Mathlib.Omega.{arith}
use Rattle.std.proofs.Math.Path.{refl, ap}
use Rattle.std.proofs.Common.{sym, ◌∙◌, length-take-le, take_all, ltb-true, ltb-false, leb-true, leb-false, eqb-true, lt-ltb}
use Rattle.std.proofs.Common.{le-ltb}
use Rattle.std.proofs.Math.Bool.{true, false}
use Rattle.std.proofs.Math.Dec.{leb}
use Rattle.std.proofs.Math.ListN.{length, length-take}
use Rattle.std.proofs.lemmas.List.{length-map}
use Rattle.std.proofs.Math.Seq.{length_front}
use Rattle.std.proofs.lemmas.Bool.{eqb-false}
use borrow.Author.Tests.{le-leb, lt-leb, eq-eqb, ne_eqb}
use Rattle.meaning.specs.Words.{word}
use Rattle.reading.specs.Reading.{Refusal, text_refusal}
use Rattle.reading.proofs.LineNumbers.{refusal_bounded}
use Rattle.answers.specs.declared.Answer.{Answer}
use Rattle.reading.proofs.LineNumbers.{one_of_long_text, long_text_one, refusal_names_line}
use Rattle.answers.specs.Answers.{list, room_of, refusal, verdict, judged, answer, kept_words}
use Rattle.answers.specs.Answers.{table_after, checked, table_after_check}
use Rattle.answers.specs.Demand1.{◌exactly_when◌}

-- the answers for a text, so many records and so many words lent, each with its cause
pub data Reply (t : List ℕ) (records words : ℕ) : Answer → Type 0 where
  -- "Where the list has fewer than eight records the answer is 5, line 0, before any other refusal"
  short_list : records < 8 → Reply t records words (refusal 5 0)
  -- then 1 to 8, as reading gives them in their order
  text_refused : 8 ≤ records → ((text_refusal t).number ≡ 0 → ⊥)
      → Reply t records words (refusal (text_refusal t).number (text_refusal t).line)
  -- then 9: "more reached instances than room (line 0)"
  too_many : 8 ≤ records → (text_refusal t).number ≡ 0 → room_of words < length (list t)
      → Reply t records words (refusal 9 0)
  -- else the verdict
  judged_so : 8 ≤ records → (text_refusal t).number ≡ 0 → length (list t) ≤ room_of words
      → Reply t records words (verdict t)

module _ (t : List ℕ) (records words : ℕ) where
  -- every answer is one of these four and has its cause
  pub every_answer : Reply t records words (checked t records words)
  unfolding checked answer judged
  every_answer = by_records (ltb records 8) refl
    where
      by_room : (b : Bool) → leb (length (list t)) (room_of words) ≡ b → 8 ≤ records
          → (text_refusal t).number ≡ 0 → Reply t records words (cond b (verdict t) (refusal 9 0))
      by_room true e h r = judged_so h r (leb-true (length (list t)) (room_of words) e)
      by_room false e h r = too_many h r (leb-false (length (list t)) (room_of words) e)

      by_text : (b : Bool) → eqb (text_refusal t).number 0 ≡ b → 8 ≤ records →
          Reply t records words (cond b (judged t (room_of words))
          (refusal (text_refusal t).number (text_refusal t).line))
      by_text true e h = by_room (leb (length (list t)) (room_of words)) refl h
          (eqb-true (text_refusal t).number 0 e)
      by_text false e h = text_refused h (eqb-false (text_refusal t).number 0 e)

      by_records : (b : Bool) → ltb records 8 ≡ b
          → Reply t records words (cond b (refusal 5 0) (answer t words))
      by_records true e = short_list (ltb-true records 8 e)
      by_records false e = by_text (eqb (text_refusal t).number 0) refl (ltb-false records 8 e)

  -- and a cause has no other answer
  caused : {a : Answer} → Reply t records words a → checked t records words ≡ a
  unfolding checked answer judged
  caused (short_list h) = rw (lt-ltb _ _ h) refl
  caused (text_refused h r) = rw (le-ltb _ _ h, ne_eqb _ _ r) refl
  caused (too_many h r l) = rw (le-ltb _ _ h, eq-eqb _ _ r, lt-leb _ _ l) refl
  caused (judged_so h r l) = rw (le-ltb _ _ h, eq-eqb _ _ r, le-leb _ _ l) refl

  -- the order: the short record list
  pub first_short_list : records < 8 → checked t records words ≡ refusal 5 0
  first_short_list h = caused (short_list h)

  -- with eight records or more, the answer hangs on the text and the words lent alone
  pub records_enough : 8 ≤ records → checked t records words ≡ answer t words
  unfolding checked
  records_enough h = rw (le-ltb _ _ h) refl

  -- then what reading refuses
  pub then_text : 8 ≤ records → ((text_refusal t).number ≡ 0 → ⊥)
      → checked t records words ≡ refusal (text_refusal t).number (text_refusal t).line
  then_text h r = caused (text_refused h r)

  -- then more reached instances than room
  pub then_room : 8 ≤ records → (text_refusal t).number ≡ 0 → room_of words < length (list t)
      → checked t records words ≡ refusal 9 0
  then_room h r l = caused (too_many h r l)

  -- and where nothing is refused, the verdict
  pub then_verdict : 8 ≤ records → (text_refusal t).number ≡ 0 → length (list t) ≤ room_of words
      → checked t records words ≡ verdict t
  then_verdict h r l = caused (judged_so h r l)

  -- there are records enough, the text is read, and R
  abbrev ReadWith : Type 0 → Type 0
  ReadWith R = (8 ≤ records) × ((text_refusal t).number ≡ 0) × R

  causes : {a : Answer} → Reply t records words a
      → (a.number ≡ 0 → ReadWith (length (list t) ≤ room_of words))
      × (a.number ≡ 9 → ReadWith (room_of words < length (list t)))
  unfolding verdict
  causes (short_list h) = ((λ e. absurd (omega arith)), λ e. absurd (omega arith))
  causes (text_refused h r) = ((λ e. absurd (r e)), λ e. absurd (omega (arith, (refusal_bounded t).0)))
  causes (too_many h r l) = ((λ e. absurd (omega arith)), λ e. (h, r, l))
  causes (judged_so h r l) = ((λ e. (h, r, l)), λ e. absurd (omega arith))

  -- a verdict is given exactly when there are records enough, the text is read, and the reached instances
  -- have room
  pub verdict_given : ((checked t records words).number ≡ 0) exactly_when
      ((8 ≤ records) × ((text_refusal t).number ≡ 0) × (length (list t) ≤ room_of words))
  unfolding verdict
  verdict_given =
      ((causes every_answer).0, λ p. ap (λ (a : Answer). a.number) (then_verdict p.0 p.1 p.2))

  -- 9 exactly when there are records enough, the text is read, and the reached instances outnumber the room
  pub nine_given : ((checked t records words).number ≡ 9) exactly_when
      ((8 ≤ records) × ((text_refusal t).number ≡ 0) × (room_of words < length (list t)))
  nine_given = ((causes every_answer).1, λ p. ap (λ (a : Answer). a.number) (then_room p.0 p.1 p.2))

  -- with records enough, each number from 1 to 8 exactly when reading gives it
  pub text_number_given : 8 ≤ records → (n : ℕ) → 1 ≤ n → n ≤ 8
      → ((checked t records words).number ≡ n) exactly_when ((text_refusal t).number ≡ n)
  unfolding verdict
  text_number_given h n l u = (
    from every_answer,
    λ e. ap (λ (a : Answer). a.number)
        (then_text h (λ z. omega arith)) ∙ e,
  )
    where
      from : {a : Answer} → Reply t records words a → a.number ≡ n → (text_refusal t).number ≡ n
      from (short_list s) e = absurd (omega arith)
      from (text_refused s r) e = e
      from (too_many s r m) e = absurd (omega arith)
      from (judged_so s r m) e = absurd (omega arith)

  -- 5 with line 0 exactly when the record list is short: "the one other use of 5"
  pub short_list_given : (((checked t records words).number ≡ 5) × ((checked t records words).line ≡ 0))
      exactly_when (records < 8)
  unfolding verdict
  short_list_given = (
    (λ p. from every_answer p.0 p.1),
    λ h. (
      ap (λ (a : Answer). a.number) (first_short_list h),
      ap (λ (a : Answer). a.line)
          (first_short_list h),
    ),
  )
    where
      from : {a : Answer} → Reply t records words a → a.number ≡ 5 → a.line ≡ 0 → records < 8
      from (short_list h) e l = h
      from (text_refused h r) e l = absurd (omega (arith, refusal_names_line t (omega arith)))
      from (too_many h r m) e l = absurd (omega arith)
      from (judged_so h r m) e l = absurd (omega arith)

  -- 1 exactly when the text is too long
  pub too_long_given : 8 ≤ records → ((checked t records words).number ≡ 1) exactly_when (32768 < length t)
  too_long_given h =
      let p = text_number_given h 1 (omega arith) (omega arith) in
      ((λ e. one_of_long_text t (p.0 e)), λ l. p.1 (ap (λ (r : Refusal). r.number) (long_text_one t l)))

  bounded : {a : Answer} → Reply t records words a → (a.number ≤ 9) × (a.line ≤ 32769)
  unfolding verdict
  bounded (short_list h) = (omega arith, omega arith)
  bounded (text_refused h r) = (omega (arith, (refusal_bounded t).0), (refusal_bounded t).1)
  bounded (too_many h r l) = (omega arith, omega arith)
  bounded (judged_so h r l) = (omega arith, omega arith)

  -- there is no other number
  pub number_at_most_9 : (checked t records words).number ≤ 9
  number_at_most_9 = (bounded every_answer).0

  -- and no line past the one after the last that a text can have
  pub line_at_most_32769 : (checked t records words).line ≤ 32769
  line_at_most_32769 = (bounded every_answer).1

  -- "Each answer carries number and line, both 0 on a verdict"
  pub verdict_line : (checked t records words).number ≡ 0 → (checked t records words).line ≡ 0
  unfolding verdict
  verdict_line = of every_answer
    where
      of : {a : Answer} → Reply t records words a → a.number ≡ 0 → a.line ≡ 0
      of (short_list h) e = refl
      of (text_refused h r) e = absurd (r e)
      of (too_many h r l) e = refl
      of (judged_so h r l) e = refl

  -- "On refusal all 512 bits are clear .. On refusal both counts are 0, and so is any field for the verdict"
  pub refusal_clear : ((checked t records words).number ≡ 0 → ⊥)
      → checked t records words ≡ refusal (checked t records words).number (checked t records words).line
  unfolding verdict
  refusal_clear = of every_answer
    where
      of : {a : Answer} → Reply t records words a → (a.number ≡ 0 → ⊥) → a ≡ refusal a.number a.line
      of (short_list h) e = refl
      of (text_refused h r) e = refl
      of (too_many h r l) e = refl
      of (judged_so h r l) e = absurd (e refl)

-- ---- the lent table
-- where all of the list has room, all of it is kept
pub kept_all : (t : List ℕ) (room : ℕ) → length (list t) ≤ room → kept_words t room ≡ map word (list t)
kept_all t room h = take_all room (map word (list t)) (omega (arith, length-map (list t) word))

module _ (t : List ℕ) (table : List ℕ) where
  abbrev room : ℕ
  room = room_of (length table)

  -- what the kept words and the rest of the table are where a text is read
  kept_table : (text_refusal t).number ≡ 0
      → table_after t table ≡ kept_words t room ++ drop (length (kept_words t room)) table
  unfolding table_after
  kept_table r = rw (eq-eqb _ _ r) refl

  -- the list and the rest, where all of it has room
  pub listed_table : (text_refusal t).number ≡ 0 → length (list t) ≤ room
      → table_after t table ≡ map word (list t) ++ drop (length (list t)) table
  listed_table r h = kept_table r ∙ ap (λ (l : List ℕ). l ++ drop (length l) table) (kept_all t room h)
      ∙ ap (λ (n : ℕ). map word (list t) ++ drop n table) (length-map (list t) word)

  pub table_after_length : length (table_after t table) ≡ length table
  unfolding table_after
  table_after_length = by_text (eqb (text_refusal t).number 0)
    where
      kept_fits : length (kept_words t room) ≤ length table
      kept_fits = omega (arith, length-take room (map word (list t)))

      by_text : (b : Bool) → length (cond b (kept_words t room ++ drop (length (kept_words t room)) table)
          table) ≡ length table
      by_text true = length_front table (kept_words t room) (length (kept_words t room))
          (sym (length-take-le (length (kept_words t room)) table kept_fits))
      by_text false = refl

module _ (t : List ℕ) (records : ℕ) (table : List ℕ) where
  abbrev number : ℕ
  number = (checked t records (length table)).number

  -- with eight records or more, the table hangs on the text alone
  table_enough : 8 ≤ records → table_after_check t records table ≡ table_after t table
  unfolding table_after_check
  table_enough h = rw (le-ltb _ _ h) refl

  -- "Refusals 1 to 8 touch none"; on the short list "nothing is touched"
  pub table_untouched : (number ≡ 0 → ⊥) → (number ≡ 9 → ⊥) → table_after_check t records table ≡ table
  unfolding table_after_check table_after verdict
  table_untouched z n = of (every_answer t records (length table)) z n
    where
      of : {a : Answer} → Reply t records (length table) a → (a.number ≡ 0 → ⊥) → (a.number ≡ 9 → ⊥)
          → table_after_check t records table ≡ table
      of (short_list h) z n = rw (lt-ltb _ _ h) refl
      of (text_refused h r) z n = rw (le-ltb _ _ h, ne_eqb _ _ r) refl
      of (too_many h r l) z n = absurd (n refl)
      of (judged_so h r l) z n = absurd (z refl)

  -- "Refusal 9 leaves the first instances found, filling the room, the rest untouched"
  pub table_filled : number ≡ 9 → table_after_check t records table
      ≡ take (room t table) (map word (list t)) ++ drop (room t table) table
  table_filled e =
      let p = (nine_given t records (length table)).0 e in
      let kept = kept_words t (room t table) in
      let full : length kept ≡ room t table = omega
      (arith, length-take (room t table) (map word (list t)), length-map (list t) word, p.2) in
      table_enough p.0 ∙ kept_table t table p.1 ∙ ap (λ (k : ℕ). kept ++ drop k table) full

  -- "On a verdict with n reached, the first n words are the list and the rest is untouched"
  pub table_listed : number ≡ 0 → table_after_check t records table
      ≡ map word (list t) ++ drop (length (list t)) table
  table_listed e =
      let p = (verdict_given t records (length table)).0 e in
      table_enough p.0 ∙ listed_table t table p.1 p.2

  -- the table is as long as before
  pub table_length : length (table_after_check t records table) ≡ length table
  unfolding table_after_check
  table_length = by_records (ltb records 8)
    where
      by_records : (b : Bool) → length (cond b table (table_after t table)) ≡ length table
      by_records true = refl
      by_records false = table_after_length t table
