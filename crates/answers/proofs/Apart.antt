-- REQUEST 2026-05: solving a list that is lent: when it gives 11, in which order, and what it answers
-- otherwise; and `check` is finding and solving after each other, in what is answered and what is printed.
-- Where 11 is not due, solving answers what `check` answers with room for 512: the rest is read off that.
use Rattle.std.specs.Prelude.{ℕ, ◌≤◌, ◌<◌, ◌≡◌, Bool, cond, List, [], map, ◌⊎◌, eqb, ltb, leb, length, take}
use Rattle.std.proofs.Common.{arith, sym, subst, ◌∙◌, inl, inr, ltb-true, ltb-false, leb-true, leb-false, eqb-true}
use Rattle.std.proofs.Math.Path.{refl, ap}
use Rattle.std.proofs.Math.Bool.{true, false}
use Rattle.std.proofs.Math.ListN.{length-map}
use Rattle.std.proofs.Math.Seq.{take-append_seam}
use Rattle.std.proofs.lemmas.Bool.{eqb-false}
use Rattle.meaning.specs.Logic.{◌and◌, Is, never, eq→Is}
use Rattle.meaning.specs.Solution.{same}
use Rattle.meaning.proofs.Members.{same_eq, same_refl}
use Rattle.meaning.specs.Words.{word}
use Rattle.reading.specs.Reading.{text_refusal}
use Rattle.answers.specs.declared.Answer.{Answer}
use Rattle.answers.specs.Answers.{list, room_of, refusal, verdict, answer, table_after, checked}
use Rattle.answers.specs.Answers.{table_after_check, is_found, list_answer, solved}
use Rattle.answers.specs.Printed.{answer_lines, printed, printed_solved}
use Rattle.answers.specs.Demand1.{◌exactly_when◌}
use Rattle.answers.proofs.Demand1.{first_short_list, then_text, then_verdict}
use Rattle.answers.proofs.Demand1.{verdict_given, nine_given, text_number_given, number_at_most_9}
use Rattle.answers.proofs.Demand1.{refusal_clear, table_listed}
use Rattle.answers.proofs.Demand2.{start_first, verdict_answered, verdict_read, verdict_room, answered}
use Rattle.answers.specs.Apart.{AnotherList, Solution, TheList, another_list, as_checked}

not_both : {t lent : List ℕ} → TheList t lent → AnotherList t lent → ⊥
not_both h (inl n) = n h.whole
not_both h (inr m) = omega (arith, h.few)

-- the test tells which
found_so : (t lent : List ℕ) → is_found t lent ≡ true → TheList t lent
unfolding is_found ◌and◌
found_so t lent = by (same lent (map word (list t))) refl (leb (length lent) 512) refl
  where
    by : (a : Bool) → same lent (map word (list t)) ≡ a → (b : Bool) → leb (length lent) 512 ≡ b
        → (a and b) ≡ true → TheList t lent
    by true e true l h = record { whole = same_eq lent _ (eq→Is e); few = leb-true (length lent) 512 l }
    by true e false l h = never (eq→Is h)
    by false e b l h = never (eq→Is h)

not_found : (t lent : List ℕ) → is_found t lent ≡ false → AnotherList t lent
unfolding is_found ◌and◌
not_found t lent = by (same lent (map word (list t))) refl (leb (length lent) 512) refl
  where
    by : (a : Bool) → same lent (map word (list t)) ≡ a → (b : Bool) → leb (length lent) 512 ≡ b
        → (a and b) ≡ false → AnotherList t lent
    by true e true l h = never (eq→Is (sym h))
    by true e false l h = inr (leb-false (length lent) 512 l)
    by false e b l h = inl (λ w.
        never (rw e at (subst (λ (ws : List ℕ). Is (same lent ws)) w (same_refl lent))))

module _ (t : List ℕ) (records : ℕ) (lent : List ℕ) where
  few_listed : TheList t lent → length (list t) ≤ 512
  few_listed h = omega (arith, ap length h.whole, length-map (list t) word, h.few)

  -- every answer is one of these two and has its cause
  pub every_solution : Solution t records lent (solved t records lent)
  unfolding solved list_answer
  every_solution = by_records (ltb records 8) refl
    where
      by_list : (b : Bool) → is_found t lent ≡ b → 8 ≤ records → (text_refusal t).number ≡ 0
          → Solution t records lent (cond b (verdict t) (refusal 11 0))
      by_list true e h r =
          let its = found_so t lent e in
          rw (← then_verdict t records 512 h r (few_listed its)) (as_checked (λ _ _. its))
      by_list false e h r = another_list h r (not_found t lent e)

      by_text : (b : Bool) → eqb (text_refusal t).number 0 ≡ b → 8 ≤ records
          → Solution t records lent (cond b (cond (is_found t lent) (verdict t) (refusal 11 0))
          (refusal (text_refusal t).number (text_refusal t).line))
      by_text true e h = by_list (is_found t lent) refl h (eqb-true (text_refusal t).number 0 e)
      by_text false e h =
          let n = eqb-false (text_refusal t).number 0 e in
          rw (← then_text t records 512 h n) (as_checked (λ _ r. absurd (n r)))

      by_records : (b : Bool) → ltb records 8 ≡ b
          → Solution t records lent (cond b (refusal 5 0) (list_answer t lent))
      by_records true e =
          let less = ltb-true records 8 e in
          rw (← first_short_list t records 512 less) (as_checked (λ h _. absurd (omega arith)))
      by_records false e = by_text (eqb (text_refusal t).number 0) refl (ltb-false records 8 e)

  -- and a cause has no other answer
  only : {a b : Answer} → Solution t records lent a → Solution t records lent b → a ≡ b
  only (as_checked c) (as_checked d) = refl
  only (as_checked c) (another_list h r n) = absurd (not_both (c h r) n)
  only (another_list h r n) (as_checked c) = absurd (not_both (c h r) n)
  only (another_list h r n) (another_list i s m) = refl

  -- the order: the short record list
  pub solving_short_list : records < 8 → solved t records lent ≡ refusal 5 0
  solving_short_list less = only every_solution (as_checked (λ h _. absurd (omega arith)))
      ∙ first_short_list t records 512 less

  -- then what reading refuses
  pub solving_text : 8 ≤ records → ((text_refusal t).number ≡ 0 → ⊥)
      → solved t records lent ≡ refusal (text_refusal t).number (text_refusal t).line
  solving_text h n = only every_solution (as_checked (λ _ r. absurd (n r))) ∙ then_text t records 512 h n

  -- then another list
  pub solving_another_list : 8 ≤ records → (text_refusal t).number ≡ 0 → AnotherList t lent
      → solved t records lent ≡ refusal 11 0
  solving_another_list h r n = only every_solution (another_list h r n)

  -- and where nothing is refused, the verdict
  pub solving_verdict : 8 ≤ records → (text_refusal t).number ≡ 0 → TheList t lent
      → solved t records lent ≡ verdict t
  solving_verdict h r its =
      only every_solution (as_checked (λ _ _. its)) ∙ then_verdict t records 512 h r (few_listed its)

  causes : {a : Answer} → Solution t records lent a
      → (a.number ≡ 0 → (8 ≤ records) × ((text_refusal t).number ≡ 0) × TheList t lent)
      × ((a.number ≡ 9 → ⊥)
      × (a.number ≡ 11 → (8 ≤ records) × ((text_refusal t).number ≡ 0) × AnotherList t lent))
  causes (as_checked c) = (
    (λ e. let p = (verdict_given t records 512).0 e in (p.0, p.1, c p.0 p.1)),
    (
      (λ e. let p = (nine_given t records 512).0 e in omega (arith, p.2, few_listed (c p.0 p.1))),
      λ e. absurd (omega (arith, number_at_most_9 t records 512)),
    ),
  )
  causes (another_list h r n) = ((λ e. absurd (omega arith)), ((λ e. omega arith), λ e. (h, r, n)))

  -- a verdict exactly when there are records enough, the text is read, and the whole list is the reached one
  pub solving_given : ((solved t records lent).number ≡ 0) exactly_when
      ((8 ≤ records) × ((text_refusal t).number ≡ 0) × TheList t lent)
  unfolding verdict
  solving_given =
      ((causes every_solution).0, λ p. ap (λ (a : Answer). a.number) (solving_verdict p.0 p.1 p.2))

  -- 11 "exactly when the whole lent list isn't the reached list of that model or has over 512 words", where
  -- there are records enough and the text is read
  pub eleven_given : ((solved t records lent).number ≡ 11) exactly_when
      ((8 ≤ records) × ((text_refusal t).number ≡ 0) × AnotherList t lent)
  eleven_given = (
    (causes every_solution).1.1,
    λ p. ap (λ (a : Answer). a.number) (solving_another_list p.0 p.1 p.2),
  )

  -- "solving alone never gives 9"
  pub never_nine : (solved t records lent).number ≡ 9 → ⊥
  never_nine = (causes every_solution).1.0

  -- where 11 is not given, the answer is that of `check` with room for 512: what is proved of that holds here
  pub solved_as_checked : ((solved t records lent).number ≡ 11 → ⊥)
      → solved t records lent ≡ checked t records 512
  solved_as_checked = of every_solution
    where
      of : {a : Answer} → Solution t records lent a → (a.number ≡ 11 → ⊥) → a ≡ checked t records 512
      of (as_checked c) n = refl
      of (another_list h r m) n = absurd (n refl)

  -- with records enough, each number from 1 to 8 exactly when reading gives it
  pub solving_text_number : 8 ≤ records → (n : ℕ) → 1 ≤ n → n ≤ 8
      → ((solved t records lent).number ≡ n) exactly_when ((text_refusal t).number ≡ n)
  solving_text_number h n l u = (
    of every_solution,
    λ e. ap (λ (a : Answer). a.number) (solving_text h (λ z. omega arith)) ∙ e,
  )
    where
      of : {a : Answer} → Solution t records lent a → a.number ≡ n → (text_refusal t).number ≡ n
      of (as_checked c) e = (text_number_given t records 512 h n l u).0 e
      of (another_list s r m) e = absurd (omega arith)

  -- there is no other number than 0 to 8 and 11
  pub solving_numbers : ((solved t records lent).number ≤ 8) ⊎ ((solved t records lent).number ≡ 11)
  solving_numbers = of every_solution never_nine
    where
      of : {a : Answer} → Solution t records lent a → (a.number ≡ 9 → ⊥) → (a.number ≤ 8) ⊎ (a.number ≡ 11)
      of (as_checked c) n = inl (omega (arith, number_at_most_9 t records 512, n))
      of (another_list h r m) n = inr refl

  -- on a refusal nothing else is answered; 11 has line 0
  pub solving_refusal_clear : ((solved t records lent).number ≡ 0 → ⊥)
      → solved t records lent ≡ refusal (solved t records lent).number (solved t records lent).line
  solving_refusal_clear = of every_solution
    where
      of : {a : Answer} → Solution t records lent a → (a.number ≡ 0 → ⊥) → a ≡ refusal a.number a.line
      of (as_checked c) n = refusal_clear t records 512 n
      of (another_list h r m) n = refl

  -- a model that reaches more than 512 instances: 11 for any list
  pub many_give_eleven : 8 ≤ records → (text_refusal t).number ≡ 0 → 512 < length (list t)
      → solved t records lent ≡ refusal 11 0
  many_give_eleven h r more = of every_solution
    where
      of : {a : Answer} → Solution t records lent a → a ≡ refusal 11 0
      of (as_checked c) = absurd (omega (arith, few_listed (c h r)))
      of (another_list i s n) = refl

-- the start is always listed, so an empty list gives 11
pub empty_gives_eleven : (t : List ℕ) (records : ℕ) → 8 ≤ records → (text_refusal t).number ≡ 0
    → solved t records [] ≡ refusal 11 0
empty_gives_eleven t records h r = solving_another_list t records [] h r (inl (λ e.
    omega (arith, ap length e, length-map (list t) word, ap length (start_first t r).1)))

-- ---- `check` is finding and then solving: of what is lent to find, `records` records and `table`, the words
-- that it leaves, as many as it says, are solved
module _ (t : List ℕ) (records : ℕ) (table : List ℕ) (v : (checked t records (length table)).number ≡ 0) where
  abbrev lists : (8 ≤ records) × ((text_refusal t).number ≡ 0) × (length (list t) ≤ room_of (length table))
  lists = (verdict_given t records (length table)).0 v

  told : checked t records (length table) ≡ verdict t
  told = then_verdict t records (length table) lists.0 lists.1 lists.2

  -- they are the list
  pub found_words : take (checked t records (length table)).reached (table_after_check t records table)
      ≡ map word (list t)
  unfolding verdict
  found_words = rw (told, table_listed t records table v, ← length-map (list t) word)
      (take-append_seam (map word (list t)) _)

  found_list :
      TheList t (take (checked t records (length table)).reached (table_after_check t records table))
  found_list = record {
    whole = found_words;
    few = omega (arith, ap length found_words, length-map (list t) word, lists.2);
  }

  -- and solving them is not refused and answers what `check` answers
  pub find_then_solve :
      solved t records (take (checked t records (length table)).reached (table_after_check t records table))
      ≡ checked t records (length table)
  find_then_solve = solving_verdict t records _ lists.0 lists.1 found_list ∙ sym told

-- what is printed of them is what is printed of the text
pub apart_prints : (t table : List ℕ) → (answer t (length table)).number ≡ 0
    → printed_solved t (take (answer t (length table)).reached (table_after t table)) ≡ printed t
unfolding printed printed_solved checked table_after_check solved
apart_prints t table v =
    let few : length (list t) ≤ 512 = omega (arith, verdict_room t (length table) v) in
    let whole = sym (verdict_answered t 512 (verdict_read t (length table) v) few) in
    let same = answered t (length table) v ∙ whole in
    ap (answer_lines t) (find_then_solve t 8 table v ∙ same)
