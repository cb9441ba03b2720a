-- From a text that was accepted to its answer: what is found is its list and what is solved is its meaning.
-- The model of the decoded bodies is the text's, so the promises of finding and solving speak of the text.
use Prim.Native.Nat.{ℕ, ◌≤◌}
use native.Mathlib.Omega.{arith}
use mathlib.Core.Path.{◌≡◌, refl, sym, ap, ap₂, subst, ◌∙◌}
use mathlib.Core.Bool.{Bool, true, false, cond, not, ◌&&◌}
use mathlib.Core.List.{List, [], ◌++◌, map}
use lib.Dec.{ltb, leb}
use lib.ListN.{length, take, drop, get_or, length-map, length-append}
use lib.Seq.{take_at}
use Rattle.std.specs.Prelude.{Option, Some, None, Result, Ok, Err, IfSome, IsErrAnd, is_some, unwrap_or}
use Rattle.refusals.specs.declared.Reason.{Reason}
use Rattle.refusals.specs.declared.Reason.TheVariants.{NoRoom, AnotherList}
use Rattle.refusals.specs.declared.Refusal.{Refusal}
use Rattle.refusals.specs.Numbers.{number_of}
use Rattle.refusals.specs.OneReply.{some_number}
use borrow.Author.Tests.{ltb-true, ltb-false, le-leb, lt-leb, eq-eqb, ne_eqb}
use Rattle.meaning.specs.Logic.{◌and◌, never, eq→Is}
use Rattle.meaning.specs.Solution.{same}
use Rattle.meaning.proofs.Members.{same_eq}
use Rattle.meaning.specs.Reach.{Instance}
use Rattle.meaning.specs.Words.{word}
use Rattle.reading.specs.declared.Reading.{Reading}
use Rattle.reading.specs.Contract.{start_from}
use Rattle.reading.specs.Reading.{text_refusal}
use Rattle.reading.specs.Records.{ModelRecord, ReadingRecord, model_told, reading}
use Rattle.reading.specs.Records as records
use Rattle.truth.specs.Bits.{bit_of, nowhere}
use Rattle.truth.specs.Words.{truth_words}
use Rattle.truth.proofs.Words.{truth_words_bits, truth_words_count}
use Rattle.answers.specs.declared.Answer.{Answer}
use Rattle.answers.specs.Answers.{the_model, the_start, list, truth_in, shown_values, room_of, kept_words, table_after}
use Rattle.answers.specs.Answers.{refusal, verdict, judged, answer, is_found, list_answer}
use Rattle.answers.proofs.Demand1.{kept_all}
use Rattle.answers.proofs.Demand2.{start_first}
use Rattle.preparing.specs.Promise.{Prepares}
use Rattle.finding.specs.Found.{Found, Searchable, FoundIn, Finds}
use Rattle.finding.specs.Found as finding
use Rattle.instances.specs.Graph.{graph_words}
use Rattle.solving.specs.Promise.{Solvable, Solves}
use Rattle.engine.specs.Examined.{judgement, number_found, whole, counted, Judged, Answered, ReadFrom}
use Rattle.engine.specs.Examined.{ExaminedRecord, Examines}
use Rattle.engine.specs.declared.Examined.{Examined}
use Rattle.engine.specs.declared.Refused.{Refused}
use Rattle.engine.specs.Told.{due, answer_told, told}
use Rattle.engine.specs.Examined as examined
use Rattle.engine.proofs.ReadModel.{model_is, well_formed_model, start_is}

-- ---- truth values: joined with a constant
with_true : (b : Bool) → b ≡ (b && true)
with_true true = refl
with_true false = refl

with_false : (b : Bool) → (b && false) ≡ false
with_false true = refl
with_false false = refl

all_there : (over like : Bool) → (not over && like) ≡ true → over ≡ false
all_there true like e = never (eq→Is e)
all_there false like e = refl

-- ---- what was found in an accepted text: m is the model that was read, `prepared` are its bodies, prepared, `entry` and `exit`
-- are the table before and after, and `graph` is what was drawn on empty rows
pub record Searched (t : List ℕ) (m : ModelRecord) (bodies prepared entry exit rows graph : List ℕ) (w : ℕ) (r : Found) : Type 0
  where
    pub read : ReadFrom t m bodies
    pub prepares : Prepares bodies m.equations prepared
    pub named : w ≡ word (start_from m)
    pub finds : Finds prepared m.equations w (room_of (length entry)) entry exit rows graph r

module _ {t : List ℕ} {m : ModelRecord} {bodies prepared entry exit rows graph : List ℕ} {w : ℕ} {r : Found}
    (s : Searched t m bodies prepared entry exit rows graph w r) where
  abbrev room : ℕ
  room = room_of (length entry)

  abbrev ws : List ℕ
  ws = map word (list t)

  prepares : Prepares (reading t).bodies (reading t).model.equations prepared
  prepares = rw (s.read.records_same, s.read.bodies_same) at s.prepares

  searchable : Searchable prepared (reading t).model.equations w (reading t).model.count (the_start t)
  searchable = record {
    model = well_formed_model t s.read.accepted prepared prepares;
    named = rw (s.read.records_same, start_is t s.read.accepted) at s.named;
  }

  here : Finds prepared (reading t).model.equations w room entry exit rows graph r
  here = rw s.read.records_same at s.finds

  found : FoundIn (the_model t) (the_start t) room entry exit r
  found =
      rw (model_is t s.read.accepted prepared prepares) at (here.finds (reading t).model.count (the_start t) searchable)

  kept : exit ≡ take room ws ++ drop r.count entry
  unfolding list
  kept = found.table

  exit_is : exit ≡ kept_words t room ++ drop (length (kept_words t room)) entry
  unfolding list
  exit_is = kept ∙ ap (λ (n : ℕ). take room ws ++ drop n entry) found.count

  over : r.over ≡ ltb room (length (list t))
  unfolding list
  over = found.over

  -- the table has as many words
  pub inside : r.count ≤ length exit
  unfolding list
  inside = omega (arith, ap length kept, length-append (take room ws) (drop r.count entry), found.count)

  -- more were reached than there is room
  nine : r.over ≡ true → judged t room ≡ refusal 9 0
  unfolding judged
  nine h = rw (lt-leb (length (list t)) room (ltb-true room (length (list t)) (sym over ∙ h))) refl

  pub too_many : (told : Answer → Answer) → r.over ≡ true → {a : Answer} → a ≡ told (refusal 9 0) → Judged told t entry exit a
  too_many told h e = record { result = e ∙ sym (ap told (nine h)); table = exit_is }

  module _ (h : r.over ≡ false) where
    fits : length (list t) ≤ room
    fits = ltb-false room (length (list t)) (sym over ∙ h)

    all_kept : take room ws ≡ ws
    all_kept = kept_all t room fits

    count_is : r.count ≡ length (list t)
    unfolding list
    count_is = found.count ∙ ap length all_kept ∙ length-map (list t) word

    words_are : take r.count exit ≡ ws
    words_are = ap (take r.count) (kept ∙ ap (λ (l : List ℕ). l ++ drop r.count entry) all_kept)
        ∙ take_at ws (drop r.count entry) r.count (length-map (list t) word ∙ sym count_is)

    verdict_due : judged t room ≡ verdict t
    unfolding judged
    verdict_due = rw (le-leb (length (list t)) room fits) refl

    pub counted_so : {a : Answer} → a ≡ number_found r.count → Judged counted t entry exit a
    unfolding verdict
    counted_so e = record { result = e ∙ rw (verdict_due, count_is) refl; table = exit_is }

    -- drawn on empty rows
    module _ (sized : length rows ≡ graph_words) (empty : bit_of rows ≡ nowhere) where
      solvable : Solvable prepared (reading t).model.equations (reading t).model.count (take r.count exit)
          graph (the_start t)
      unfolding list
      solvable = record {
        model = well_formed_model t s.read.accepted prepared prepares;
        words = rw (model_is t s.read.accepted prepared prepares) words_are;
        drawn = here.draws (reading t).model.count (the_start t) searchable h sized empty;
      }

      short : length (shown_values t) ≤ 512
      unfolding shown_values
      short = omega (arith, length-map (list t) (truth_in (the_model t)), fits)

      first_value : get_or (shown_values t) 0 false ≡ truth_in (the_model t) (the_start t)
      unfolding shown_values
      first_value =
          ap (λ (l : List Instance). get_or (map (truth_in (the_model t)) l) 0 false) (start_first t s.read.accepted).1

      verdict_is : judgement (length (list t)) (truth_words (shown_values t)) ≡ verdict t
      unfolding verdict
      verdict_is = rw (truth_words_count (shown_values t) short, truth_words_bits (shown_values t) short, first_value) refl

      truth_is : (truth : List ℕ) → Solves prepared m.equations m.count (take r.count exit) graph truth
          → truth ≡ truth_words (shown_values t)
      unfolding list shown_values
      truth_is truth solves = rw (model_is t s.read.accepted prepared prepares) at
          (rw s.read.records_same at solves (the_start t) solvable)

      -- what is judged of the solution is the verdict
      pub verdict_so : {truth : List ℕ} → Solves prepared m.equations m.count (take r.count exit) graph truth
          → {a : Answer} → a ≡ judgement r.count truth → a ≡ verdict t
      verdict_so {truth} solves g = g ∙ ap₂ judgement count_is (truth_is truth solves) ∙ verdict_is

      pub judged_so : {truth : List ℕ} → Solves prepared m.equations m.count (take r.count exit) graph truth
          → {a : Answer} → a ≡ judgement r.count truth → Judged whole t entry exit a
      judged_so solves g = record { result = verdict_so solves g ∙ sym verdict_due; table = exit_is }

  -- a lent list is the reached one where all are found, with room for 512, and it has the same words
  pub compared : length entry ≡ 512 → (lent : List ℕ)
      → is_found t lent ≡ (not r.over && same lent (take r.count exit))
  unfolding is_found ◌and◌
  compared long lent = by_room r.over refl
    where
      by_words : (most : Bool) → leb (length ws) 512 ≡ most → (b : Bool) → same lent ws ≡ b
          → (b and leb (length lent) 512) ≡ (most && b)
      by_words most e true w = rw (same_eq lent ws (eq→Is w), e) (with_true most)
      by_words most e false w = sym (with_false most)

      by_room : (b : Bool) → r.over ≡ b
          → (same lent ws and leb (length lent) 512) ≡ (not b && same lent (take r.count exit))
      by_room true e =
          let more = ltb-true room (length (list t)) (sym over ∙ e) in
          by_words false (lt-leb (length ws) 512 (omega (arith, length-map (list t) word, long))) (same lent ws) refl
      by_room false e = rw (words_are e)
          (by_words true (le-leb (length ws) 512 (omega (arith, length-map (list t) word, fits e))) (same lent ws) refl)

  -- `like` tells whether a lent list has the words found, `right` that it has them if it is lent, and `all` that all were
  -- found besides
  module _ (list : List ℕ) {lent like right all : Bool} (l : like ≡ same list (take r.count exit))
      (i : right ≡ cond lent like true) (e : all ≡ (not r.over && right)) where
    found_is : lent ≡ true → length entry ≡ 512 → is_found t list ≡ all
    found_is given long = rw (compared long list, ← l) (sym (rw (i, given) at e))

    -- what is solved is answered
    pub examined_so : all ≡ true → length rows ≡ graph_words → bit_of rows ≡ nowhere → {truth : List ℕ}
        → Solves prepared m.equations m.count (take r.count exit) graph truth
        → {a : Answer} → a ≡ judgement r.count truth → Answered t entry exit list lent a
    examined_so right sized empty solves g =
        let found = all_there r.over _ (sym e ∙ right) in
        record {
          checks = λ _. judged_so found sized empty solves g;
          solves = λ given long. rw (found_is given long, right) (verdict_so found sized empty solves g);
        }

-- ---- how many words are to be solved, or why none are
module _ (exit : List ℕ) where
  -- those that were found, which a lent list has
  due_ok : (found : Option ℕ) (list : Option (List ℕ)) {n : ℕ} → due found exit list ≡ Ok n
      → (found ≡ Some n) × ((l : List ℕ) → list ≡ Some l → same l (take n exit) ≡ true)
  due_ok None None e = absurd cc
  due_ok None (Some l) e = absurd cc
  due_ok (Some k) None e = (cc, λ l f. absurd cc)
  due_ok (Some k) (Some l) {n} e = of (same l (take k exit)) refl e
    where
      of : (b : Bool) → same l (take k exit) ≡ b → cond {A = Result ℕ Reason} b (Ok k) (Err AnotherList) ≡ Ok n
          → (Some k ≡ Some n) × ((j : List ℕ) → Some l ≡ Some j → same j (take n exit) ≡ true)
      of true is e = (cc, λ j f. cc)
      of false is e = absurd cc

  -- a lent list is another
  other_list : (found : Option ℕ) (l : List ℕ) {reason : Reason} → due found exit (Some l) ≡ Err reason
      → (reason ≡ AnotherList) × ((n : ℕ) → found ≡ Some n → same l (take n exit) ≡ false)
  other_list None l e = (cc, λ n f. absurd cc)
  other_list (Some k) l {reason} e = of (same l (take k exit)) refl e
    where
      of : (b : Bool) → same l (take k exit) ≡ b → cond {A = Result ℕ Reason} b (Ok k) (Err AnotherList) ≡ Err reason
          → (reason ≡ AnotherList) × ((n : ℕ) → Some k ≡ Some n → same l (take n exit) ≡ false)
      of true is e = absurd cc
      of false is e = (cc, λ n f. cc)

pub searched : {t : List ℕ} {m : ModelRecord} {bodies prepared entry exit rows graph : List ℕ} {w : ℕ} {r : Found}
    → ReadFrom t m bodies → Prepares bodies m.equations prepared → w ≡ word (start_from m)
    → Finds prepared m.equations w (room_of (length entry)) entry exit rows graph r
    → Searched t m bodies prepared entry exit rows graph w r
searched read prepares named finds = record { read = read; prepares = prepares; named = named; finds = finds }

abbrev pub SearchedSo : List ℕ → ModelRecord → (bodies prepared entry exit rows graph : List ℕ) → ℕ → Option ℕ → Type 0
SearchedSo t m bodies prepared entry exit rows graph w f =
    Searched t m bodies prepared entry exit rows graph w (finding.told (room_of (length entry)) f)

module _ {t : List ℕ} {m : ModelRecord} {bodies prepared entry exit rows graph : List ℕ} {w : ℕ} where
  -- the table has as many words
  pub found_inside : (found : Option ℕ) → SearchedSo t m bodies prepared entry exit rows graph w found
      → IfSome found (λ n. n ≤ length exit)
  found_inside None s = tt
  found_inside (Some n) s = inside s

  pub due_inside : (found : Option ℕ) (list : Option (List ℕ)) {n : ℕ}
      → SearchedSo t m bodies prepared entry exit rows graph w found → due found exit list ≡ Ok n
      → n ≤ length exit
  due_inside found list s e =
      inside (subst (SearchedSo t m bodies prepared entry exit rows graph w) (due_ok exit found list e).0 s)

  -- what is solved is answered
  pub due_solved : (found : Option ℕ) (list : Option (List ℕ)) {n : ℕ}
      → SearchedSo t m bodies prepared entry exit rows graph w found → due found exit list ≡ Ok n
      → length rows ≡ graph_words → bit_of rows ≡ nowhere → {truth : List ℕ}
      → Solves prepared m.equations m.count (take n exit) graph truth
      → {a : Answer} → a ≡ judgement n truth → Answered t entry exit (unwrap_or list []) (is_some list) a
  due_solved found list {n} s e sized empty {truth} solves {a} g = record {
    checks = λ _. judged_so all refl sized empty solves g;
    solves = right list (due_ok exit found list e).1;
  }
    where
      all : SearchedSo t m bodies prepared entry exit rows graph w (Some n)
      all = subst (SearchedSo t m bodies prepared entry exit rows graph w) (due_ok exit found list e).0 s

      right : (l : Option (List ℕ)) → ((j : List ℕ) → l ≡ Some j → same j (take n exit) ≡ true) → is_some l ≡ true
          → length entry ≡ 512 → a ≡ cond (is_found t (unwrap_or l [])) (verdict t) (refusal 11 0)
      right None like given long = never (eq→Is given)
      right (Some j) like given long =
          rw (compared all long j, like j refl) (verdict_so all refl sized empty solves g)

  -- and what is not is refused: no list is lent, and more were reached than there is room
  none_due : (found : Option ℕ) {reason : Reason}
      → SearchedSo t m bodies prepared entry exit rows graph w found → due found exit None ≡ Err reason
      → Answered t entry exit [] false (refusal (number_of reason) 0)
  none_due None s e = record {
    checks = λ _. too_many s whole refl (no_room cc);
    solves = λ given. never (eq→Is given);
  }
    where
      no_room : {reason : Reason} → reason ≡ NoRoom → refusal (number_of reason) 0 ≡ refusal 9 0
      no_room same = ap (λ (r : Reason). refusal (number_of r) 0) same
  none_due (Some n) s e = absurd cc

  -- or a list that is another
  other_due : (found : Option ℕ) (l : List ℕ) {reason : Reason}
      → SearchedSo t m bodies prepared entry exit rows graph w found → due found exit (Some l) ≡ Err reason
      → Answered t entry exit l true (refusal (number_of reason) 0)
  other_due found l {reason} s e = record {
    checks = λ given. never (eq→Is (sym given));
    solves = λ _ long. wrong found s (other_list exit found l e).1 long;
  }
    where
      eleven : refusal (number_of reason) 0 ≡ refusal 11 0
      eleven = ap (λ (r : Reason). refusal (number_of r) 0) (other_list exit found l e).0

      wrong : (found : Option ℕ) → SearchedSo t m bodies prepared entry exit rows graph w found
          → ((n : ℕ) → found ≡ Some n → same l (take n exit) ≡ false)
          → length entry ≡ 512 → refusal (number_of reason) 0 ≡ cond (is_found t l) (verdict t) (refusal 11 0)
      wrong None s other long = rw (compared s long l) eleven
      wrong (Some n) s other long = rw (compared s long l, other n refl) eleven

  pub due_refused : (found : Option ℕ) (list : Option (List ℕ)) {reason : Reason}
      → SearchedSo t m bodies prepared entry exit rows graph w found → due found exit list ≡ Err reason
      → Answered t entry exit (unwrap_or list []) (is_some list) (refusal (number_of reason) 0)
  due_refused found None s e = none_due found s e
  due_refused found (Some l) s e = other_due found l s e

-- ---- a refusal that is handed on
pub answer_handed_on : (r : Result Answer Reason) (reason : Reason) → IsErrAnd r (λ e. e ≡ reason)
    → answer_told r ≡ refusal (number_of reason) 0
answer_handed_on (Ok a) reason h = absurd h
answer_handed_on (Err e) reason h = rw h refl

-- no model was read
abbrev pub text_refused : Refusal → Result Examined Refused
text_refused refused = Err (record { refusal = refused; model = None })

pub handed_on : (r : Result Examined Refused) (refused : Refusal)
    → IsErrAnd r (λ e. e ≡ record { refusal = refused; model = None }) → told r ≡ told (text_refused refused)
handed_on (Ok a) refused h = absurd h
handed_on (Err e) refused h = rw h refl

-- ---- the whole text: what was read of it
-- it is not refused
pub from_text : (t : List ℕ) {r : Reading} → records.told (Ok r) ≡ reading t → ReadFrom t (model_told r.model) r.bodies
unfolding reading
from_text t e = record {
  accepted = sym (ap (λ (r : ReadingRecord). r.number) e);
  records_same = ap (λ (r : ReadingRecord). r.model) e;
  bodies_same = ap (λ (r : ReadingRecord). r.bodies) e;
}

-- it is
module _ (t : List ℕ) (r : Refusal) (e : records.told (Err r) ≡ reading t) where
  not_zero : (text_refusal t).number ≡ 0 → ⊥
  unfolding reading
  not_zero z = some_number r.reason (ap (λ (r : ReadingRecord). r.number) e ∙ z)

  as_text : refusal (number_of r.reason) r.line ≡ refusal (text_refusal t).number (text_refusal t).line
  unfolding reading
  as_text = ap (λ (r : ReadingRecord). refusal r.number r.line) e

  pub examined_refused : {entry : List ℕ} → Examines whole t entry (told (text_refused r)) entry
  unfolding answer table_after
  examined_refused = record {
    answered = as_text ∙ rw (ne_eqb _ _ not_zero) refl;
    read = ap (λ (r : ReadingRecord). r.model) e;
    listed = rw (ne_eqb _ _ not_zero) refl;
  }

  -- a refusal is told by number and line alone
  pub counted_refused : {entry : List ℕ} → Examines counted t entry (told (text_refused r)) entry
  counted_refused {entry} =
      let x = examined_refused {entry = entry} in
      record { answered = as_text ∙ sym (ap counted as_text) ∙ ap counted x.answered; read = x.read; listed = x.listed }

  pub solved_refused : {lent : List ℕ} → examined.Solves t lent (told (text_refused r))
  unfolding list_answer
  solved_refused =
      record { answered = as_text ∙ rw (ne_eqb _ _ not_zero) refl; read = ap (λ (r : ReadingRecord). r.model) e }

module _ {t bodies : List ℕ} {m : ModelRecord} (f : ReadFrom t m bodies) {e : ExaminedRecord} (is : e.model ≡ (reading t).model)
  where
    pub examined_judged : {shown : Answer → Answer} {entry exit : List ℕ} → Judged shown t entry exit e.answer
        → Examines shown t entry e exit
    unfolding answer table_after
    examined_judged j = record {
      answered = j.result ∙ rw (eq-eqb _ _ f.accepted) refl;
      read = is;
      listed = j.table ∙ rw (eq-eqb _ _ f.accepted) refl;
    }

    pub examined_solved : {lent : List ℕ} → e.answer ≡ cond (is_found t lent) (verdict t) (refusal 11 0)
        → examined.Solves t lent e
    unfolding list_answer
    examined_solved j = record { answered = j ∙ rw (eq-eqb _ _ f.accepted) refl; read = is }
