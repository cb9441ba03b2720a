-- DEFINITIONS: what comes back for a text, and what every lent place holds afterwards. Document 01, "Numbers
-- of refusal", "What is lent", "Meaning and reach"; request 2026-05.
-- Everything is a function of the text and of the lengths lent; the order of the refusals is the order of the
-- tests.
use Rattle.std.specs.Prelude.{ℕ, min, Bool, false, cond, List, [], ◌∷◌, ◌++◌, map, eqb, ltb, leb, length}
use Rattle.std.specs.Prelude.{take, drop, replicate}
use Rattle.meaning.specs.Logic.{◌and◌}
use Rattle.meaning.specs.Solution.{same}
use Rattle.meaning.specs.Models.{Model, meaning}
use Rattle.meaning.specs.Reach.{Instance, reached}
use Rattle.meaning.specs.Words.{word}
use Rattle.frames.specs.Frames.{frames}
use Rattle.reading.specs.Models.{model_of, start_in}
use Rattle.reading.specs.Reading.{text_refusal}
use Rattle.truth.specs.Bits.{bit}
use Rattle.truth.specs.Words.{truth_words, count_true}
use Rattle.answers.specs.declared.Answer.{Answer}

-- the model in a text, and its start
abbrev pub the_model : List ℕ → Model
the_model t = model_of (frames t).all

abbrev pub the_start : List ℕ → Instance
the_start t = start_in (frames t).all

-- the list: the reached instances in order of finding
unfoldable pub list : List ℕ → List Instance
list t = reached (the_model t) (the_start t)

-- the value of an instance: the solution of the whole model there
unfoldable pub truth_in : Model → Instance → Bool
truth_in model [] = false
truth_in model (e ∷ x) = meaning model e x

unfoldable pub shown_values : List ℕ → List Bool
shown_values t = map (truth_in (the_model t)) (list t)

-- "room is its length, or 512 where it is longer"
abbrev pub room_of : ℕ → ℕ
room_of length_lent = min length_lent 512

-- "On refusal all 512 bits are clear"; "both counts are 0, and so is any field for the verdict"
abbrev pub refusal : ℕ → ℕ → Answer
refusal number line = record {
  number = number;
  line = line;
  verdict = 0;
  reached = 0;
  trues = 0;
  truth = replicate 8 0;
}

-- "Each answer carries number and line, both 0 on a verdict": the value of the start, the two counts, the
-- truth of the list
unfoldable pub verdict : List ℕ → Answer
verdict t = record {
  number = 0;
  line = 0;
  verdict = bit (truth_in (the_model t) (the_start t));
  reached = length (list t);
  trues = count_true (shown_values t);
  truth = truth_words (shown_values t);
}

-- 1 to 8 as reading gives them, then what is said of a text that is read
abbrev pub after_text : List ℕ → Answer → Answer
after_text t said =
    cond (eqb (text_refusal t).number 0) said (refusal (text_refusal t).number (text_refusal t).line)

-- "Where the list has fewer than eight records the answer is 5, line 0, before any other refusal, and nothing
-- is touched"
abbrev pub after_records : ℕ → Answer → Answer
after_records records_lent said = cond (ltb records_lent 8) (refusal 5 0) said

-- "more reached instances than room (line 0)"
unfoldable pub judged : List ℕ → ℕ → Answer
judged t room = cond (leb (length (list t)) room) (verdict t) (refusal 9 0)

-- the answer for a text and a table of so many words: 1 to 8 as reading gives them, then 9, then the verdict
unfoldable pub answer : List ℕ → ℕ → Answer
answer t words_lent = after_text t (judged t (room_of words_lent))

-- "On a verdict with n reached, the first n words are the list and the rest is untouched. Refusals 1 to 8
-- touch none.
-- Refusal 9 leaves the first instances found, filling the room, the rest untouched."
abbrev pub kept_words : List ℕ → ℕ → List ℕ
kept_words t room = take room (map word (list t))

unfoldable pub table_after : List ℕ → List ℕ → List ℕ
table_after t table =
    cond (eqb (text_refusal t).number 0)
    (kept_words t (room_of (length table)) ++ drop (length (kept_words t (room_of (length table)))) table)
    table

-- where records are lent too
unfoldable pub checked : List ℕ → ℕ → ℕ → Answer
checked t records_lent words_lent = after_records records_lent (answer t words_lent)

unfoldable pub table_after_check : List ℕ → ℕ → List ℕ → List ℕ
table_after_check t records_lent table = cond (ltb records_lent 8) table (table_after t table)

-- ---- solving a list that is lent
-- request 2026-05: not when "the whole lent list isn't the reached list of that model or has over 512 words"
unfoldable pub is_found : List ℕ → List ℕ → Bool
is_found t lent = same lent (map word (list t)) and leb (length lent) 512

-- "11 .. comes after 8, with line 0"; "The list's length is no room there, so solving alone never gives 9"
unfoldable pub list_answer : List ℕ → List ℕ → Answer
list_answer t lent = after_text t (cond (is_found t lent) (verdict t) (refusal 11 0))

-- where records are lent too
unfoldable pub solved : List ℕ → ℕ → List ℕ → Answer
solved t records_lent lent = after_records records_lent (list_answer t lent)
