-- Definitions that the theorems of `proofs/Samples` speak of.
-- Each stands alone; what follows from them is there.
use Rattle.std.specs.Prelude.{ℕ, zero, suc, ◌+◌, ◌-◌, cond, List, [], ◌∷◌, ◌++◌, map, eqb, ltb, length, take}
use Rattle.std.specs.Prelude.{drop, replicate}
use Prim.Native.Char.{code}
use Prim.Native.String.{String, len, char_at}
use Rattle.meaning.specs.Logic.{◌or◌}
use Rattle.meaning.specs.Reach.{reached}
use Rattle.meaning.specs.Words.{word}
use Rattle.answers.specs.declared.Answer.{Answer}
use Rattle.answers.specs.Answers.{refusal, answer}
use Rattle.answers.specs.Answers.{checked, table_after_check}
use Rattle.answers.specs.Answers.{solved}
use Rattle.answers.specs.Printed.{printed}

-- the bytes of a quoted text: n of them from place p on; all of them
unfoldable pub bytes_from : String → ℕ → ℕ → List ℕ
bytes_from s p zero = []
bytes_from s p (suc n) = code (char_at s p) ∷ bytes_from s (p + 1) n

unfoldable pub bytes : String → List ℕ
bytes s = bytes_from s 0 (len s)

-- so many words lent for the table; then the answer, and the words that are kept in the table
pub record Lending : Type 0 where
  pub words_lent : ℕ
  pub answer : Answer
  pub kept : List ℕ

-- a text; what the checking program prints for it; the answers and tables, for one or more lengths lent
pub record Sample : Type 0 where
  pub text : String
  pub output : String
  pub lendings : List Lending

abbrev sample : String → String → List Lending → Sample
sample text output lendings = record { text = text; output = output; lendings = lendings }

abbrev lending : ℕ → Answer → List ℕ → Lending
lending words_lent answer kept = record { words_lent = words_lent; answer = answer; kept = kept }

-- 512 words lent and no other length
abbrev full : Answer → List ℕ → List Lending
full answer kept = lending 512 answer kept ∷ []

-- eight words, of which the first has bits
abbrev eight : ℕ → List ℕ
eight word = word ∷ replicate 7 0

-- the counts of reached and of true instances, and their truth: instance 0 is the last of these binary digits
abbrev holds_with : ℕ → ℕ → ℕ → Answer
holds_with reached trues truth =
    record { number = 0; line = 0; verdict = 1; reached = reached; trues = trues; truth = eight truth }

abbrev fails_with : ℕ → ℕ → ℕ → Answer
fails_with reached trues truth =
    record { number = 0; line = 0; verdict = 0; reached = reached; trues = trues; truth = eight truth }

abbrev pub samples : List Sample
samples =
    sample "0100001a0000\n0200\n" "040000\n050000010000\n"
    (full (fails_with 1 0 0b0) (0 ∷ [])) ∷
    sample "0101001a0000\n0200\n" "040001\n050100010001\n"
    (full (holds_with 1 1 0b1) (0 ∷ [])) ∷
    sample "0100001a0100\n0101001a0000\n0200\n" "040000\n040100\n050000020000\n"
    (full (fails_with 2 0 0b00) (0 ∷ 65_536 ∷ [])) ∷
    sample "0101001a0100\n0100001a0000\n0201\n" "040101\n040001\n050100020002\n"
    (full (holds_with 2 2 0b11) (65_536 ∷ 0 ∷ [])) ∷
    sample "010101031a0001220321002001\n020000\n" "04000001\n04000101\n04000201\n050100030003\n"
    (lending 512 (holds_with 3 3 0b111) (0 ∷ 4_096 ∷ 8_192 ∷ []) ∷
    lending 3 (holds_with 3 3 0b111) (0 ∷ 4_096 ∷ 8_192 ∷ []) ∷
    lending 2 (refusal 9 0) (0 ∷ 4_096 ∷ []) ∷
    []) ∷
    sample "010001031a0001220321002001\n020000\n" "04000000\n04000100\n04000200\n050000030000\n"
    (full (fails_with 3 0 0b000) (0 ∷ 4_096 ∷ 8_192 ∷ [])) ∷
    sample "010001041317210020011a0001220421002001\n020001\n"
    "04000101\n04000201\n04000301\n04000001\n050100040004\n"
    (full (holds_with 4 4 0b1111) (4_096 ∷ 8_192 ∷ 12_288 ∷ 0 ∷ [])) ∷
    sample "01000012101a0100\n0101001a0100\n0200\n" "040000\n050000010000\n"
    (full (fails_with 1 0 0b0) (0 ∷ [])) ∷
    sample "01000014031721002002\n0200\n" "040000\n050000010000\n"
    (full (fails_with 1 0 0b0) (0 ∷ [])) ∷
    sample "01000015031721002002\n0200\n" "040001\n050100010001\n"
    (full (holds_with 1 1 0b1) (0 ∷ [])) ∷
    sample "0200\n" "06040001\n"
    (full (refusal 4 1) []) ∷
    -- request 2026-02: "The 01 case `0100001A0000/0200` now fails, 1, 0"; both cases in one byte; a letter
    -- past F
    sample "0100001A0000\n0200\n" "040000\n050000010000\n"
    (full (fails_with 1 0 0b0) (0 ∷ [])) ∷
    sample "03aBFf\n0101001A0000\n0200\n" "040001\n050100010001\n"
    (full (holds_with 1 1 0b1) (0 ∷ [])) ∷
    sample "0100001G0000\n0200\n" "06020001\n"
    (full (refusal 2 1) []) ∷
    -- request 2026-04: "the 01 case with `2304` fails, 1, 0"; 2-3 is 3; down from 1 a counter comes to 2
    sample "010000162304200220032000\n0200\n" "040000\n050000010000\n"
    (full (fails_with 1 0 0b0) (0 ∷ [])) ∷
    sample "010000162304200220032003\n0200\n" "040001\n050100010001\n"
    (full (holds_with 1 1 0b1) (0 ∷ [])) ∷
    sample "010001041316210020021a0001230421002001\n020001\n"
    "04000101\n04000001\n04000301\n04000201\n050100040004\n"
    (full (holds_with 4 4 0b1111) (4_096 ∷ 0 ∷ 12_288 ∷ 8_192 ∷ [])) ∷
    []

-- the words that are lent, as they were
abbrev pub lent : ℕ → List ℕ
lent n = replicate n 0xffff_ffff

-- lists that are not that of the words ws: with no word, with the first or the last word left out, with one
-- word more, with the first word another
abbrev pub others : List ℕ → List (List ℕ)
others ws = [] ∷ drop 1 ws ∷ take (length ws - 1) ws ∷ (ws ++ (0 ∷ [])) ∷ (0xffff ∷ drop 1 ws) ∷ []

-- what solving answers, where eight records are lent, to the words that were kept, to the same with the first
-- one behind the others, and to each of those lists
abbrev pub solving : List ℕ → List ℕ → List Answer
solving t ws = map (solved t 8) (ws ∷ (drop 1 ws ++ take 1 ws) ∷ others ws)

-- 11 for the words that are kept on 9, and for what is not the list; a text that is refused is refused first
abbrev pub not_the_list : Answer → Answer
not_the_list a = cond (eqb a.number 0 or eqb a.number 9) (refusal 11 0) a

abbrev pub solving_due : Answer → List ℕ → List Answer
solving_due a ws =
    cond (eqb a.number 9) (refusal 11 0) a ∷ cond (ltb 1 (length ws)) (not_the_list a) a
    ∷ replicate 5 (not_the_list a)

-- the answer where eight records and so many words are lent, what the table then holds, and solving
abbrev pub given : List ℕ → Lending → Answer × (List ℕ × List Answer)
given t l = (
  checked t 8 l.words_lent,
  (table_after_check t 8 (lent l.words_lent), solving t l.kept),
)

-- the answer of document 01; its words, and the rest of the table untouched; what request 2026-05 says
abbrev pub promised : Lending → Answer × (List ℕ × List Answer)
promised l = (
  l.answer,
  (l.kept ++ drop (length l.kept) (lent l.words_lent), solving_due l.answer l.kept),
)

abbrev pub outcome : Sample → List ℕ × List (Answer × (List ℕ × List Answer))
outcome s = (printed (bytes s.text), map (given (bytes s.text)) s.lendings)

abbrev pub expected : Sample → List ℕ × List (Answer × (List ℕ × List Answer))
expected s = (bytes s.output, map promised s.lendings)
