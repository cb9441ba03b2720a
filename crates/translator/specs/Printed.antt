-- DEFINITIONS: what the command `translate` prints for a text.
-- The text of the model, or the line of the refusal, in a buffer that has room for every text.
use Rattle.std.specs.Prelude.{ℕ, ◌≡◌, List}
use Rattle.writing.specs.Printed.{printed, Prints}
use Rattle.writing.specs.OneReply.{one_prints}
use Rattle.translator.specs.Answers.{translated_text, translation_refusal}

-- no text of a model is longer: eight lines of 513 characters and one of 13
abbrev pub longest_text : ℕ
longest_text = 4117

abbrev pub printed_translation : List ℕ → List ℕ
printed_translation t = printed (translation_refusal t longest_text) (translated_text t)

abbrev pub PrintsTranslation : List ℕ → List ℕ → ℕ → List ℕ → Type 0
PrintsTranslation t out n left = Prints longest_text (printed_translation t) out n left

pub one_printing : (t out : List ℕ) {m n : ℕ} {xs ys : List ℕ}
    → PrintsTranslation t out m xs → PrintsTranslation t out n ys → (m ≡ n) × (xs ≡ ys)
one_printing t out = one_prints
