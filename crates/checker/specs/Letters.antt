-- THEOREMS: the case of its letters changes nothing of what C gets for a text and finds in what is lent: for
-- a text and for the same in small letters two replies that the promises allow are equal.
-- Each promise is an equation, whose right side is the same for both texts.
use Rattle.std.specs.Prelude.{ℕ, ◌≡◌, refl, List, length}
use Rattle.std.proofs.Common.{ap, ◌∙◌}
use Rattle.std.proofs.lemmas.List.{length-map}
use Rattle.meaning.specs.OneReply.{one_reply}
use Rattle.digits.specs.Digits.{small_letter, in_small_letters}
use Rattle.reading.specs.Reading.{Refusal}
use Rattle.answers.proofs.Letters.{answer_in_small, table_in_small, printed_in_small, printed_solved_in_small}
use Rattle.printing.specs.Promise.{Written, SolvedWritten}
use Rattle.writing.specs.Writing.{reply_of}
use Rattle.translator.specs.Letters.{translated_in_small, translation_in_small}
use Rattle.replacer.specs.Replaced.{replaced_text, replacement_refusal}
use Rattle.replacer.proofs.Letters.{replaced_in_small, replacement_in_small}
use Rattle.checker.specs.Promises.{FindsForC, TranslatesForC, ReplacesForC, reply_word}

reply_in_small : (r : Refusal) (text : List ℕ) → reply_of r (in_small_letters text) ≡ reply_of r text
unfolding reply_of
reply_in_small r text = rw (length-map text small_letter) refl

module _ (t : List ℕ) where
  -- ---- checking and solving: what is printed
  pub printing_alike : {out xs ys : List ℕ} {m n : ℕ}
      → Written t out m xs → Written (in_small_letters t) out n ys → (m ≡ n) × (xs ≡ ys)
  printing_alike p q = (
    one_reply p.counted (rw (printed_in_small t) at q.counted),
    one_reply p.printed (rw (printed_in_small t) at q.printed),
  )

  pub solving_alike_for_c : (lent : List ℕ) {out xs ys : List ℕ} {m n : ℕ}
      → SolvedWritten t lent out m xs → SolvedWritten (in_small_letters t) lent out n ys → (m ≡ n) × (xs ≡ ys)
  solving_alike_for_c lent p q = (
    one_reply p.counted (rw (printed_solved_in_small t lent) at q.counted),
    one_reply p.printed (rw (printed_solved_in_small t lent) at q.printed),
  )

  -- ---- finding
  pub find_alike_for_c : {table ws vs : List ℕ} {v w : ℕ}
      → FindsForC t table v ws → FindsForC (in_small_letters t) table w vs → (v ≡ w) × (ws ≡ vs)
  find_alike_for_c {table} p q = (
    one_reply p.answered (rw (answer_in_small t (length table)) at q.answered),
    one_reply p.listed (q.listed ∙ table_in_small t table),
  )

  -- ---- translating
  pub translation_alike : {out xs ys : List ℕ} {v w : ℕ}
      → TranslatesForC t out v xs → TranslatesForC (in_small_letters t) out w ys → (v ≡ w) × (xs ≡ ys)
  translation_alike {out} p q =
      let r = translation_in_small t (length out) in
      let text = translated_in_small t in (
        one_reply p.answered (rw (r, text) at q.answered),
        one_reply p.written (rw (r, text) at q).written,
      )

  -- ---- replacing: the same refusal, or a text of the same length; `replaced_in_small` says which
  pub replacement_alike : (e : ℕ) (side : List ℕ) {out xs ys : List ℕ} {v w : ℕ}
      → ReplacesForC t e side out v xs → ReplacesForC (in_small_letters t) e side out w ys → v ≡ w
  replacement_alike e side {out} p q =
      let r = replacement_in_small t e side (length out) in
      let text = replaced_in_small t e side in
      let long = reply_in_small (replacement_refusal t e side (length out)) (replaced_text t e side) in
      one_reply p.answered ((rw (r, text) at q.answered) ∙ ap reply_word long)
