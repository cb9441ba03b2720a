-- What C gets of an operation that writes a text, or of finding: its reply as a word, and the lent place as it left it.
-- The word is that of the reply, so nothing of the operation is opened.
use Prim.Native.Nat.{ℕ, ◌≤◌}
use mathlib.Core.Path.{◌≡◌, refl, sym, ap, ◌∙◌}
use mathlib.Core.List.{List}
use lib.ListN.{length}
use Rattle.std.specs.Prelude.{Ok, Err}
use Rattle.reading.specs.Reading.{Refusal}
use Rattle.writing.specs.declared.Writing.{Writing}
use Rattle.writing.specs.Writing.{refusal_written, Writes}
use Rattle.answers.specs.declared.Answer.{Answer}
use Rattle.answers.specs.Answers.{verdict, answer, checked}
use Rattle.answers.proofs.Demand1.{line_at_most_32769}
use Rattle.answers.proofs.Demand2.{answered}
use Rattle.engine.specs.declared.Examined.{Examined}
use Rattle.engine.specs.declared.Refused.{Refused}
use Rattle.engine.specs.Examined.{counted, Examines}
use Rattle.engine.specs.Told.{told}
use Rattle.checker.specs.Promises.{reply_word, count_reply, WritesForC, FindsForC}

pub for_c : {r : Refusal} {text out left : List ℕ} {w : Writing} {word : ℕ} → Writes r text out w left
    → word ≡ reply_word w → WritesForC r text out word left
for_c p e = record { answered = e ∙ ap reply_word p.answered; written = p.written }

module _ (t table : List ℕ) {left : List ℕ} where
  -- a search that is not refused has line 0
  pub found_for_c : (e : Examined) → e.answer.number ≡ 0 → Examines counted t table (told (Ok e)) left → {word : ℕ}
      → word ≡ reply_word (record { number = 0; line = 0; length = e.answer.reached }) → FindsForC t table word left
  unfolding verdict
  found_for_c e zero p w =
      let none : (answer t (length table)).number ≡ 0 = sym (ap (λ (a : Answer). a.number) p.answered) ∙ zero in
      let due = answered t (length table) none in
      let counts = ap (λ (a : Answer). a.reached) p.answered ∙ ap (λ (a : Answer). a.reached) due in
      record { answered = w ∙ rw (due, counts) refl; listed = p.listed }

  pub refused_low : (r : Refused) → Examines counted t table (told (Err r)) left → r.refusal.line ≤ 32769
  unfolding checked
  refused_low r p = rw (ap (λ (a : Answer). a.line) p.answered) (line_at_most_32769 t 8 (length table))

  pub refused_for_c : (r : Refused) → Examines counted t table (told (Err r)) left → {word : ℕ}
      → word ≡ reply_word (refusal_written r.refusal) → FindsForC t table word left
  refused_for_c r p w = record { answered = w ∙ ap (λ (a : Answer). reply_word (count_reply a)) p.answered; listed = p.listed }
