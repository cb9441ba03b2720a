-- ONE REPLY: for each public function, and for every operation that promises `Writes` or `Prints`, two
-- replies that are allowed are equal. Each promise is an equation of the reply and one of the buffer.
use Rattle.std.specs.Prelude.{ℕ, ◌≡◌, List, Result}
use Rattle.meaning.specs.OneReply.{one_reply}
use Rattle.refusals.specs.declared.Refusal.{Refusal as WhyNot}
use Rattle.reading.specs.Reading.{Refusal}
use Rattle.writing.specs.declared.Writing.{Writing}
use Rattle.writing.specs.Writing.{refusal_reply, refusal_written, reply_to, Writes, BytesPut}
use Rattle.writing.specs.Printed.{Prints, Shows}

pub one_refuse : (number line : ℕ) {r s : Writing}
    → r ≡ refusal_reply number line → s ≡ refusal_reply number line → r ≡ s
one_refuse number line = one_reply

pub one_refusal_written : (refusal : WhyNot) {r s : Writing}
    → r ≡ refusal_written refusal → s ≡ refusal_written refusal → r ≡ s
one_refusal_written refusal = one_reply

pub one_reply_to : (written : Result ℕ WhyNot) {r s : Writing} → r ≡ reply_to written → s ≡ reply_to written
    → r ≡ s
one_reply_to written = one_reply

pub one_put : (out : List ℕ) (at : ℕ) (bytes : List ℕ) {r s : ℕ} {xs ys : List ℕ}
    → BytesPut out at bytes r xs → BytesPut out at bytes s ys → (r ≡ s) × (xs ≡ ys)
one_put out at bytes p q = (one_reply p.place q.place, one_reply p.written q.written)

pub one_show : (reply : Writing) (out : List ℕ) {r s : ℕ} {xs ys : List ℕ}
    → Shows reply out r xs → Shows reply out s ys → (r ≡ s) × (xs ≡ ys)
one_show reply out p q = (one_reply p.counted q.counted, one_reply p.shown q.shown)

pub one_writes : {r : Refusal} {text out : List ℕ} {v w : Writing} {xs ys : List ℕ}
    → Writes r text out v xs → Writes r text out w ys → (v ≡ w) × (xs ≡ ys)
one_writes p q = (one_reply p.answered q.answered, one_reply p.written q.written)

pub one_prints : {longest : ℕ} {shown out : List ℕ} {m n : ℕ} {xs ys : List ℕ}
    → Prints longest shown out m xs → Prints longest shown out n ys → (m ≡ n) × (xs ≡ ys)
one_prints p q = (one_reply p.counted q.counted, one_reply p.printed q.printed)
